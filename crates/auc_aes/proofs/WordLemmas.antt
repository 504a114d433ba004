-- Blocks as words, and the steps of the cipher and of the key schedule on them.
use Rattle.std.proofs.Common.{◌≡◌, ℕ, zero, suc, ◌<◌, List, [], ◌∷◌, ◌++◌, length, get_or, bit_xor, refl, ap, ◌∙◌, arith}
use Rattle.std.specs.Int.{w32, to_be_bytes, from_be_bytes}
use Rattle.std.specs.Int.Bits.{xor_zero_r}
use Rattle.std.proofs.lemmas.Nat.{be_bytes_4}
use Rattle.auc_aes.specs.Bytes.{xor}
use Rattle.auc_aes.specs.Inner.{block_of_words, mixed_column}
use Rattle.auc_aes.specs.Field.{sub_byte}
use Rattle.auc_aes.specs.Cipher.{sub_bytes, shift_rows, mix_columns, schedule_word, next_key, full_round, final_round}
use Rattle.auc_aes.proofs.BytesLemmas.{listed, to_be_bytes-xor}

-- the bytes of the word of four bytes
pub word_is : (a b c d n : ℕ) → a < 256 → b < 256 → c < 256 → d < 256 → n ≡ from_be_bytes w32 (a ∷ b ∷ c ∷ d ∷ [])
    → to_be_bytes w32 n ≡ a ∷ b ∷ c ∷ d ∷ []
word_is a b c d n la lb lc ld e = be_bytes_4 (a ∷ b ∷ c ∷ d ∷ []) n refl each e
  where
    each : (i : ℕ) → get_or (a ∷ b ∷ c ∷ d ∷ []) i 0 < 256
    each zero = la
    each (suc zero) = lb
    each (suc (suc zero)) = lc
    each (suc (suc (suc zero))) = ld
    each (suc (suc (suc (suc i)))) = omega arith

-- four lists in a row
append4 : {a b c d p q r s : List ℕ} → a ≡ p → b ≡ q → c ≡ r → d ≡ s → a ++ b ++ c ++ d ≡ p ++ q ++ r ++ s
append4 {a} {b} {c} {d} {p} {q} {r} {s} e f g h =
    ap (λ x. x ++ b ++ c ++ d) e ∙ ap (λ x. p ++ x ++ c ++ d) f ∙ ap (λ x. p ++ q ++ x ++ d) g ∙ ap (λ x. p ++ q ++ r ++ x) h

-- four words whose bytes are those of a block are that block
pub words_are : (block : List ℕ) (a b c d : ℕ) → length block ≡ 16
    → to_be_bytes w32 a ≡ get_or block 0 0 ∷ get_or block 1 0 ∷ get_or block 2 0 ∷ get_or block 3 0 ∷ []
    → to_be_bytes w32 b ≡ get_or block 4 0 ∷ get_or block 5 0 ∷ get_or block 6 0 ∷ get_or block 7 0 ∷ []
    → to_be_bytes w32 c ≡ get_or block 8 0 ∷ get_or block 9 0 ∷ get_or block 10 0 ∷ get_or block 11 0 ∷ []
    → to_be_bytes w32 d ≡ get_or block 12 0 ∷ get_or block 13 0 ∷ get_or block 14 0 ∷ get_or block 15 0 ∷ []
    → block_of_words (a ∷ b ∷ c ∷ d ∷ []) ≡ block
unfolding block_of_words
words_are block a b c d size ea eb ec ed = append4 ea eb ec ed ∙ listed 16 block size

-- the exclusive or of two blocks by words
pub added_is : (s t : List ℕ)
    → block_of_words (bit_xor (get_or s 0 0) (get_or t 0 0) ∷ bit_xor (get_or s 1 0) (get_or t 1 0) ∷ bit_xor (get_or s 2 0) (get_or t 2 0) ∷ bit_xor (get_or s 3 0) (get_or t 3 0) ∷ [])
    ≡ xor (block_of_words s) (block_of_words t)
unfolding block_of_words
added_is s t =
    append4 (to_be_bytes-xor (get_or s 0 0) (get_or t 0 0)) (to_be_bytes-xor (get_or s 1 0) (get_or t 1 0))
    (to_be_bytes-xor (get_or s 2 0) (get_or t 2 0)) (to_be_bytes-xor (get_or s 3 0) (get_or t 3 0))

-- the bytes of a word with a key's word added, where the word's are known
keyed : (m k : ℕ) (bytes : List ℕ) → to_be_bytes w32 m ≡ bytes → to_be_bytes w32 (bit_xor m k) ≡ xor bytes (to_be_bytes w32 k)
keyed m k bytes e = to_be_bytes-xor m k ∙ ap (λ b. xor b (to_be_bytes w32 k)) e

-- byte i of word j
abbrev pub byte_of : List ℕ → ℕ → ℕ → ℕ
byte_of s j i = get_or (to_be_bytes w32 (get_or s j 0)) i 0

-- the mixed column of four bytes' substitutes
abbrev pub mixed_substitutes : List ℕ → List ℕ
mixed_substitutes t =
    mixed_column (sub_byte (get_or t 0 0)) (sub_byte (get_or t 1 0)) (sub_byte (get_or t 2 0)) (sub_byte (get_or t 3 0))

-- the substitutes of four bytes
abbrev pub substitutes : List ℕ → List ℕ
substitutes t = sub_byte (get_or t 0 0) ∷ sub_byte (get_or t 1 0) ∷ sub_byte (get_or t 2 0) ∷ sub_byte (get_or t 3 0) ∷ []

-- the four mixed columns, with the key's words added, are the state after a round
pub full_round_is : (s k : List ℕ) (a b c d : ℕ)
    → to_be_bytes w32 a ≡ mixed_column (sub_byte (byte_of s 0 0)) (sub_byte (byte_of s 1 1)) (sub_byte (byte_of s 2 2)) (sub_byte (byte_of s 3 3))
    → to_be_bytes w32 b ≡ mixed_column (sub_byte (byte_of s 1 0)) (sub_byte (byte_of s 2 1)) (sub_byte (byte_of s 3 2)) (sub_byte (byte_of s 0 3))
    → to_be_bytes w32 c ≡ mixed_column (sub_byte (byte_of s 2 0)) (sub_byte (byte_of s 3 1)) (sub_byte (byte_of s 0 2)) (sub_byte (byte_of s 1 3))
    → to_be_bytes w32 d ≡ mixed_column (sub_byte (byte_of s 3 0)) (sub_byte (byte_of s 0 1)) (sub_byte (byte_of s 1 2)) (sub_byte (byte_of s 2 3))
    → block_of_words (bit_xor a (get_or k 0 0) ∷ bit_xor b (get_or k 1 0) ∷ bit_xor c (get_or k 2 0) ∷ bit_xor d (get_or k 3 0) ∷ [])
    ≡ full_round (block_of_words s) (block_of_words k)
unfolding block_of_words full_round mixed_column mix_columns shift_rows sub_bytes
full_round_is s k a b c d ea eb ec ed =
    append4 (keyed a (get_or k 0 0) _ ea) (keyed b (get_or k 1 0) _ eb) (keyed c (get_or k 2 0) _ ec) (keyed d (get_or k 3 0) _ ed)

-- the four substituted columns, with the key's words added, are the state after the last round
pub final_round_is : (s k : List ℕ) (a b c d : ℕ)
    → to_be_bytes w32 a ≡ sub_byte (byte_of s 0 0) ∷ sub_byte (byte_of s 1 1) ∷ sub_byte (byte_of s 2 2) ∷ sub_byte (byte_of s 3 3) ∷ []
    → to_be_bytes w32 b ≡ sub_byte (byte_of s 1 0) ∷ sub_byte (byte_of s 2 1) ∷ sub_byte (byte_of s 3 2) ∷ sub_byte (byte_of s 0 3) ∷ []
    → to_be_bytes w32 c ≡ sub_byte (byte_of s 2 0) ∷ sub_byte (byte_of s 3 1) ∷ sub_byte (byte_of s 0 2) ∷ sub_byte (byte_of s 1 3) ∷ []
    → to_be_bytes w32 d ≡ sub_byte (byte_of s 3 0) ∷ sub_byte (byte_of s 0 1) ∷ sub_byte (byte_of s 1 2) ∷ sub_byte (byte_of s 2 3) ∷ []
    → block_of_words (bit_xor a (get_or k 0 0) ∷ bit_xor b (get_or k 1 0) ∷ bit_xor c (get_or k 2 0) ∷ bit_xor d (get_or k 3 0) ∷ [])
    ≡ final_round (block_of_words s) (block_of_words k)
unfolding block_of_words final_round shift_rows sub_bytes
final_round_is s k a b c d ea eb ec ed =
    append4 (keyed a (get_or k 0 0) _ ea) (keyed b (get_or k 1 0) _ eb) (keyed c (get_or k 2 0) _ ec) (keyed d (get_or k 3 0) _ ed)

-- a word's bytes added to another's
summed : (k w : ℕ) (bytes : List ℕ) → to_be_bytes w32 w ≡ bytes → to_be_bytes w32 (bit_xor k w) ≡ xor (to_be_bytes w32 k) bytes
summed k w bytes e = to_be_bytes-xor k w ∙ ap (xor (to_be_bytes w32 k)) e

-- the substituted word with the constant is the schedule word
schedule_is : (k : List ℕ) (constant s t : ℕ)
    → to_be_bytes w32 s ≡ sub_byte (byte_of k 3 1) ∷ sub_byte (byte_of k 3 2) ∷ sub_byte (byte_of k 3 3) ∷ sub_byte (byte_of k 3 0) ∷ []
    → to_be_bytes w32 t ≡ constant ∷ 0 ∷ 0 ∷ 0 ∷ [] → to_be_bytes w32 (bit_xor s t) ≡ schedule_word (block_of_words k) constant
unfolding block_of_words schedule_word
schedule_is k constant s t es et =
    keyed s t _ es ∙ ap (xor (sub_byte (byte_of k 3 1) ∷ sub_byte (byte_of k 3 2) ∷ sub_byte (byte_of k 3 3) ∷ sub_byte (byte_of k 3 0) ∷ [])) et
    ∙ ap (λ x. bit_xor (sub_byte (byte_of k 3 1)) constant ∷ x ∷ bit_xor (sub_byte (byte_of k 3 3)) 0 ∷ bit_xor (sub_byte (byte_of k 3 0)) 0 ∷ []) (xor_zero_r (sub_byte (byte_of k 3 2)))
    ∙ ap (λ x. bit_xor (sub_byte (byte_of k 3 1)) constant ∷ sub_byte (byte_of k 3 2) ∷ x ∷ bit_xor (sub_byte (byte_of k 3 0)) 0 ∷ []) (xor_zero_r (sub_byte (byte_of k 3 3)))
    ∙ ap (λ x. bit_xor (sub_byte (byte_of k 3 1)) constant ∷ sub_byte (byte_of k 3 2) ∷ sub_byte (byte_of k 3 3) ∷ x ∷ []) (xor_zero_r (sub_byte (byte_of k 3 0)))

-- four words, each the one before it added to one of the key's, are the next key
pub next_key_is : (k : List ℕ) (constant s t : ℕ)
    → to_be_bytes w32 s ≡ sub_byte (byte_of k 3 1) ∷ sub_byte (byte_of k 3 2) ∷ sub_byte (byte_of k 3 3) ∷ sub_byte (byte_of k 3 0) ∷ []
    → to_be_bytes w32 t ≡ constant ∷ 0 ∷ 0 ∷ 0 ∷ []
    → (a b c d : ℕ) → a ≡ bit_xor (get_or k 0 0) (bit_xor s t) → b ≡ bit_xor (get_or k 1 0) a → c ≡ bit_xor (get_or k 2 0) b
    → d ≡ bit_xor (get_or k 3 0) c → block_of_words (a ∷ b ∷ c ∷ d ∷ []) ≡ next_key (block_of_words k) constant
unfolding next_key block_of_words
next_key_is k constant s t es et a b c d ea eb ec ed =
    let w : List ℕ = schedule_word (block_of_words k) constant in
    let fa : to_be_bytes w32 a ≡ xor (to_be_bytes w32 (get_or k 0 0)) w =
    ap (to_be_bytes w32) ea ∙ summed (get_or k 0 0) (bit_xor s t) w (schedule_is k constant s t es et) in
    let fb : to_be_bytes w32 b ≡ xor (to_be_bytes w32 (get_or k 1 0)) (xor (to_be_bytes w32 (get_or k 0 0)) w) =
    ap (to_be_bytes w32) eb ∙ summed (get_or k 1 0) a _ fa in
    let fc : to_be_bytes w32 c ≡ xor (to_be_bytes w32 (get_or k 2 0)) (xor (to_be_bytes w32 (get_or k 1 0)) (xor (to_be_bytes w32 (get_or k 0 0)) w)) =
    ap (to_be_bytes w32) ec ∙ summed (get_or k 2 0) b _ fb in
    let fd : to_be_bytes w32 d ≡ xor (to_be_bytes w32 (get_or k 3 0)) (xor (to_be_bytes w32 (get_or k 2 0)) (xor (to_be_bytes w32 (get_or k 1 0)) (xor (to_be_bytes w32 (get_or k 0 0)) w))) =
    ap (to_be_bytes w32) ed ∙ summed (get_or k 3 0) c _ fc in
    append4 fa fb fc fd
