-- A text of spaced words is cut into words in only one way, for the lemmas on lines.
use Rattle.std.proofs.Common.{ℕ, zero, suc, ◌+◌, ◌/◌, ◌%◌, ◌<◌, ◌≡◌, ◌∙◌, refl, sym, ap, List, [], ◌∷◌, ◌++◌, get_or, flat_map, append_assoc, Bool, true, false, ◌&&◌, ◌||◌, not, eqb, arith}
use Rattle.std.proofs.lemmas.Bool.{and_parts}
use Rattle.std.proofs.lemmas.Bool.Decides.{nat_tests}
use Rattle.hex.specs.Hex.{encode_lower, encode_with, lower_digits}
use Rattle.auc_memory.specs.Identity.{last_digits}
use Rattle.auc_print.specs.Text.{spaced}

-- the codes of the space and of the line feed
abbrev space : ℕ
space = 32

abbrev line_feed : ℕ
line_feed = 10

-- whether a byte ends a word: it is a space or a line feed
abbrev pub is_break : ℕ → Bool
is_break byte = eqb byte 32 || eqb byte 10

-- a word has neither a space nor a line feed
abbrev pub IsWord : List ℕ → Type 0
IsWord [] = Unit {0}
IsWord (byte ∷ bytes) = (is_break byte ≡ false) × IsWord bytes

-- any number of words
abbrev pub AllWords : List (List ℕ) → Type 0
AllWords [] = Unit {0}
AllWords (word ∷ words) = IsWord word × AllWords words

-- one word or more
abbrev pub AreWords : List (List ℕ) → Type 0
AreWords [] = ⊥
AreWords (word ∷ words) = IsWord word × AllWords words

-- words after words
pub words_append : (vs ws : List (List ℕ)) → AllWords vs → AllWords ws → AllWords (vs ++ ws)
words_append [] ws a b = b
words_append (v ∷ vs) ws a b = (a.0, words_append vs ws a.1 b)

-- lines of one word or more
abbrev pub AreLines : List (List (List ℕ)) → Type 0
AreLines [] = Unit {0}
AreLines (words ∷ lines) = AreWords words × AreLines lines

-- two texts that begin with a word and a separator have the same word, separator and rest
cut : (v w : List ℕ) (c d : ℕ) (r s : List ℕ) → IsWord v → IsWord w → is_break c ≡ true → is_break d ≡ true
    → v ++ c ∷ r ≡ w ++ d ∷ s → (v ≡ w) × (c ≡ d) × (r ≡ s)
cut [] [] c d r s a b p q e = (refl, (cc), (cc))
cut [] (y ∷ w) c d r s a b p q e =
    let same : c ≡ y = cc in let breaks : is_break y ≡ true = ap is_break (sym same) ∙ p in let none : is_break y ≡ false = b.0 in absurd (cc)
cut (x ∷ v) [] c d r s a b p q e =
    let same : x ≡ d = cc in let breaks : is_break x ≡ true = ap is_break same ∙ q in let none : is_break x ≡ false = a.0 in absurd (cc)
cut (x ∷ v) (y ∷ w) c d r s a b p q e =
    let head : x ≡ y = cc in
    let tail : v ++ c ∷ r ≡ w ++ d ∷ s = cc in
    let rest : (v ≡ w) × (c ≡ d) × (r ≡ s) = cut v w c d r s a.1 b.1 p q tail in
    let word : v ≡ w = rest.0 in
    ((cc), rest.1, rest.2)

-- what comes after the first word of a line, with what comes after the line
abbrev after_word : List (List ℕ) → List ℕ → List ℕ
after_word [] r = 10 ∷ r
after_word (word ∷ words) r = 32 ∷ (word ++ after_word words r)

-- a line is its first word and what comes after it
spaced_is : (word : List ℕ) (words : List (List ℕ)) (r : List ℕ) → spaced (word ∷ words) ++ r ≡ word ++ after_word words r
spaced_is word words r =
    append_assoc (word ++ behind words) (10 ∷ []) r ∙ append_assoc word (behind words) (10 ∷ r) ∙ ap (λ t. word ++ t) (behind_is words)
  where
    behind : List (List ℕ) → List ℕ
    behind ws = flat_map (λ next. 32 ∷ next) ws

    behind_is : (ws : List (List ℕ)) → behind ws ++ 10 ∷ r ≡ after_word ws r
    behind_is [] = refl
    behind_is (w ∷ ws) = ap (λ t. 32 ∷ t) (append_assoc w (behind ws) (10 ∷ r) ∙ ap (λ t. w ++ t) (behind_is ws))

-- words end where their line does
words_end : (v w : List ℕ) (vs ws : List (List ℕ)) (r s : List ℕ) → AreWords (v ∷ vs) → AreWords (w ∷ ws)
    → v ++ after_word vs r ≡ w ++ after_word ws s → (v ∷ vs ≡ w ∷ ws) × (r ≡ s)
words_end v w [] [] r s a b e =
    let found : (v ≡ w) × (line_feed ≡ line_feed) × (r ≡ s) = cut v w 10 10 r s a.0 b.0 refl refl e in (ap (λ x. x ∷ []) found.0, found.2)
words_end v w [] (next ∷ ws) r s a b e =
    let found = cut v w 10 32 r (next ++ after_word ws s) a.0 b.0 refl refl e in let apart : line_feed ≡ space = found.1 in absurd (omega arith)
words_end v w (after ∷ vs) [] r s a b e =
    let found = cut v w 32 10 (after ++ after_word vs r) s a.0 b.0 refl refl e in let apart : space ≡ line_feed = found.1 in absurd (omega arith)
words_end v w (after ∷ vs) (next ∷ ws) r s a b e =
    let found = cut v w 32 32 (after ++ after_word vs r) (next ++ after_word ws s) a.0 b.0 refl refl e in
    let rest : (after ∷ vs ≡ next ∷ ws) × (r ≡ s) = words_end after next vs ws r s a.1 b.1 found.2 in
    let word : v ≡ w = found.0 in
    let words : after ∷ vs ≡ next ∷ ws = rest.0 in
    ((cc), rest.1)

-- the text of a line followed by a rest determines the words and the rest
words_cut : (vs ws : List (List ℕ)) (r s : List ℕ) → AreWords vs → AreWords ws
    → spaced vs ++ r ≡ spaced ws ++ s → (vs ≡ ws) × (r ≡ s)
words_cut [] ws r s a b e = absurd a
words_cut (v ∷ vs) [] r s a b e = absurd b
words_cut (v ∷ vs) (w ∷ ws) r s a b e = words_end v w vs ws r s a b (sym (spaced_is v vs r) ∙ e ∙ spaced_is w ws s)

-- no line is empty
line_nonempty : (ws : List (List ℕ)) (r : List ℕ) → AreWords ws → [] ≡ spaced ws ++ r → ⊥
line_nonempty [] r a e = a
line_nonempty (w ∷ ws) r a e = in_words w ws (e ∙ spaced_is w ws r)
  where
    in_word : (v : List ℕ) (c : ℕ) (t : List ℕ) → [] ≡ v ++ c ∷ t → ⊥
    in_word [] c t e = cc
    in_word (x ∷ v) c t e = cc

    in_words : (v : List ℕ) (vs : List (List ℕ)) → [] ≡ v ++ after_word vs r → ⊥
    in_words v [] e = in_word v 10 r e
    in_words v (next ∷ vs) e = in_word v 32 (next ++ after_word vs r) e

-- lines with the same text are the same
pub lines_cut : (ls ms : List (List (List ℕ))) → AreLines ls → AreLines ms → flat_map spaced ls ≡ flat_map spaced ms → ls ≡ ms
lines_cut [] [] a b e = refl
lines_cut [] (m ∷ ms) a b e = absurd (line_nonempty m (flat_map spaced ms) b.0 e)
lines_cut (l ∷ ls) [] a b e = absurd (line_nonempty l (flat_map spaced ls) a.0 (sym e))
lines_cut (l ∷ ls) (m ∷ ms) a b e =
    let found : (l ≡ m) × (flat_map spaced ls ≡ flat_map spaced ms) = words_cut l m _ _ a.0 b.0 e in
    let line : l ≡ m = found.0 in
    let rest : ls ≡ ms = lines_cut ls ms a.1 b.1 found.1 in
    (cc)

-- whether no byte ends a word, as a test that computes
abbrev pub is_word : List ℕ → Bool
is_word [] = true
is_word (byte ∷ bytes) = not (is_break byte) && is_word bytes

-- a text that passes the test is a word
pub word_from_test : (word : List ℕ) → is_word word ≡ true → IsWord word
word_from_test [] e = tt
word_from_test (byte ∷ bytes) e =
    let parts = and_parts (not (is_break byte)) (is_word bytes) e in (goes_on (is_break byte) parts.0, word_from_test bytes parts.1)
  where
    goes_on : (b : Bool) → not b ≡ true → b ≡ false
    goes_on true e = cc
    goes_on false e = refl

-- a byte above the space ends no word
pub above_space : (byte : ℕ) → 32 < byte → is_break byte ≡ false
above_space byte above = grind (arith, nat_tests)

-- two words side by side are a word
word_append : (v w : List ℕ) → IsWord v → IsWord w → IsWord (v ++ w)
word_append [] w a b = b
word_append (x ∷ v) w a b = (a.0, word_append v w a.1 b)

-- the last digits of a number make a word
pub last_digits_word : (count n : ℕ) → IsWord (last_digits count n)
last_digits_word zero n = tt
last_digits_word (suc count) n =
    word_append (last_digits count (n / 10)) ((48 + n % 10) ∷ []) (last_digits_word count (n / 10)) (above_space (48 + n % 10) (omega arith), tt)

-- no byte that is read from a word ends a word
no_break_at : (word : List ℕ) (i : ℕ) → IsWord word → is_break (get_or word i 0) ≡ false
no_break_at [] i a = refl
no_break_at (byte ∷ bytes) zero a = a.0
no_break_at (byte ∷ bytes) (suc i) a = no_break_at bytes i a.1

-- hexadecimal digits make a word
pub hex_word : (bytes : List ℕ) → IsWord (encode_lower bytes)
unfolding encode_with
hex_word [] = tt
hex_word (byte ∷ bytes) =
    let digits : IsWord lower_digits = word_from_test lower_digits refl in
    (no_break_at lower_digits (byte / 16) digits, (no_break_at lower_digits (byte % 16) digits, hex_word bytes))
