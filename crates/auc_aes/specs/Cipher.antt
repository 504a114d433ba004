-- AES-128 (FIPS 197) on lists of bytes. The byte of a state in row r and column c is at place r + 4 c
-- (§3.4), and the names are the standard's.
use Rattle.std.specs.Prelude.{ℕ, zero, suc, ◌+◌, ◌-◌, ◌*◌, ◌%◌, List, [], ◌∷◌, ◌++◌, map, slice_index, bit_xor}
use Rattle.auc_aes.specs.Bytes.{xor}
use Rattle.auc_aes.specs.Field.{xtimes, product, sub_byte, inv_sub_byte}

-- ---- the state

-- the byte of a state in a row and a column, both counted modulo 4
abbrev pub at : List ℕ → ℕ → ℕ → ℕ
at state r c = slice_index state (r % 4 + 4 * (c % 4))

-- a column of the state whose bytes f gives
abbrev pub column_of : (ℕ → ℕ → ℕ) → ℕ → List ℕ
column_of f c = f 0 c ∷ f 1 c ∷ f 2 c ∷ f 3 c ∷ []

-- the state whose byte in row r and column c is f r c
abbrev pub state_of : (ℕ → ℕ → ℕ) → List ℕ
state_of f = column_of f 0 ++ column_of f 1 ++ column_of f 2 ++ column_of f 3

-- ---- the cipher (§5.1)

-- SUBBYTES (§5.1.1)
unfoldable pub sub_bytes : List ℕ → List ℕ
sub_bytes state = map sub_byte state

-- SHIFTROWS: row r is rotated by r columns (§5.1.2)
unfoldable pub shift_rows : List ℕ → List ℕ
shift_rows state = state_of (λ r c. at state r (c + r))

-- a byte of a mixed column, from the column's four bytes in order, beginning with the byte's own row:
-- 2 a + 3 b + c + d (§5.1.3, equation 5.8)
unfoldable pub mixed : ℕ → ℕ → ℕ → ℕ → ℕ
mixed a b c d = bit_xor (bit_xor (bit_xor (product 2 a) (product 3 b)) c) d

-- MIXCOLUMNS (§5.1.3)
unfoldable pub mix_columns : List ℕ → List ℕ
mix_columns state =
    state_of (λ r c. mixed (at state r c) (at state (r + 1) c) (at state (r + 2) c) (at state (r + 3) c))

-- ---- the round keys (§5.2)

-- Rcon[i + 1], its first byte: x^i
unfoldable pub round_constant : ℕ → ℕ
round_constant zero = 1
round_constant (suc i) = xtimes (round_constant i)

-- SUBWORD of ROTWORD of a key's last word, with a round constant added to the first byte
unfoldable pub schedule_word : List ℕ → ℕ → List ℕ
schedule_word key constant =
    bit_xor (sub_byte (at key 1 3)) constant ∷ sub_byte (at key 2 3) ∷ sub_byte (at key 3 3)
    ∷ sub_byte (at key 0 3) ∷ []

-- word c of a key
abbrev pub word_of : List ℕ → ℕ → List ℕ
word_of key c = column_of (at key) c

-- the four words that follow a round key: each is the exclusive or of the previous word and the word four
-- places back; for the first of them the schedule word stands in for the previous word
unfoldable pub next_key : List ℕ → ℕ → List ℕ
next_key key constant =
    let w0 = xor (word_of key 0) (schedule_word key constant) in
    let w1 = xor (word_of key 1) w0 in
    let w2 = xor (word_of key 2) w1 in
    let w3 = xor (word_of key 3) w2 in
    w0 ++ w1 ++ w2 ++ w3

-- round key i: words 4 i to 4 i + 3 of KEYEXPANSION
unfoldable pub round_key : List ℕ → ℕ → List ℕ
round_key key zero = key
round_key key (suc i) = next_key (round_key key i) (round_constant i)

-- ---- CIPHER (§5.1)

-- one round with a round key
unfoldable pub full_round : List ℕ → List ℕ → List ℕ
full_round state key = xor (mix_columns (shift_rows (sub_bytes state))) key

-- the last round, which doesn't mix the columns
unfoldable pub final_round : List ℕ → List ℕ → List ℕ
final_round state key = xor (shift_rows (sub_bytes state)) key

-- the state after n full rounds
unfoldable pub state_after : List ℕ → List ℕ → ℕ → List ℕ
state_after key block zero = xor block (round_key key 0)
state_after key block (suc n) = full_round (state_after key block n) (round_key key (suc n))

-- AES-128 of a block under a key
unfoldable pub aes : List ℕ → List ℕ → List ℕ
aes key block = final_round (state_after key block 9) (round_key key 10)

-- ---- INVCIPHER (§5.3)

-- INVSHIFTROWS (§5.3.1)
unfoldable pub inv_shift_rows : List ℕ → List ℕ
inv_shift_rows state = state_of (λ r c. at state r (c + (4 - r)))

-- INVSUBBYTES (§5.3.2)
unfoldable pub inv_sub_bytes : List ℕ → List ℕ
inv_sub_bytes state = map inv_sub_byte state

-- a byte of a column whose mixing is undone: 14 a + 11 b + 13 c + 9 d (§5.3.3, equation 5.14)
unfoldable pub inv_mixed : ℕ → ℕ → ℕ → ℕ → ℕ
inv_mixed a b c d =
    bit_xor (bit_xor (bit_xor (product 14 a) (product 11 b)) (product 13 c)) (product 9 d)

-- INVMIXCOLUMNS (§5.3.3)
unfoldable pub inv_mix_columns : List ℕ → List ℕ
inv_mix_columns state =
    state_of (λ r c. inv_mixed (at state r c) (at state (r + 1) c) (at state (r + 2) c) (at state (r + 3) c))

-- undoes the last round
unfoldable pub inv_final_round : List ℕ → List ℕ → List ℕ
inv_final_round state key = inv_sub_bytes (inv_shift_rows (xor state key))

-- undoes one round
unfoldable pub inv_full_round : List ℕ → List ℕ → List ℕ
inv_full_round state key = inv_sub_bytes (inv_shift_rows (inv_mix_columns (xor state key)))

-- the state after the last round and the n full rounds before it are undone
unfoldable pub state_undone : List ℕ → List ℕ → ℕ → List ℕ
state_undone key block zero = inv_final_round block (round_key key 10)
state_undone key block (suc n) = inv_full_round (state_undone key block n) (round_key key (9 - n))

-- the inverse cipher of a block under a key
unfoldable pub aes_inverse : List ℕ → List ℕ → List ℕ
aes_inverse key block = xor (state_undone key block 9) (round_key key 0)
