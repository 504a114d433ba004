-- The steps of the key schedule, the cipher and its inverse, for the loops of `Key`.
use Rattle.std.proofs.Common.{◌≡◌, ℕ, zero, suc, ◌+◌, ◌-◌, ◌<◌, ◌≤◌, List, [], length, get_or, set, sym, ap, ◌∙◌, arith}
use Rattle.std.proofs.lemmas.List.{get_or-set_same, get_or-set_other}
use borrow.Author.Count.{below_more}
use Rattle.auc_aes.specs.Bytes.{xor}
use Rattle.auc_aes.specs.Inner.{block_of_words}
use Rattle.auc_aes.specs.Field.{xtimes}
use Rattle.auc_aes.specs.Cipher.{round_constant, next_key, round_key, full_round, final_round, state_after, aes, inv_full_round, inv_final_round, state_undone, aes_inverse}

-- the constant after the one of round i - 1 is that of round i
pub constant_after : (constant i : ℕ) → 1 ≤ i → constant ≡ round_constant (i - 1) → xtimes constant ≡ round_constant (i + 1 - 1)
unfolding round_constant
constant_after constant zero l e = absurd (omega arith)
constant_after constant (suc n) l e =
    let same : suc n - 1 ≡ n = omega arith in
    let next : suc n + 1 - 1 ≡ suc n = omega arith in
    ap xtimes (e ∙ ap round_constant same) ∙ sym (ap round_constant next)

-- the key after round key i - 1 is round key i
pub key_after : (key previous : List ℕ) (constant i : ℕ) → 1 ≤ i → previous ≡ round_key key (i - 1)
    → constant ≡ round_constant (i - 1) → next_key previous constant ≡ round_key key i
unfolding round_key
key_after key previous constant zero l e f = absurd (omega arith)
key_after key previous constant (suc n) l e f =
    let same : suc n - 1 ≡ n = omega arith in
    ap (λ k. next_key k constant) (e ∙ ap (round_key key) same) ∙ ap (next_key (round_key key n)) (f ∙ ap round_constant same)

-- keys that are the round keys below i are so below i + 1 once round key i is written
pub keys_more : (key next : List ℕ) (keys : List (List ℕ)) (i : ℕ) → i < length keys
    → ((j : ℕ) → j < i → block_of_words (get_or keys j []) ≡ round_key key j) → block_of_words next ≡ round_key key i
    → (j : ℕ) → j < i + 1 → block_of_words (get_or (set keys i next) j []) ≡ round_key key j
keys_more key next keys i l h e =
    below_more (λ j. block_of_words (get_or (set keys i next) j []) ≡ round_key key j) i
    (λ j under. ap block_of_words (get_or-set_other keys i j next [] (λ same. omega arith)) ∙ h j under)
    (ap block_of_words (get_or-set_same keys i next [] l) ∙ e)

-- the first round key is the key
pub first_key : (key : List ℕ) (first : List ℕ) → first ≡ key → first ≡ round_key key 0
unfolding round_key
first_key key first e = e

-- the state before the first round
pub state_first : (key block first result : List ℕ) → result ≡ xor block first → first ≡ round_key key 0
    → result ≡ state_after key block 0
unfolding state_after
state_first key block first result e f = e ∙ ap (xor block) f

-- the state after one more round
pub state_next : (key block state rk result : List ℕ) (n : ℕ) → state ≡ state_after key block n → rk ≡ round_key key (suc n)
    → result ≡ full_round state rk → result ≡ state_after key block (suc n)
unfolding state_after
state_next key block state rk result n s k e = e ∙ ap (λ t. full_round t rk) s ∙ ap (full_round (state_after key block n)) k

-- the state after the last round is the cipher
pub state_last : (key block state rk result : List ℕ) → state ≡ state_after key block 9 → rk ≡ round_key key 10
    → result ≡ final_round state rk → result ≡ aes key block
unfolding aes
state_last key block state rk result s k e = e ∙ ap (λ t. final_round t rk) s ∙ ap (final_round (state_after key block 9)) k

-- the state in which the last round is undone
pub undone_first : (key block rk result : List ℕ) → rk ≡ round_key key 10 → result ≡ inv_final_round block rk
    → result ≡ state_undone key block 0
unfolding state_undone
undone_first key block rk result k e = e ∙ ap (inv_final_round block) k

-- the state in which one more round is undone
pub undone_more : (key block state rk result : List ℕ) (i : ℕ) → state ≡ state_undone key block i
    → rk ≡ round_key key (9 - i) → result ≡ inv_full_round state rk → result ≡ state_undone key block (i + 1)
unfolding state_undone
undone_more key block state rk result i s k e =
    let next : i + 1 ≡ suc i = omega arith in
    e ∙ ap (λ t. inv_full_round t rk) s ∙ ap (inv_full_round (state_undone key block i)) k ∙ sym (ap (state_undone key block) next)

-- the state in which all rounds are undone, with the key added, is the inverse cipher
pub undone_last : (key block state rk result : List ℕ) (i : ℕ) → i ≡ 9 → state ≡ state_undone key block i
    → rk ≡ round_key key 0 → result ≡ xor state rk → result ≡ aes_inverse key block
unfolding aes_inverse
undone_last key block state rk result i nine s k e =
    e ∙ ap (λ t. xor t rk) (s ∙ ap (state_undone key block) nine) ∙ ap (xor (state_undone key block 9)) k
