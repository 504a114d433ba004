-- That an SQN taken apart gives its number back: for the laws, and for crates that compare SQNs.
use Rattle.std.proofs.Common.{◌≡◌, ℕ, ◌+◌, ◌*◌, ◌%◌, ◌≤◌, arith, ap, ◌∙◌, sym}
use Rattle.std.proofs.lemmas.Nat.{from_be_bytes-to_be_bytes_8}
use Rattle.auc_sqn.specs.Number.{value_of, sqn_bytes, seq_of, ind_of, indices, most_bits, top_of, SplitUndoesSqn, EachNumberHasItsOwnSqn}
use Rattle.auc_sqn.proofs.BitLemmas.{joined_ind, joined_seq, remainder_within, spelled_within, top_within}

-- the value of a number's SQN is SEQ and IND side by side
pub value_of-sqn_bytes : (bits n : ℕ) → bits ≤ most_bits → n ≤ top_of bits → value_of (sqn_bytes bits n) ≡ indices bits * n + n % indices bits
value_of-sqn_bytes bits n few h =
    let value = indices bits * n + n % indices bits in
    let within = spelled_within bits n (n % indices bits) few (top_within bits n few h) (remainder_within bits n few) in
    omega (arith, within, from_be_bytes-to_be_bytes_8 value (omega (arith, within)))

-- the SEQ of a number's SQN is the number
pub seq_of-sqn_bytes : (bits n : ℕ) → bits ≤ most_bits → n ≤ top_of bits → seq_of bits (sqn_bytes bits n) ≡ n
seq_of-sqn_bytes bits n few h = joined_seq bits n (n % indices bits) (value_of (sqn_bytes bits n)) few (remainder_within bits n few) (value_of-sqn_bytes bits n few h)

-- the IND of a number's SQN is the number's remainder
pub ind_of-sqn_bytes : (bits n : ℕ) → bits ≤ most_bits → n ≤ top_of bits → ind_of bits (sqn_bytes bits n) ≡ n % indices bits
ind_of-sqn_bytes bits n few h = joined_ind bits n (n % indices bits) (value_of (sqn_bytes bits n)) few (remainder_within bits n few) (value_of-sqn_bytes bits n few h)

-- an SQN taken apart gives its number, and as IND the number's remainder
pub split_undoes_sqn : SplitUndoesSqn
split_undoes_sqn bits n few h = (seq_of-sqn_bytes bits n few h, ind_of-sqn_bytes bits n few h)

-- two numbers with one SQN are one number
pub each_number_has_its_own_sqn : EachNumberHasItsOwnSqn
each_number_has_its_own_sqn bits m n few below_m below_n same =
    sym (seq_of-sqn_bytes bits m few below_m) ∙ ap (seq_of bits) same ∙ seq_of-sqn_bytes bits n few below_n
