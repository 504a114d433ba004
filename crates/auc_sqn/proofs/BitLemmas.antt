-- Index lengths from 0 to 6 bits, one by one.
use Rattle.std.proofs.Common.{◌≡◌, ℕ, zero, suc, ◌+◌, ◌-◌, ◌*◌, ◌/◌, ◌%◌, ◌^◌, ◌<◌, ◌≤◌, arith}
use Rattle.std.specs.Prelude.{All, replicate}
use Rattle.std.proofs.lemmas.List.Elements.{All-cons, All-nil}
use Rattle.std.proofs.lemmas.Nat.{one_shl}
use Rattle.auc_sqn.specs.Number.{indices, max_seq, most_bits, top_of}

-- what holds of each index length holds of all
pub by_bits : (P : ℕ → Type 0) → P 0 → P 1 → P 2 → P 3 → P 4 → P 5 → P 6 → (bits : ℕ) → bits ≤ most_bits → P bits
by_bits P p0 p1 p2 p3 p4 p5 p6 zero few = p0
by_bits P p0 p1 p2 p3 p4 p5 p6 (suc zero) few = p1
by_bits P p0 p1 p2 p3 p4 p5 p6 (suc (suc zero)) few = p2
by_bits P p0 p1 p2 p3 p4 p5 p6 (suc (suc (suc zero))) few = p3
by_bits P p0 p1 p2 p3 p4 p5 p6 (suc (suc (suc (suc zero)))) few = p4
by_bits P p0 p1 p2 p3 p4 p5 p6 (suc (suc (suc (suc (suc zero))))) few = p5
by_bits P p0 p1 p2 p3 p4 p5 p6 (suc (suc (suc (suc (suc (suc zero)))))) few = p6
by_bits P p0 p1 p2 p3 p4 p5 p6 (suc (suc (suc (suc (suc (suc (suc n))))))) few = absurd (omega arith)

-- a shift by less than the width
pub shift : (k : ℕ) → k < 64 → (1 * 2 ^ k) % 2 ^ 64 ≡ 2 ^ k
shift k below = one_shl k 64 below

-- an IND has a value, and 64 at most
pub indices_within : (bits : ℕ) → bits ≤ most_bits → (1 ≤ indices bits) × (indices bits ≤ 64)
indices_within = by_bits (λ bits. (1 ≤ indices bits) × (indices bits ≤ 64)) (omega arith, omega arith) (omega arith, omega arith) (omega arith, omega arith) (omega arith, omega arith) (omega arith, omega arith) (omega arith, omega arith) (omega arith, omega arith)

-- so there is a first one
pub indices_positive : (bits : ℕ) → bits ≤ most_bits → 0 < indices bits
indices_positive bits few = let within = indices_within bits few in omega (arith, within)

-- a remainder is an IND
pub remainder_within : (bits n : ℕ) → bits ≤ most_bits → n % indices bits < indices bits
remainder_within bits n few = by_bits (λ b. n % indices b < indices b) (omega arith) (omega arith) (omega arith) (omega arith) (omega arith) (omega arith) (omega arith) bits few

-- there are SEQs, and 2 ^ 48 at most
pub seqs_whole : (bits : ℕ) → bits ≤ most_bits → (1 ≤ 2 ^ (48 - bits)) × (2 ^ (48 - bits) ≤ 2 ^ 48)
seqs_whole = by_bits (λ bits. (1 ≤ 2 ^ (48 - bits)) × (2 ^ (48 - bits) ≤ 2 ^ 48)) (omega arith, omega arith) (omega arith, omega arith) (omega arith, omega arith) (omega arith, omega arith) (omega arith, omega arith) (omega arith, omega arith) (omega arith, omega arith)

-- a number is a SEQ
pub top_within : (bits n : ℕ) → bits ≤ most_bits → n ≤ top_of bits → n < 2 ^ (48 - bits)
top_within bits n few = by_bits (λ b. n ≤ top_of b → n < 2 ^ (48 - b)) (λ h. omega arith) (λ h. omega arith) (λ h. omega arith) (λ h. omega arith) (λ h. omega arith) (λ h. omega arith) (λ h. omega arith) bits few

-- and at most the greatest one
pub top_least : (bits n : ℕ) → n ≤ top_of bits → n ≤ max_seq
top_least bits n low = omega arith

-- the greatest number of a subscriber is at most the greatest one
pub top_most : (bits : ℕ) → top_of bits ≤ max_seq
top_most bits = omega arith

-- and has 42 bits at least
pub top_some : (bits : ℕ) → bits ≤ most_bits → 2 ^ 42 - 1 ≤ top_of bits
top_some = by_bits (λ bits. 2 ^ 42 - 1 ≤ top_of bits) (omega arith) (omega arith) (omega arith) (omega arith) (omega arith) (omega arith) (omega arith)

-- with 5 bits it is the greatest one
pub top_of-5 : top_of 5 ≡ max_seq
top_of-5 = omega arith

-- SEQ and IND side by side have 48 bits
pub spelled_within : (bits seq ind : ℕ) → bits ≤ most_bits → seq < 2 ^ (48 - bits) → ind < indices bits → indices bits * seq + ind < 2 ^ 48
spelled_within bits seq ind few = by_bits (λ b. seq < 2 ^ (48 - b) → ind < indices b → indices b * seq + ind < 2 ^ 48)
    (λ s i. omega arith) (λ s i. omega arith) (λ s i. omega arith) (λ s i. omega arith) (λ s i. omega arith) (λ s i. omega arith) (λ s i. omega arith) bits few

-- the upper bits of 48
pub quotient_within : (bits value : ℕ) → bits ≤ most_bits → value < 2 ^ 48 → value / indices bits < 2 ^ (48 - bits)
quotient_within bits value few = by_bits (λ b. value < 2 ^ 48 → value / indices b < 2 ^ (48 - b))
    (λ v. omega arith) (λ v. omega arith) (λ v. omega arith) (λ v. omega arith) (λ v. omega arith) (λ v. omega arith) (λ v. omega arith) bits few

-- SEQ of SEQ and IND side by side
pub joined_seq : (bits seq ind value : ℕ) → bits ≤ most_bits → ind < indices bits → value ≡ indices bits * seq + ind → value / indices bits ≡ seq
joined_seq bits seq ind value few = by_bits (λ b. ind < indices b → value ≡ indices b * seq + ind → value / indices b ≡ seq)
    (λ i v. omega arith) (λ i v. omega arith) (λ i v. omega arith) (λ i v. omega arith) (λ i v. omega arith) (λ i v. omega arith) (λ i v. omega arith) bits few

-- and IND
pub joined_ind : (bits seq ind value : ℕ) → bits ≤ most_bits → ind < indices bits → value ≡ indices bits * seq + ind → value % indices bits ≡ ind
joined_ind bits seq ind value few = by_bits (λ b. ind < indices b → value ≡ indices b * seq + ind → value % indices b ≡ ind)
    (λ i v. omega arith) (λ i v. omega arith) (λ i v. omega arith) (λ i v. omega arith) (λ i v. omega arith) (λ i v. omega arith) (λ i v. omega arith) bits few

-- a new array has SEQs
pub zero_seqs : (bits count : ℕ) → bits ≤ most_bits → All (λ seq. seq < 2 ^ (48 - bits)) (replicate count 0)
zero_seqs bits zero few = All-nil (λ seq. seq < 2 ^ (48 - bits))
zero_seqs bits (suc count) few = All-cons (λ seq. seq < 2 ^ (48 - bits)) 0 (replicate count 0) (let some = seqs_whole bits few in omega (arith, some)) (zero_seqs bits count few)
