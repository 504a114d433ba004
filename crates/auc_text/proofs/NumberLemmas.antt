-- Bounds on decimal numbers, for the reading of fields.
use Rattle.std.proofs.Common.{ℕ, ◌<◌, ◌≤◌, ◌^◌, arith}
use Rattle.std.proofs.Math.Nat.{pow-le-pow_right}

-- a number below a power of ten is below each later one
pub below_power : (number i k : ℕ) → number < 10 ^ i → i ≤ k → number < 10 ^ k
below_power number i k below more = let grows : 10 ^ i ≤ 10 ^ k = pow-le-pow_right {n = 10} (omega arith) more in omega arith
