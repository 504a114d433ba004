-- The last number up to another with a remainder: for `last_number`.
use Rattle.std.proofs.Common.{◌≡◌, ℕ, ◌+◌, ◌-◌, ◌*◌, ◌/◌, ◌%◌, ◌<◌, ◌≤◌, arith}
use Rattle.auc_sqn.specs.Number.{indices, most_bits}
use Rattle.auc_sqn.specs.Inner.{IsLastNumber}
use Rattle.auc_sqn.proofs.BitLemmas.{by_bits}

-- if the remainder isn't above that of v, the number stands in v's own turn
pub last_here : (bits v ind number : ℕ) → bits ≤ most_bits → ind ≤ v % indices bits → number ≡ v / indices bits * indices bits + ind → IsLastNumber bits v ind number
last_here bits v ind number few = by_bits (λ b. ind ≤ v % indices b → number ≡ v / indices b * indices b + ind → IsLastNumber b v ind number)
    (λ low is. record { within = omega arith; remainder = λ some. omega arith; last = λ m up same. omega arith })
    (λ low is. record { within = omega arith; remainder = λ some. omega arith; last = λ m up same. omega arith })
    (λ low is. record { within = omega arith; remainder = λ some. omega arith; last = λ m up same. omega arith })
    (λ low is. record { within = omega arith; remainder = λ some. omega arith; last = λ m up same. omega arith })
    (λ low is. record { within = omega arith; remainder = λ some. omega arith; last = λ m up same. omega arith })
    (λ low is. record { within = omega arith; remainder = λ some. omega arith; last = λ m up same. omega arith })
    (λ low is. record { within = omega arith; remainder = λ some. omega arith; last = λ m up same. omega arith })
    bits few

-- else in the turn before, if there is one
pub last_before : (bits v ind number : ℕ) → bits ≤ most_bits → ind < indices bits → v % indices bits < ind → number ≡ v / indices bits * indices bits + ind - indices bits → IsLastNumber bits v ind number
last_before bits v ind number few = by_bits (λ b. ind < indices b → v % indices b < ind → number ≡ v / indices b * indices b + ind - indices b → IsLastNumber b v ind number)
    (λ below high is. record { within = omega arith; remainder = λ some. omega arith; last = λ m up same. omega arith })
    (λ below high is. record { within = omega arith; remainder = λ some. omega arith; last = λ m up same. omega arith })
    (λ below high is. record { within = omega arith; remainder = λ some. omega arith; last = λ m up same. omega arith })
    (λ below high is. record { within = omega arith; remainder = λ some. omega arith; last = λ m up same. omega arith })
    (λ below high is. record { within = omega arith; remainder = λ some. omega arith; last = λ m up same. omega arith })
    (λ below high is. record { within = omega arith; remainder = λ some. omega arith; last = λ m up same. omega arith })
    (λ below high is. record { within = omega arith; remainder = λ some. omega arith; last = λ m up same. omega arith })
    bits few

-- a whole number of turns is no more than the number
pub turns_within : (bits v : ℕ) → bits ≤ most_bits → v / indices bits * indices bits ≤ v
turns_within bits v few = by_bits (λ b. v / indices b * indices b ≤ v) (omega arith) (omega arith) (omega arith) (omega arith) (omega arith) (omega arith) (omega arith) bits few
