-- Leases, as lists of numbers.
use Rattle.std.specs.Prelude.{ℕ, ◌<◌, List, All, AllPairs, length}

-- each number is above those before it
abbrev pub IsRising : List ℕ → Type 0
IsRising numbers = AllPairs ◌<◌ numbers

-- a number may follow those of a lease: there is room for it, and it is above all of them
abbrev pub MayFollow : List ℕ → ℕ → Type 0
MayFollow numbers n = (length numbers < 32) × All (λ m. m < n) numbers
