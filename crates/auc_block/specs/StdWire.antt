-- Standard input and standard output: whether the input ended, and how often a call failed.
use Rattle.std.specs.Prelude.{ℕ, Bool}

pub record StdState : Type 0 where
  pub ended : Bool
  pub faults : ℕ
