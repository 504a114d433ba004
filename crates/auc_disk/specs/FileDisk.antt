-- Real files as disks: what contracts see of one.
use Rattle.std.specs.Prelude.{ℕ}

pub record FileState : Type 0 where
  -- the last answer of `len`, and how often a call has failed
  pub last_len : ℕ
  pub faults : ℕ
