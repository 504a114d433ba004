-- Memory that is taken before it is written: what is written so far, and how much more fits.
use Rattle.std.specs.Prelude.{ℕ, ◌-◌, List, ◌++◌, length}

pub record Reserved (T : Type 0) : Type 0 where
  pub written : List T
  pub left : ℕ

-- the memory after more was appended
abbrev pub wrote : {T : Type 0} → Reserved T → List T → Reserved T
wrote room more = record { written = room.written ++ more; left = room.left - length more }
