-- Disks: what a read gives, if the disk reveals that, and what a crash may leave.
use Rattle.std.specs.Prelude.{◌≡◌, ◌⊎◌, ℕ, ◌+◌, ◌-◌, ◌≤◌, min, max, List, ◌++◌, length, take, drop, replicate, Option, Some, None, Result, OnOk, OnErr}
use Rattle.auc_memory.specs.Faults.{Rose}
use Rattle.auc_memory.specs.Buffer.{GivesFrom}

-- the first n bytes of a file; if it is shorter, a filler byte stands in each missing place
abbrev pub front : ℕ → ℕ → List ℕ → List ℕ
front filler n file = take n file ++ replicate (n - length file) filler

-- a file after bytes were written at a place; a gap between its end and the place is filled with a byte
abbrev pub put_over : ℕ → List ℕ → ℕ → List ℕ → List ℕ
put_over filler file at bytes = front filler at file ++ bytes ++ drop (at + length bytes) file

-- the same with a gap of zeros
abbrev pub put : List ℕ → ℕ → List ℕ → List ℕ
put file at bytes = put_over 0 file at bytes

-- these bytes were written at a place, if the disk reveals what a read gives
abbrev pub Puts : Option (List ℕ) → ℕ → List ℕ → Option (List ℕ) → Type 0
Puts None at bytes new = new ≡ None
Puts (Some old) at bytes new = new ≡ Some (put old at bytes)

-- the buffer's first bytes are those of the file from a place on, if the disk reveals them
abbrev pub ReadsAt : Option (List ℕ) → ℕ → ℕ → List ℕ → Type 0
ReadsAt None at count buffer = Unit {0}
ReadsAt (Some file) at count buffer = GivesFrom file at count buffer

-- the length is that of the file, if the disk reveals it
abbrev pub IsLength : Option (List ℕ) → ℕ → Type 0
IsLength None len = Unit {0}
IsLength (Some file) len = len ≡ length file

-- a crash leaves this file and no other
abbrev pub Only : List ℕ → (List ℕ → Type 0) → Type 0
Only file may_leave = (image : List ℕ) → may_leave image → image ≡ file

-- a crash leaves what a read gives and nothing else, if the disk reveals what a read gives
abbrev pub OnlyTold : Option (List ℕ) → (List ℕ → Type 0) → Type 0
OnlyTold None may_leave = Unit {0}
OnlyTold (Some file) may_leave = Only file may_leave

-- what a crash may leave of a write of n bytes over an old file
pub record Torn (at n : ℕ) (old new : List ℕ) : Type 0 where
  -- any bytes in the range and past the old end, the old bytes elsewhere
  pub before : take (min at (length old)) new ≡ take (min at (length old)) old
  pub after : drop (at + n) new ≡ drop (at + n) old
  -- a length between the old and the new one
  pub no_shorter : length old ≤ length new
  pub no_longer : length new ≤ max (length old) (at + n)

-- each image that a crash may leave now comes by such a step from an image that it might have left before
abbrev pub Follows : (List ℕ → List ℕ → Type 0) → (List ℕ → Type 0) → (List ℕ → Type 0) → Type 0
Follows step old new = (image : List ℕ) → new image → (earlier : List ℕ) × old earlier × step earlier image

-- time goes on: a crash at some moment since t may have left what it might have left before this call, or what it may leave now
pub record Elapses (before now : ℕ) (past since : ℕ → List ℕ → Type 0) (may_leave : List ℕ → Type 0) : Type 0 where
  pub later : before ≤ now
  pub nothing_else : (t : ℕ) (image : List ℕ) → t ≤ before → since t image → past t image ⊎ may_leave image
  pub keeps : (t : ℕ) (image : List ℕ) → t ≤ before → past t image → since t image

-- if a call fails, the count of faults rose; if it succeeds, the count stands
pub record HasCause {T E : Type 0} (before now : ℕ) (result : Result T E) : Type 0 where
  pub later : before ≤ now
  pub failed : OnErr result (Rose before now)
  pub quiet : OnOk result (now ≡ before)
