-- Disks in memory: the image that one began with, its record of calls, which calls fail, and how it counts faults.
use Rattle.std.specs.Prelude.{◌≡◌, ◌⊎◌, ℕ, ◌+◌, List, ◌∷◌, length, Bool, false}
use Rattle.auc_memory.specs.Faults.{raised}
use Rattle.auc_disk.specs.Failing.{Failing, is_listed}
use Rattle.auc_disk.specs.Replay.{Image, ImageSince, seen_after}
use Rattle.auc_disk.specs.declared.call.Call.{Call}
use Rattle.auc_disk.specs.declared.call.Call.TheVariants.{Wrote}
use Rattle.auc_disk.specs.declared.disk_call.DiskCall.{DiskCall}
use Rattle.auc_disk.specs.declared.disk_call.DiskCall.TheVariants.{Len, ReadAt, WriteAt, Sync}

-- how many calls of each kind there were
pub record Made : Type 0 where
  pub lens : ℕ
  pub reads : ℕ
  pub writes : ℕ
  pub syncs : ℕ

-- how many calls of one kind there were
abbrev pub made_of : Made → DiskCall → ℕ
made_of made Len = made.lens
made_of made ReadAt = made.reads
made_of made WriteAt = made.writes
made_of made Sync = made.syncs

-- how many calls of all kinds there were
abbrev pub calls_in : Made → ℕ
calls_in made = made.lens + made.reads + made.writes + made.syncs

-- the counts after one more call of a kind
abbrev pub one_more : Made → DiskCall → Made
one_more made Len = record made { lens = raised made.lens }
one_more made ReadAt = record made { reads = raised made.reads }
one_more made WriteAt = record made { writes = raised made.writes }
one_more made Sync = record made { syncs = raised made.syncs }

-- what a disk in memory holds
pub record DiskState : Type 0 where
  -- the image that it began with, and the calls that change what a crash may leave, the last one first
  pub first : List ℕ
  pub calls : List Call
  -- the last answer of `len`, or 0 before the first
  pub last_len : ℕ
  -- how many calls there were, which of them fail, and how many failed
  pub made : Made
  pub failing : List Failing
  pub faults : ℕ

-- whether the next call of a kind is to fail
abbrev pub is_failing : DiskState → DiskCall → Bool
is_failing state call = is_listed state.failing call (raised (made_of state.made call))

-- what a read gives
abbrev pub seen_of : DiskState → List ℕ
seen_of state = seen_after state.first state.calls

-- the images that a crash now may leave
abbrev pub LeavesNow : DiskState → List ℕ → Type 0
LeavesNow state image = Image state.first state.calls image

-- the images that a crash at some moment since t may have left; a moment is how many calls are recorded
abbrev pub LeftSince : DiskState → ℕ → List ℕ → Type 0
LeftSince state t image = ImageSince state.first state.calls t image

-- the disk after a call of a kind was counted
abbrev pub after_call : DiskState → DiskCall → DiskState
after_call state call = record state { made = one_more state.made call }

-- the disk after a call of a kind that failed
abbrev pub after_fault : DiskState → DiskCall → DiskState
after_fault state call = record state { made = one_more state.made call; faults = raised state.faults }

-- the disk after `len` succeeded
abbrev pub after_len : DiskState → DiskState
after_len state = record state { made = one_more state.made Len; last_len = length (seen_of state) }

-- the disk after a call of a kind succeeded that is recorded
abbrev pub after_record : DiskState → DiskCall → Call → DiskState
after_record state call recorded = record state { made = one_more state.made call; calls = recorded ∷ state.calls }

-- the disk after a write failed: the range is open, or, if memory ran out, the write was not begun
abbrev pub AfterFailedWrite : DiskState → ℕ → List ℕ → DiskState → Type 0
AfterFailedWrite old at bytes new =
    (new ≡ record old { made = one_more old.made WriteAt; faults = raised old.faults; calls = Wrote at bytes false ∷ old.calls }) ⊎ (new ≡ after_fault old WriteAt)
