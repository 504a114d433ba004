-- What a crash leaves of the journal after a run.
use Rattle.std.specs.Prelude.{◌≡◌, ◌≢◌, ◌⊎◌, ℕ, ◌+◌, ◌<◌, ◌≤◌, ◌^◌, max, List, length, All, slice_index, Option, Some, Ok}
use Rattle.auc_memory.specs.Identity.{Identity}
use Rattle.auc_journal.specs.Durable.{IsTold}
use Rattle.auc_journal.specs.Image.{Keeps, Reading, read_image, reserved_by}
use Rattle.auc_journal.specs.Opening.{IsAsBefore, IsOpening}
use Rattle.auc_journal.specs.Settled.{IsClosable, LeavesOnly}
use Rattle.auc_subs.specs.declared.row.Row.{Row}
use Rattle.auc_world.specs.Limits.{least_step}
use Rattle.auc_record.specs.Lines.{numbers_of}
use Rattle.auc_world.specs.Transcript.{Course}
use Rattle.auc_refusal.specs.declared.status.Status.{Status}
use Rattle.auc_refusal.specs.declared.status.Status.TheVariants.{StoreFault, NotJournal, NoMemory}
use Rattle.auc_input.specs.Opening.{limits_in}

-- they are a journal, in which one more frame would end after the greatest length, if the disk reveals them
abbrev pub IsFull : Option (List ℕ) → Type 0
IsFull seen = (file : List ℕ) → seen ≡ Some file → (reading : Reading) × (read_image file ≡ Ok reading) × (2 ^ 30 < reading.end + 1 + 19)

-- what they reserve for an identity is below a number, if the disk reveals them
abbrev pub ReservesBelow : Option (List ℕ) → Identity → ℕ → Type 0
ReservesBelow seen imsi number = (file : List ℕ) → seen ≡ Some file → reserved_by file imsi < number

-- a crash may leave this image of a disk whose bytes were known and durable before
abbrev pub MayLeave : {D : Type 0} → (D → Option (List ℕ)) → (D → List ℕ → Type 0) → D → D → List ℕ → Type 0
MayLeave seen may_leave old new image = IsTold seen may_leave old × may_leave new image

-- an image is read as a journal that reserves for each subscriber at least each number that was released, and, unless
-- memory ran out, at most the greater of what was reserved at first and a step above its greatest word
pub record IsKept (status : Status) (rows : List Row) (reserved : List ℕ) (end : Course) (image : List ℕ) : Type 0 where
  pub reading : Reading
  pub is_read : read_image image ≡ Ok reading
  pub released : (sub : ℕ) → sub < length rows → All (λ n. n ≤ slice_index (limits_in rows reading.frames) sub) (numbers_of sub end.early)
  pub near : status ≢ NoMemory → (sub : ℕ) → sub < length rows
      → slice_index (limits_in rows reading.frames) sub ≤ max (slice_index reserved sub) (slice_index end.highs sub + least_step)

-- a crash at some moment of a call may have left this image of a disk whose bytes were known and durable before
abbrev pub MayHaveLeft : {D : Type 0} → (D → Option (List ℕ)) → (D → List ℕ → Type 0) → (D → ℕ) → (D → ℕ → List ℕ → Type 0) → D → D → List ℕ → Type 0
MayHaveLeft seen may_leave moment left_since old new image = IsTold seen may_leave old × left_since new (moment old) image

-- an image is read as a journal that reserves for each subscriber at least what was reserved at first, and, unless memory ran
-- out, at most the greater of that and a step above its greatest word in the end
pub record IsKeptSoFar (status : Status) (rows : List Row) (reserved : List ℕ) (end : Course) (image : List ℕ) : Type 0 where
  pub reading : Reading
  pub is_read : read_image image ≡ Ok reading
  pub least : (sub : ℕ) → sub < length rows → slice_index reserved sub ≤ slice_index (limits_in rows reading.frames) sub
  pub near : status ≢ NoMemory → (sub : ℕ) → sub < length rows
      → slice_index (limits_in rows reading.frames) sub ≤ max (slice_index reserved sub) (slice_index end.highs sub + least_step)

-- what a crash at some moment of a run that ended so leaves: what the opening of the file that was found may leave, or such a journal
abbrev pub IsLeftAnyTime : Option (List ℕ) → Status → List Row → List ℕ → Course → List ℕ → Type 0
IsLeftAnyTime seen status rows reserved end image = (file : List ℕ) → seen ≡ Some file → IsOpening file image ⊎ IsKeptSoFar status rows reserved end image

-- how a run that ended so leaves its disk, if the disk told its bytes at first and a crash would have left just these: each image
-- that a crash may leave now reserves for every identity at least what these bytes did, whether the run named it or not
pub record Remembers {D : Type 0} (seen : D → Option (List ℕ)) (may_leave : D → List ℕ → Type 0) (status : Status) (old new : D) : Type 0 where
  -- if a call of the disk failed, the file has to be one that each image of its opening can be read as
  pub keeps : (told : IsTold seen may_leave old) → (status ≡ StoreFault → IsClosable told.0) → (image : List ℕ) → may_leave new image → Keeps told.0 image
  -- such are the images that a run leaves of such a file
  pub closable : (told : IsTold seen may_leave old) → IsClosable told.0 → (image : List ℕ) → may_leave new image → IsClosable image
  -- a file that is no journal stays as it was
  pub stays : status ≡ NotJournal → IsAsBefore seen may_leave old new

-- however a run ends and whatever it was asked for, if the disk told its bytes at first, a crash would have left just these, and
-- their gate can be closed: each image that a crash at any moment since then leaves reserves for every identity at least what
-- these bytes did, and its gate can be closed
abbrev pub RemembersAlways : {D : Type 0} → (D → Option (List ℕ)) → (D → List ℕ → Type 0) → (D → ℕ) → (D → ℕ → List ℕ → Type 0) → D → D → Type 0
RemembersAlways seen may_leave moment left_since old new = (told : IsTold seen may_leave old) → IsClosable told.0
    → LeavesOnly moment left_since old new (λ image. Keeps told.0 image × IsClosable image)
