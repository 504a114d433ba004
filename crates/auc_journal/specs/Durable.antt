-- What a crash may leave of a journal, from a disk that it was opened on: of each identity a limit that isn't lower than
-- the journal's, nor than that of the bytes that were found, and that has a bound.
use Rattle.std.specs.Prelude.{◌≡◌, ℕ, ◌≤◌, List, true, false, Option, Some, Ok}
use Rattle.std.specs.Option.{is_some}
use Rattle.auc_memory.specs.Identity.{Identity}
use Rattle.auc_disk.specs.Disk.{Only}
use Rattle.auc_journal.specs.Image.{Frame, Keeps, Reading, read_image, reserved_by, reserved_in}
use Rattle.auc_journal.specs.Journal.{JournalState, imsi_at}
use Rattle.auc_journal.specs.Settled.{IsClosable, IsSettled}

-- the disk told its bytes, and a crash would have left just these
abbrev pub IsTold : {D : Type 0} → (D → Option (List ℕ)) → (D → List ℕ → Type 0) → D → Type 0
IsTold seen may_leave disk = (file : List ℕ) × (seen disk ≡ Some file) × Only file (may_leave disk)

-- for each identity, frames reserve the journal's limit at least, and this number at most
abbrev pub AreBetween : {D : Type 0} → JournalState D → (Identity → ℕ) → List Frame → Type 0
AreBetween journal most frames = (imsi : Identity) → (reserved_in journal.limits imsi ≤ reserved_in frames imsi) × (reserved_in frames imsi ≤ most imsi)

-- an image is read as such frames
abbrev pub IsBetween : {D : Type 0} → JournalState D → (Identity → ℕ) → List ℕ → Type 0
IsBetween journal most image = (reading : Reading) × (read_image image ≡ Ok reading) × AreBetween journal most reading.frames

-- what the next append begins with: the disk is settled with such frames, which keep what a file reserved; the limits are
-- theirs, and the disk still tells its bytes
pub record IsReady {D : Type 0} (seen : D → Option (List ℕ)) (may_leave : D → List ℕ → Type 0) (file : List ℕ) (most : Identity → ℕ) (journal : JournalState D) : Type 0 where
  pub frames : List Frame
  pub settled : IsSettled seen may_leave journal.disk frames journal.place
  pub keeps : (imsi : Identity) → reserved_by file imsi ≤ reserved_in frames imsi
  pub same : (imsi : Identity) → reserved_in journal.limits imsi ≡ reserved_in frames imsi
  pub below : (imsi : Identity) → reserved_in journal.limits imsi ≤ most imsi
  pub tells : is_some (seen journal.disk) ≡ true

-- a bound admits a limit for the subscriber at a place
abbrev pub Admits : {D : Type 0} → JournalState D → ℕ → ℕ → (Identity → ℕ) → Type 0
Admits journal sub limit most = limit ≤ most (imsi_at journal.imsis sub)

-- a bound admits what some frames reserve, whosever it is
abbrev pub AdmitsAll : List Frame → (Identity → ℕ) → Type 0
AdmitsAll frames most = (imsi : Identity) → reserved_in frames imsi ≤ most imsi

-- if its disk was such a one at first, what a crash may leave of a journal
pub record IsDurable {D : Type 0} (seen : D → Option (List ℕ)) (may_leave : D → List ℕ → Type 0) (from : D) (most : Identity → ℕ) (journal : JournalState D) : Type 0 where
  pub images : IsTold seen may_leave from → (image : List ℕ) → may_leave journal.disk image → IsBetween journal most image
  -- no image forgets a reservation of the bytes that were told, whosever it is, and each can be opened again without a loss
  pub keeps : (told : IsTold seen may_leave from) → (image : List ℕ) → may_leave journal.disk image → Keeps told.0 image × IsClosable image
  -- and, unless an append failed, where the next one begins
  pub ready : (told : IsTold seen may_leave from) → journal.failed ≡ false → IsReady seen may_leave told.0 most journal
