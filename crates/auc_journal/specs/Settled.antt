-- Journals on a disk: what is read of one at rest, and what a crash may leave of it.
use Rattle.std.specs.Prelude.{◌≡◌, ◌⊎◌, ℕ, ◌+◌, List, [], ◌∷◌, ◌++◌, ◌≤◌, length, take, drop, true, Option, Some, Ok}
use Rattle.auc_disk.specs.Disk.{Only}
use Rattle.auc_journal.specs.Image.{Frame, Reading, is_body, read_image, size_in}

-- a file is read as these frames, and their reading ends at a closed gate
pub record AtRest (file : List ℕ) (frames : List Frame) (place : ℕ) : Type 0 where
  pub read : read_image file ≡ Ok (record { frames = frames; end = place })
  pub gate : take 1 (drop place file) ≡ 0 ∷ []

-- a body and a closed gate stand behind a gate
abbrev pub HasBody : List ℕ → ℕ → Type 0
HasBody file gate = (is_body (drop (gate + 1) file) ≡ true) × (take 1 (drop (gate + 1 + size_in (drop (gate + 1) file)) file) ≡ 0 ∷ [])

-- the gate at which the reading of a file ends costs no frame, whatever byte a crash leaves there while it is closed: the file
-- has no room for a frame, or the gate is closed, or it has a body
abbrev pub IsClosable : List ℕ → Type 0
IsClosable file = (reading : Reading) → read_image file ≡ Ok reading
    → (length file ≤ 17) ⊎ (take 1 (drop reading.end file) ≡ 0 ∷ []) ⊎ HasBody file reading.end

-- if the disk reveals its bytes, they are at rest with these frames, and a crash leaves just these bytes
pub record IsSettled {D : Type 0} (seen : D → Option (List ℕ)) (may_leave : D → List ℕ → Type 0) (disk : D) (frames : List Frame) (place : ℕ) : Type 0 where
  pub at_rest : (file : List ℕ) → seen disk ≡ Some file → AtRest file frames place
  pub durable : (file : List ℕ) → seen disk ≡ Some file → Only file (may_leave disk)

-- each image that a crash may have left from the moment of an old disk up to the new one has P
pub record LeavesOnly {D : Type 0} (moment : D → ℕ) (left_since : D → ℕ → List ℕ → Type 0) (old new : D) (P : List ℕ → Type 0) : Type 0 where
  pub later : moment old ≤ moment new
  pub each : (image : List ℕ) → left_since new (moment old) image → P image
  -- for a stretch of calls that began earlier
  pub before : (t : ℕ) (image : List ℕ) → t ≤ moment old → left_since new t image → left_since old t image ⊎ P image

-- an image is read as the frames, or as these with further ones behind them, which with their gate have so many bytes
abbrev pub IsBeforeOrAfter : List Frame → ℕ → List Frame → ℕ → List ℕ → Type 0
IsBeforeOrAfter frames place added size image =
    (read_image image ≡ Ok (record { frames = frames; end = place })) ⊎ (read_image image ≡ Ok (record { frames = frames ++ added; end = place + size }))

-- what a crash may leave during an append: such an image, whose gate can be closed
abbrev pub IsAppendingAll : List Frame → ℕ → List Frame → ℕ → List ℕ → Type 0
IsAppendingAll frames place added size image = IsBeforeOrAfter frames place added size image × IsClosable image

-- and during an append of one frame
abbrev pub IsAppending : List Frame → ℕ → Frame → List ℕ → Type 0
IsAppending frames place frame image = IsAppendingAll frames place (frame ∷ []) 19 image
