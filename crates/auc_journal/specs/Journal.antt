-- Journals that are open.
use Rattle.std.specs.Prelude.{ℕ, ◌<◌, Bool, List, length, map, slice_index, slice_index_or}
use Rattle.auc_memory.specs.Identity.{Identity}
use Rattle.auc_journal.specs.Image.{Frame, reserved_in}

-- what contracts see of a journal
pub record JournalState (D : Type 0) : Type 0 where
  pub disk : D
  -- the place of the closed gate
  pub place : ℕ
  -- the identities of the subscribers for which it was opened
  pub all : List Identity
  -- the identities of those that have places now, in their order
  pub imsis : List Identity
  -- each identity of the file once, with its limit
  pub limits : List Frame
  -- whether an append answered StoreFault
  pub failed : Bool

-- the identity of a subscriber
abbrev pub imsi_at : List Identity → ℕ → Identity
imsi_at imsis sub = slice_index_or imsis sub (record { digits = 0; number = 0 })

-- the limit of a subscriber, or 0 if it has none
abbrev pub reserved_at : {D : Type 0} → JournalState D → ℕ → ℕ
reserved_at journal sub = reserved_in journal.limits (imsi_at journal.imsis sub)

-- the limits of the subscribers, in their order
abbrev pub limits_of : {D : Type 0} → JournalState D → List ℕ
limits_of journal = map (λ imsi. reserved_in journal.limits imsi) journal.imsis

-- the frame that an append for a subscriber adds
abbrev pub frame_for : {D : Type 0} → JournalState D → ℕ → ℕ → Frame
frame_for journal sub limit = record { imsi = imsi_at journal.imsis sub; limit = limit }

-- the frames of several subscribers, each with its limit
abbrev pub frame_at : List Identity → ℕ × ℕ → Frame
frame_at imsis item = record { imsi = imsi_at imsis item.0; limit = item.1 }

abbrev pub frames_at : List Identity → List (ℕ × ℕ) → List Frame
frames_at imsis items = map (frame_at imsis) items

-- the frames that an append for several subscribers adds
abbrev pub frames_for : {D : Type 0} → JournalState D → List (ℕ × ℕ) → List Frame
frames_for journal items = frames_at journal.imsis items

-- a number of some subscriber is above the limit that it has: the journal needs a frame for it
abbrev pub NeedsFrame : {D : Type 0} → JournalState D → List ℕ → Type 0
NeedsFrame journal numbers = (sub : ℕ) × (sub < length journal.imsis) × (reserved_at journal sub < slice_index numbers sub)
