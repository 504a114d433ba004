-- What the record of an event says of a subscriber: what the centre answered for it, and what its USIM answered.
use Rattle.std.specs.Prelude.{ℕ, ◌==◌, ◌-◌, Bool, false, List, [], ◌∷◌, Option, Some, None, Result, Ok, Err, if◌then◌else◌}
use Rattle.auc_lines.specs.Part.{is_that}
use Rattle.auc_released.specs.declared.numbers.Number.{Number}
use Rattle.auc_vector.specs.declared.notes.NumberNote.{NumberNote}
use Rattle.auc_vector.specs.declared.notes.NumberNote.TheVariants as number
use Rattle.auc_vector.specs.declared.notes.ResyncNote.{ResyncNote}
use Rattle.auc_vector.specs.declared.notes.ResyncNote.TheVariants as resync
use Rattle.auc_vector.specs.declared.notes.UsimNote.{UsimNote}
use Rattle.auc_vector.specs.declared.notes.UsimNote.TheVariants as usim
use Rattle.auc_vector.specs.declared.parts.Vector.{Vector}
use Rattle.auc_record.specs.declared.event.EventRecord.{EventRecord}
use Rattle.auc_record.specs.declared.event.Note.{Note}
use Rattle.auc_record.specs.declared.event.WorldRefusal.{WorldRefusal}

-- ---- what came of it

-- what an event comes to
abbrev pub Came : Type 0
Came = Result Note WorldRefusal

-- the subscriber for whom the centre was asked, and the one whose device received a packet; none, if the event was refused
abbrev pub asked_in : Result Note WorldRefusal → Option ℕ
asked_in (Ok note) = note.asked
asked_in (Err why) = None

abbrev pub device_in : Result Note WorldRefusal → Option ℕ
device_in (Ok note) = note.device
device_in (Err why) = None

-- what the centre answered to a draw and to a synchronisation failure, and what a USIM answered
abbrev pub number_in : Result Note WorldRefusal → Option NumberNote
number_in (Ok note) = note.notes.number
number_in (Err why) = None

abbrev pub resync_in : Result Note WorldRefusal → Option ResyncNote
resync_in (Ok note) = note.notes.resync
resync_in (Err why) = None

abbrev pub usim_in : Result Note WorldRefusal → Option UsimNote
usim_in (Ok note) = note.notes.usim
usim_in (Err why) = None

-- the vector that was released
abbrev pub event_vector : Result Note WorldRefusal → Option Vector
event_vector (Ok note) = note.vector
event_vector (Err why) = None

-- the number that was released, with the subscriber for whom it was drawn
abbrev pub number_with : Option ℕ → Option NumberNote → Option Number
number_with None drew = None
number_with (Some sub) None = None
number_with (Some sub) (Some (number.Drew n)) = Some (record { sub = sub; n = n })
number_with (Some sub) (Some (number.Exhausted word)) = None
number_with (Some sub) (Some (number.Withheld n stop)) = None

-- ---- of a subscriber

abbrev pub number_for : ℕ → EventRecord → Option NumberNote
number_for sub r = if is_that sub (asked_in r.result) then number_in r.result else None

abbrev pub resync_for : ℕ → EventRecord → Option ResyncNote
resync_for sub r = if is_that sub (asked_in r.result) then resync_in r.result else None

abbrev pub usim_for : ℕ → EventRecord → Option UsimNote
usim_for sub r = if is_that sub (device_in r.result) then usim_in r.result else None

-- ---- what notes say

-- the number of a vector that was released
abbrev pub number_released : Option NumberNote → List ℕ
number_released None = []
number_released (Some (number.Drew n)) = n ∷ []
number_released (Some (number.Exhausted word)) = []
number_released (Some (number.Withheld n stop)) = []

-- a number that was drawn and withheld
abbrev pub number_withheld : Option NumberNote → List ℕ
number_withheld None = []
number_withheld (Some (number.Drew n)) = []
number_withheld (Some (number.Exhausted word)) = []
number_withheld (Some (number.Withheld n stop)) = n ∷ []

-- whether this word was read when a number was asked for
abbrev pub is_exhausted : ℕ → Option NumberNote → Bool
is_exhausted word None = false
is_exhausted word (Some (number.Drew n)) = false
is_exhausted word (Some (number.Exhausted read)) = read == word
is_exhausted word (Some (number.Withheld n stop)) = false

-- how many numbers a resynchronisation passed over
abbrev pub number_passed : Option ResyncNote → ℕ
number_passed None = 0
number_passed (Some (resync.Moved from to)) = to - from
number_passed (Some (resync.InRange seen seq)) = 0
number_passed (Some (resync.Beyond seen seq)) = 0
number_passed (Some resync.BadAuts) = 0

-- the SQN that a USIM accepted
abbrev pub sqn_accepted : Option UsimNote → List (List ℕ)
sqn_accepted None = []
sqn_accepted (Some (usim.Accepted sqn)) = sqn ∷ []
sqn_accepted (Some (usim.Sync sqn)) = []
sqn_accepted (Some usim.WrongMac) = []
