-- What the lines of jobs say of a subscriber, in the order of the lines.
use Rattle.std.specs.Prelude.{ℕ, ◌==◌, Bool, List, [], ◌∷◌, Option, Some, None, flat_map, if◌then◌else◌}
use Rattle.std.specs.List.{list_any}
use Rattle.auc_memory.specs.declared.stop.Stop.{Stop}
use Rattle.auc_sqn.specs.Number.{sqn_bytes}
use Rattle.auc_record.specs.declared.record.LineRecord.{LineRecord}
use Rattle.auc_vector.specs.Notes.{withheld_noted}
use Rattle.auc_vector.specs.declared.notes.NumberNote.{NumberNote}
use Rattle.auc_vector.specs.declared.notes.ResyncNote.{ResyncNote}
use Rattle.auc_record.specs.Event.{number_for, number_in, number_released, number_with, number_withheld, resync_for, resync_in, sqn_accepted, usim_for}
use Rattle.auc_record.specs.Record.{subscriber_of}
use Rattle.auc_record.specs.declared.record.LineRecord.TheVariants.{Number, Sync, Give, Further, Event}
use Rattle.auc_released.specs.declared.numbers.Number.{Number as NumberOf}
use Rattle.auc_record.specs.declared.record.GiveVerdict.{GiveVerdict}
use Rattle.auc_record.specs.declared.record.GiveVerdict.TheVariants as given

-- ---- what the centre answered

-- its answer when a line asked for a number, and what it made of a line's synchronisation failure
abbrev pub number_said : LineRecord → Option NumberNote
number_said (Number sub note) = Some note
number_said (Sync sub note) = None
number_said (Give sub n verdict) = None
number_said (Further said) = None
number_said (Event r) = number_in r.result

abbrev pub resync_said : LineRecord → Option ResyncNote
resync_said (Number sub note) = None
resync_said (Sync sub note) = Some note
resync_said (Give sub n verdict) = None
resync_said (Further said) = None
resync_said (Event r) = resync_in r.result

-- the same, if it was asked for this subscriber
abbrev pub number_by : ℕ → LineRecord → Option NumberNote
number_by sub (Number s note) = if s == sub then Some note else None
number_by sub (Sync s note) = None
number_by sub (Give s n verdict) = None
number_by sub (Further said) = None
number_by sub (Event r) = number_for sub r

abbrev pub resync_by : ℕ → LineRecord → Option ResyncNote
resync_by sub (Number s note) = None
resync_by sub (Sync s note) = if s == sub then Some note else None
resync_by sub (Give s n verdict) = None
resync_by sub (Further said) = None
resync_by sub (Event r) = resync_for sub r

-- the number that a line releases, if it releases one
abbrev pub number_of : LineRecord → Option NumberOf
number_of line = number_with (subscriber_of line) (number_said line)

-- ---- of a subscriber

-- whether a number stands in a list
abbrev pub is_in : ℕ → List ℕ → Bool
is_in n numbers = list_any (λ m. m == n) numbers

-- the number of the vector that a line releases for a subscriber
abbrev pub released_by : ℕ → LineRecord → List ℕ
released_by sub line = number_released (number_by sub line)

-- the numbers of the vectors that some lines release for a subscriber
abbrev pub numbers_of : ℕ → List LineRecord → List ℕ
numbers_of sub lines = flat_map (released_by sub) lines

-- the number that a line says was drawn for a subscriber and withheld
abbrev pub withheld_by : ℕ → LineRecord → List ℕ
withheld_by sub line = number_withheld (number_by sub line)

-- the numbers that were withheld from a subscriber
abbrev pub withheld_of : ℕ → List LineRecord → List ℕ
withheld_of sub lines = flat_map (withheld_by sub) lines

-- that number with the cause
abbrev pub held_by : ℕ → LineRecord → List (ℕ × Stop)
held_by sub line = withheld_noted (number_by sub line)

-- the numbers that were withheld from a subscriber, each with its cause
abbrev pub held_of : ℕ → List LineRecord → List (ℕ × Stop)
held_of sub lines = flat_map (held_by sub) lines

-- the SQN of a presented number, if it was accepted. The index of its subscriber's SQNs has so many bits
abbrev pub taken : ℕ → ℕ → GiveVerdict → List (List ℕ)
taken bits n given.Accepted = sqn_bytes bits n ∷ []
taken bits n (given.Sync sqn_ms) = []
taken bits n given.Absent = []

-- the SQN that a line says a subscriber's USIM accepted
abbrev pub accepted_by : ℕ → ℕ → LineRecord → List (List ℕ)
accepted_by bits sub (Number s note) = []
accepted_by bits sub (Sync s note) = []
accepted_by bits sub (Give s n verdict) = if s == sub then taken bits n verdict else []
accepted_by bits sub (Further said) = []
accepted_by bits sub (Event r) = sqn_accepted (usim_for sub r)

-- the SQNs that a subscriber's USIM accepted, 6 bytes each
abbrev pub accepted : ℕ → ℕ → List LineRecord → List (List ℕ)
accepted bits sub lines = flat_map (accepted_by bits sub) lines

-- the lines of all jobs, one job after the other
abbrev pub all_lines : List (List LineRecord) → List LineRecord
all_lines jobs = flat_map (λ job. job) jobs
