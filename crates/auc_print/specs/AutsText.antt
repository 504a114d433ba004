-- The line that a full print adds after a synchronisation failure: the USIM's AUTS (TS 33.102 §6.3.3), and the RAND of the vector
-- that was presented.
use Rattle.std.specs.Prelude.{ℕ, zero, suc, ◌*◌, ◌==◌, nat_lt, List, [], ◌∷◌, length, take, drop, slice_get, slice_index, Option, Some, None, Result, Ok, Err, if◌then◌else◌, codes}
use Rattle.hex.specs.Hex.{encode_lower}
use Rattle.auc_lines.specs.Part.{is_that}
use Rattle.auc_milenage.specs.Milenage.{auts}
use Rattle.auc_random.specs.Random.{rand_of}
use Rattle.auc_subs.specs.declared.row.Row.{Row}
use Rattle.auc_vector.specs.declared.notes.UsimNote.{UsimNote}
use Rattle.auc_vector.specs.declared.notes.UsimNote.TheVariants as usim
use Rattle.auc_record.specs.Event.{device_in, usim_in}
use Rattle.auc_subs.specs.Setting.{Setting}
use Rattle.auc_record.specs.declared.event.Event.{Event as SessionEvent}
use Rattle.auc_record.specs.declared.event.Event.TheVariants as event
use Rattle.auc_record.specs.declared.event.EventRecord.{EventRecord}
use Rattle.auc_record.specs.declared.event.Note.{Note}
use Rattle.auc_record.specs.declared.event.WorldRefusal.{WorldRefusal}
use Rattle.auc_record.specs.declared.record.GiveVerdict.{GiveVerdict}
use Rattle.auc_record.specs.declared.record.GiveVerdict.TheVariants.{Accepted, Sync as SyncFailure, Absent}
use Rattle.auc_record.specs.declared.record.LineRecord.{LineRecord}
use Rattle.auc_record.specs.declared.record.LineRecord.TheVariants.{Number, Sync, Give, Further, Event}
use Rattle.auc_print.specs.EventText.{step_sent}

-- ---- the line

-- the words of an AUTS and of the RAND that it answers
abbrev pub auts_words : List ℕ → List ℕ → List (List ℕ)
auts_words sent rand = codes "auts" ∷ encode_lower sent ∷ encode_lower rand ∷ []

-- the line of a subscriber's USIM that refuses the SQN of a vector, by the subscriber's row, the vector's RAND and SQN_MS
abbrev pub auts_lines : Option Row → Option (List ℕ) → List ℕ → List (List (List ℕ))
auts_lines None rand sqn_ms = []
auts_lines (Some row) None sqn_ms = []
auts_lines (Some row) (Some rand) sqn_ms = auts_words (auts row.secret.k row.secret.opc rand sqn_ms) rand ∷ []

-- ---- the RAND of a packet

-- the value of the first AT_RAND (RFC 4187 §10.6) among at most so many attributes. It stands after type, length and two reserved
-- bytes, and an attribute takes four times its length (RFC 4187 §8.1)
abbrev pub rand_among : ℕ → List ℕ → Option (List ℕ)
rand_among zero attrs = None
rand_among (suc more) attrs =
    if nat_lt (length attrs) 20 then None
    else if slice_index attrs 0 == 1 then Some (take 16 (drop 4 attrs))
    else rand_among more (drop (4 * slice_index attrs 1) attrs)

-- that of a packet, whose attributes stand after 8 bytes
abbrev pub rand_in : Option (List ℕ) → Option (List ℕ)
rand_in None = None
rand_in (Some bytes) = rand_among (length bytes) (drop 8 bytes)

-- the bytes of the packet of a number, if it was sent or made in an event
abbrev pub packet_in : ℕ → Result Note WorldRefusal → Option (List ℕ)
packet_in packet (Ok note) = if is_that packet note.packet then Some (step_sent note.step) else None
packet_in packet (Err why) = None

-- the same of a job's record
abbrev pub packet_of : ℕ → LineRecord → Option (List ℕ)
packet_of packet (Number sub note) = None
packet_of packet (Sync sub note) = None
packet_of packet (Give sub n verdict) = None
packet_of packet (Further said) = None
packet_of packet (Event r) = packet_in packet r.result

abbrev pub found_or : Option (List ℕ) → Option (List ℕ) → Option (List ℕ)
found_or None later = later
found_or (Some bytes) later = Some bytes

-- and of a job, whose packets have different numbers
abbrev pub packet_among : ℕ → List LineRecord → Option (List ℕ)
packet_among packet [] = None
packet_among packet (answer ∷ job) = found_or (packet_of packet answer) (packet_among packet job)

-- ---- the lines after a record's

-- the row of a subscriber, if there is one
abbrev pub row_at : List Row → Option ℕ → Option Row
row_at rows None = None
row_at rows (Some sub) = slice_get rows sub

-- RAND of the packet of a job that an event delivers
abbrev pub rand_delivered : List LineRecord → SessionEvent → Option (List ℕ)
rand_delivered job (event.Open opening) = None
rand_delivered job (event.Start session) = None
rand_delivered job (event.Deliver session at' packet) = rand_in (packet_among packet job)
rand_delivered job (event.Repeat session) = None
rand_delivered job (event.GiveUp session at') = None
rand_delivered job (event.Tamper packet place byte) = None
rand_delivered job (event.Cut packet count) = None

-- after a USIM's answer to a vector that was presented alone, and in a session
abbrev pub give_auts : Option Row → List ℕ → GiveVerdict → List (List (List ℕ))
give_auts row rand Accepted = []
give_auts row rand (SyncFailure sqn_ms) = auts_lines row (Some rand) sqn_ms
give_auts row rand Absent = []

abbrev pub usim_auts : Option Row → Option (List ℕ) → Option UsimNote → List (List (List ℕ))
usim_auts row rand None = []
usim_auts row rand (Some (usim.Accepted sqn)) = []
usim_auts row rand (Some (usim.Sync sqn_ms)) = auts_lines row rand sqn_ms
usim_auts row rand (Some usim.WrongMac) = []

-- after an event of a job with these records; RAND is that of the packet that was delivered
abbrev pub event_auts : Setting → List LineRecord → EventRecord → List (List (List ℕ))
event_auts set job r = usim_auts (row_at set.rows (device_in r.result)) (rand_delivered job r.event) (usim_in r.result)

-- after a record of such a job
abbrev pub auts_after : Setting → List LineRecord → LineRecord → List (List (List ℕ))
auts_after set job (Number sub note) = []
auts_after set job (Sync sub note) = []
auts_after set job (Give sub n verdict) = give_auts (slice_get set.rows sub) (rand_of set.key sub n) verdict
auts_after set job (Further said) = []
auts_after set job (Event r) = event_auts set job r
