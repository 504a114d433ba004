-- The law of failures for vectors that sessions present: a packet with RAND and AUTN of a released vector reaches the
-- device of its subscriber, and the USIM answers (RFC 4187 §9.3).
use Rattle.std.specs.Prelude.{◌≡◌, ◌≢◌, ◌↔◌, ℕ, zero, suc, List, [], ◌∷◌, ◌++◌, Option, Some, None, Ok, Err, flat_map, map, slice_get, Contains}
use Rattle.auc_memory.specs.declared.stop.Stop.{Stop}
use Rattle.auc_lines.specs.declared.part.End.TheVariants as end
use Rattle.auc_lines.specs.declared.part.Part.{Part}
use Rattle.auc_packet.specs.Received.{IsReceived, Seen, attrs_in}
use Rattle.auc_request.specs.Request.{autn_of as autn_value, first_value, rand_of as rand_value}
use Rattle.auc_subs.specs.Subscriber.{AreSubscribers}
use Rattle.auc_subs.specs.declared.row.Row.{Row}
use Rattle.auc_random.specs.Random.{rand_of}
use Rattle.auc_vector.specs.Vector.{autn_of}
use Rattle.auc_vector.specs.declared.notes.UsimNote.{UsimNote}
use Rattle.auc_vector.specs.declared.notes.UsimNote.TheVariants as usim
use Rattle.auc_record.specs.Event.{Came, usim_for}
use Rattle.auc_world.specs.Happened.{sent_by}
use Rattle.auc_record.specs.Lines.{accepted, all_lines, numbers_of}
use Rattle.auc_subs.specs.Setting.{Setting}
use Rattle.auc_world.specs.Transcript.{IsLawful, lines_of, stretches_of}
use Rattle.auc_record.specs.declared.event.Event.TheVariants as event
use Rattle.auc_record.specs.declared.event.EventRecord.{EventRecord}
use Rattle.auc_record.specs.declared.event.NoteStep.{NoteStep}
use Rattle.auc_record.specs.declared.event.NoteStep.TheVariants as did
use Rattle.auc_record.specs.declared.record.LineRecord.{LineRecord}
use Rattle.auc_record.specs.declared.record.LineRecord.TheVariants.{Event}
use Rattle.auc_record.specs.declared.record.PartRecord.{PartRecord}
use Rattle.auc_record.specs.declared.record.PartRecord.TheVariants as record_of
use Rattle.auc_record.specs.declared.record.RoundRecord.{RoundRecord}
use Rattle.auc_transcript.specs.Headline.{FailsByPlace, IsInReach}
use Rattle.auc_transcript.specs.Rounds.{FailsByPlaceInRounds, IsInReachInRounds, entries_of_rounds}

-- ---- the packets of a job

-- the bytes that were sent, if any were
abbrev pub those_sent : Option (List ℕ) → List (List ℕ)
those_sent None = []
those_sent (Some bytes) = bytes ∷ []

abbrev pub sent_in_step : NoteStep → List (List ℕ)
sent_in_step did.Opened = []
sent_in_step (did.Server what) = those_sent (sent_by what)
sent_in_step (did.Peer what) = those_sent (sent_by what)
sent_in_step (did.Made bytes) = bytes ∷ []

abbrev pub sent_in : Came → List (List ℕ)
sent_in (Ok note) = sent_in_step note.step
sent_in (Err why) = []

abbrev pub sent_in_line : LineRecord → List (List ℕ)
sent_in_line (Event r) = sent_in r.result
sent_in_line other = []

-- the packets that some lines of a job sent or made of others, in their order
abbrev pub packets_in : List LineRecord → List (List ℕ)
packets_in lines = flat_map sent_in_line lines

-- the packet of a number, from 1
abbrev pub packet_of_number : List (List ℕ) → ℕ → Option (List ℕ)
packet_of_number packets zero = None
packet_of_number packets (suc place) = slice_get packets place

-- ---- events

-- an event stands in a transcript after some lines, of which these are those of its job
pub record StandsAfter (records : List PartRecord) (before own : List LineRecord) (r : EventRecord) : Type 0 where
  -- its round, after earlier parts
  pub early : List PartRecord
  pub round : RoundRecord
  pub late : List PartRecord
  pub records_are : records ≡ early ++ record_of.Round round ∷ late
  -- its job, after earlier jobs of the round: these lines, the event, and what follows
  pub beside : List (List LineRecord)
  pub after : List LineRecord
  pub others : List (List LineRecord)
  pub jobs_are : round.jobs ≡ beside ++ (own ++ Event r ∷ after) ∷ others
  pub before_is : before ≡ lines_of early ++ all_lines beside ++ own

-- a session presents the vector of a released number to its subscriber's USIM after some lines of a transcript: it delivers
-- a packet of the job in which the vector's RAND and AUTN are read, and the USIM answers
pub record IsPresentedInSession (set : Setting) (records : List PartRecord) (before : List LineRecord) (sub n : ℕ) (row : Row) (answer : UsimNote) : Type 0 where
  pub released : Contains (numbers_of sub (lines_of records)) n
  pub there : slice_get set.rows sub ≡ Some row
  pub own : List LineRecord
  pub delivery : EventRecord
  pub stands : StandsAfter records before own delivery
  -- it delivers a packet of the job
  pub session : ℕ
  pub packet : ℕ
  pub delivers : delivery.event ≡ event.Deliver session end.Peer packet
  pub seen : Seen
  pub is_packet : packet_of_number (packets_in own) packet ≡ Some seen.bytes
  pub received : IsReceived seen
  -- the packet has AT_RAND and AT_AUTN of the vector
  pub rand : first_value rand_value (attrs_in seen.reading) ≡ Some (rand_of set.key sub n)
  pub autn : first_value autn_value (attrs_in seen.reading) ≡ Some (autn_of row.secret.k row.secret.opc (rand_of set.key sub n) row.amf row.bits n)
  -- the note of the USIM's answer
  pub answered : usim_for sub delivery ≡ Some answer

-- ---- failures

-- the note of a USIM's answer is a synchronisation failure
abbrev pub IsNotedFailure : UsimNote → Type 0
IsNotedFailure (usim.Accepted sqn) = ⊥
IsNotedFailure (usim.Sync sqn_ms) = Unit {0}
IsNotedFailure usim.WrongMac = ⊥

-- each released vector that a session presents and that is in reach gets a synchronisation failure if and only if it fails
-- by its place
abbrev pub FailsExactlyByPlaceInSessions : Setting → List PartRecord → Type 0
FailsExactlyByPlaceInSessions set records = (before : List LineRecord) (sub n : ℕ) (row : Row) (answer : UsimNote)
    → IsPresentedInSession set records before sub n row answer → IsInReach row.bits (stretches_of sub records) row.usim (accepted row.bits sub before) n
    → IsNotedFailure answer ↔ FailsByPlace row.bits row.age (stretches_of sub records) (accepted row.bits sub before) n

-- the same of rounds without a restart between them
abbrev pub FailsExactlyByPlaceInSessionsOfRounds : Setting → List RoundRecord → Type 0
FailsExactlyByPlaceInSessionsOfRounds set rounds = (before : List LineRecord) (sub n : ℕ) (row : Row) (answer : UsimNote)
    → IsPresentedInSession set (map record_of.Round rounds) before sub n row answer
    → IsInReachInRounds row.bits (entries_of_rounds sub rounds) row.usim (accepted row.bits sub before) n
    → IsNotedFailure answer ↔ FailsByPlaceInRounds row.bits row.age (entries_of_rounds sub rounds) (accepted row.bits sub before) n

-- no USIM finds a wrong MAC in a released vector: what isn't a synchronisation failure is an acceptance
abbrev pub FindsRightMacs : Setting → List PartRecord → Type 0
FindsRightMacs set records = (before : List LineRecord) (sub n : ℕ) (row : Row) (answer : UsimNote)
    → IsPresentedInSession set records before sub n row answer → answer ≢ usim.WrongMac

-- ---- the laws

abbrev pub EachFailureInSessionsIsByPlace : Type 0
EachFailureInSessionsIsByPlace = (set : Setting) (reserved : List ℕ) (stop : Option Stop) (parts : List Part) (records : List PartRecord)
    → AreSubscribers set.rows → IsLawful set reserved stop parts records → FailsExactlyByPlaceInSessions set records

abbrev pub EachFailureInSessionsOfRoundsIsByPlace : Type 0
EachFailureInSessionsOfRoundsIsByPlace = (set : Setting) (reserved : List ℕ) (stop : Option Stop) (parts : List Part) (rounds : List RoundRecord)
    → AreSubscribers set.rows → IsLawful set reserved stop parts (map record_of.Round rounds) → FailsExactlyByPlaceInSessionsOfRounds set rounds

abbrev pub EachPresentedVectorHasARightMac : Type 0
EachPresentedVectorHasARightMac = (set : Setting) (reserved : List ℕ) (stop : Option Stop) (parts : List Part) (records : List PartRecord)
    → AreSubscribers set.rows → IsLawful set reserved stop parts records → FindsRightMacs set records
