-- What every run of events promises.
use Rattle.std.specs.Prelude.{◌≡◌, ◌≢◌, ℕ, ◌<◌, true, List, [], ◌∷◌, All, AllPairs, Contains, None, Some, length, map, slice_get, slice_index}
use Rattle.auc_aes.specs.Bytes.{IsBlock}
use Rattle.auc_core.specs.Step.{CoreState}
use Rattle.auc_history.specs.History.{IsLegal}
use Rattle.auc_hmac.specs.declared.keys.KeySet.{KeySet}
use Rattle.auc_lines.specs.Part.{held_subs}
use Rattle.auc_lines.specs.declared.part.Line.{Line}
use Rattle.auc_lines.specs.declared.part.Part.{Part}
use Rattle.auc_lines.specs.declared.part.Part.TheVariants.{Round}
use Rattle.auc_sqn.specs.Number.{sqn_bytes}
use Rattle.auc_subs.specs.Subscriber.{top_at}
use Rattle.auc_subs.specs.declared.row.Row.{Row}
use Rattle.auc_transcript.specs.Keys.{AreNets}
use Rattle.auc_transcript.specs.Presented.{FailsExactlyByPlaceInSessions, FindsRightMacs}
use Rattle.auc_world.specs.Agreement.{AreOfOne, IsRealm, PeerWon, ServerWon}
use Rattle.auc_record.specs.Event.{Came}
use Rattle.auc_record.specs.Entries.{entries_of_lines}
use Rattle.auc_record.specs.Lines.{is_in, accepted, numbers_of}
use Rattle.auc_world.specs.Net.{Net}
use Rattle.auc_subs.specs.Setting.{Setting}
use Rattle.auc_world.specs.Transcript.{IsLawful}
use Rattle.auc_world.specs.World.{AreHomes, WorldState}
use Rattle.auc_record.specs.declared.event.Event.{Event}
use Rattle.auc_record.specs.declared.event.Event.TheVariants as event
use Rattle.auc_world.specs.declared.net.Inputs.{Inputs}
use Rattle.auc_world.specs.declared.net.Session.{Session}
use Rattle.auc_record.specs.declared.record.LineRecord.{LineRecord}
use Rattle.auc_record.specs.declared.record.PartRecord.{PartRecord}
use Rattle.auc_record.specs.declared.record.PartRecord.TheVariants as record_of
use Rattle.auc_record.specs.declared.record.RoundRecord.{RoundRecord}
use Rattle.auc_events.specs.Run.{IsRun, event_records, first_words, job_records, job_with, top_in}

-- ---- the transcript of a run

-- a scenario of one round with one job, and a transcript of one round
abbrev pub parts_with : List Line → List Part
parts_with job = Round (job ∷ []) ∷ []

abbrev pub transcript_with : RoundRecord → List PartRecord
transcript_with round = record_of.Round round ∷ []

-- the lines of a job are those of a lawful transcript of one round with this job alone, before which nothing was reserved and in
-- which no reservation stopped. The job leads to a network of its sessions, and its entries of each subscriber are a legal
-- history from the row's number to the centre's word
pub record IsLawfulJob (set : Setting) (job : List Line) (lines : List LineRecord) (net : Net) (words : List ℕ) (round : RoundRecord) : Type 0 where
  pub jobs : round.jobs ≡ lines ∷ []
  pub lawful : IsLawful set [] None (parts_with job) (transcript_with round)
  pub nets : AreNets set (parts_with job) (transcript_with round) ((net ∷ []) ∷ [])
  pub histories : (sub : ℕ) → sub < length set.rows → IsLegal (top_at set.rows sub) (slice_index (first_words set.rows) sub) (slice_index words sub) (entries_of_lines sub [] lines)

-- the records of a run are the lines of its job
abbrev pub IsTranscriptOf : Setting → List ℕ → List Event → List Came → WorldState → List ℕ → RoundRecord → Type 0
IsTranscriptOf set subs events results last words round = IsLawfulJob set (job_with subs events) (job_records subs events results) last.net words round

abbrev pub EachRunIsLawful : Type 0
EachRunIsLawful = (set : Setting) (subs : List ℕ) (events : List Event) (results : List Came) (last : WorldState) (core : CoreState)
    → IsRun set subs events results last core → (round : RoundRecord) × IsTranscriptOf set subs events results last core.words round

-- if it opens a session, its subscriber is one of some
abbrev pub OpensAmong : List ℕ → Event → Type 0
OpensAmong subs (event.Open opening) = is_in opening.sub subs ≡ true
OpensAmong subs other = Unit {0}

-- a run may begin with the homes and devices of any subscribers, no two of them the same, if each session that is opened is of one
-- of them: these are the subscribers whose USIMs the job then holds
abbrev pub EachJobHoldsItsSubscribers : Type 0
EachJobHoldsItsSubscribers = (subs : List ℕ) (events : List Event) → AllPairs ◌≢◌ subs → All (OpensAmong subs) events → held_subs (job_with subs events) ≡ subs

-- the condition of `World::apply` that the homes are the centre's subscribers holds after a run
abbrev pub EachRunMayGoOn : Type 0
EachRunMayGoOn = (set : Setting) (subs : List ℕ) (events : List Event) (results : List Came) (last : WorldState) (core : CoreState)
    → IsRun set subs events results last core → AreHomes set.rows (length core.words) (top_in core) last.net.homes

-- ---- its promises

-- no two vectors that a run releases for a subscriber have the same SQN
abbrev pub EachRunDrawsNoNumberTwice : Type 0
EachRunDrawsNoNumberTwice = (set : Setting) (subs : List ℕ) (events : List Event) (results : List Came) (last : WorldState) (core : CoreState) (sub : ℕ) (row : Row)
    → IsRun set subs events results last core → slice_get set.rows sub ≡ Some row → AllPairs ◌≢◌ (map (sqn_bytes row.bits) (numbers_of sub (event_records events results)))

-- no USIM accepts an SQN twice in a run
abbrev pub EachRunAcceptsNoneTwice : Type 0
EachRunAcceptsNoneTwice = (set : Setting) (subs : List ℕ) (events : List Event) (results : List Came) (last : WorldState) (core : CoreState) (sub : ℕ) (row : Row)
    → IsRun set subs events results last core → slice_get set.rows sub ≡ Some row → AllPairs ◌≢◌ (accepted row.bits sub (event_records events results))

-- a run presents vectors, by its transcript: each released one that is in reach gets a synchronisation failure if and only if it
-- fails by its place, and no USIM finds a wrong MAC in one
pub record JudgesVectors (set : Setting) (round : RoundRecord) : Type 0 where
  pub places : FailsExactlyByPlaceInSessions set (transcript_with round)
  pub macs : FindsRightMacs set (transcript_with round)

abbrev pub EachRunFailsByPlace : Type 0
EachRunFailsByPlace = (set : Setting) (subs : List ℕ) (events : List Event) (results : List Came) (last : WorldState) (core : CoreState)
    → IsRun set subs events results last core → (round : RoundRecord) × IsTranscriptOf set subs events results last core.words round × JudgesVectors set round

-- a server and a peer of a run that ended in Success over one challenge or in one fast re-authentication have equal keys, if no
-- delivery broke the premise
abbrev pub EachRunAgreesOnKeys : Type 0
EachRunAgreesOnKeys = (set : Setting) (subs : List ℕ) (events : List Event) (results : List Came) (last : WorldState) (core : CoreState)
    → IsRun set subs events results last core → IsRealm set.realm → IsBlock set.names → last.net.broken ≡ None
    → (a b : Session) (k l : KeySet) (i j : Inputs) → Contains last.net.sessions a → Contains last.net.sessions b
    → ServerWon a k i → PeerWon b l j → AreOfOne i j → k ≡ l
