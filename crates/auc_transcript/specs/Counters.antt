-- Fast re-authentications over all jobs and rounds: no counter is used twice, no identity is resumed twice, and a peer accepts one
-- only under the identity that its device's context has at that moment (RFC 4187 §5.1 and §5.3).
use Rattle.std.specs.Prelude.{◌≡◌, ℕ, List, [], ◌∷◌, ◌++◌, flat_map, length, map, All, AllPairs, Option, Some, None, Ok, Err}
use Rattle.std.specs.Option.{option_to_list}
use Rattle.auc_aes.specs.Bytes.{IsBlock}
use Rattle.auc_memory.specs.declared.stop.Stop.{Stop}
use Rattle.auc_hmac.specs.declared.method.Method.{Method}
use Rattle.auc_lines.specs.declared.part.Line.{Line}
use Rattle.auc_lines.specs.declared.part.Part.{Part}
use Rattle.auc_lines.specs.declared.part.Part.TheVariants.{Round, Restart}
use Rattle.auc_peer.specs.Laws.{MayResume}
use Rattle.auc_reauth.specs.Machine.{AreDifferent, Used}
use Rattle.auc_subs.specs.Subscriber.{AreSubscribers}
use Rattle.auc_vector.specs.declared.notes.Notes.{Notes}
use Rattle.auc_record.specs.Event.{Came}
use Rattle.auc_world.specs.Came.{session_of}
use Rattle.auc_world.specs.Given.{Before, EventGives, JobGives, behind}
use Rattle.auc_record.specs.Lines.{all_lines}
use Rattle.auc_world.specs.Net.{Net, device_place, keeps_at}
use Rattle.auc_world.specs.Plain.{counter_taken, results}
use Rattle.auc_world.specs.Resumption.{AreResumedOnce, accepted_for, accepted_of, counters_in, resumed_in, resumptions}
use Rattle.auc_subs.specs.Setting.{Setting}
use Rattle.auc_world.specs.Start.{Kept, fresh_kept, kept_by_jobs, start_of}
use Rattle.auc_world.specs.Transcript.{IsLawful}
use Rattle.auc_record.specs.declared.event.EventRecord.{EventRecord}
use Rattle.auc_record.specs.declared.event.NoteStep.{NoteStep}
use Rattle.auc_record.specs.declared.event.NoteStep.TheVariants as did
use Rattle.auc_world.specs.declared.net.Session.{Session}
use Rattle.auc_record.specs.declared.record.LineRecord.{LineRecord}
use Rattle.auc_record.specs.declared.record.LineRecord.TheVariants.{Event}
use Rattle.auc_record.specs.declared.record.PartRecord.{PartRecord}
use Rattle.auc_record.specs.declared.record.PartRecord.TheVariants as record_of
use Rattle.auc_transcript.specs.Completeness.{records_of, session_in}
use Rattle.auc_transcript.specs.Keys.{AreNets, IsHeldApart}

-- ---- what is told

-- the counter that a step's notes tell that a server resumed, and the one that they tell that a device accepted
abbrev pub resumed_in_step : NoteStep → Notes → List ℕ
resumed_in_step (did.Server what) notes = option_to_list notes.resumed
resumed_in_step other notes = []

abbrev pub accepted_in_step : NoteStep → Notes → List ℕ
accepted_in_step (did.Peer what) notes = counter_taken notes.counter
accepted_in_step other notes = []

abbrev pub resumed_noted : Came → List ℕ
resumed_noted (Ok note) = resumed_in_step note.step note.notes
resumed_noted (Err why) = []

abbrev pub accepted_noted : Came → List ℕ
accepted_noted (Ok note) = accepted_in_step note.step note.notes
accepted_noted (Err why) = []

-- the counters that the records of a session tell
abbrev pub resumed_told : ℕ → List LineRecord → List ℕ
resumed_told session lines = flat_map resumed_noted (results (records_of session lines))

abbrev pub accepted_told : ℕ → List LineRecord → List ℕ
accepted_told session lines = flat_map accepted_noted (results (records_of session lines))

-- the records of a session tell the counter that its server resumed and the one that its device accepted, and no other
pub record IsTold (lines : List LineRecord) (session : Session) : Type 0 where
  pub resumed : resumed_told session.number lines ≡ map (λ r. r.context.counter) (resumed_in session.server)
  pub accepted : accepted_told session.number lines ≡ map (λ u. u.counter) (accepted_for session.peer.next session.peer)

-- those of the sessions of each job of a round, and of each round
abbrev pub EachJobTells : List (List LineRecord) → List Net → Type 0
EachJobTells [] [] = Unit {0}
EachJobTells (lines ∷ jobs) (net ∷ nets) = All (IsTold lines) net.sessions × EachJobTells jobs nets
EachJobTells jobs nets = ⊥

abbrev pub CountersAreTold : List PartRecord → List (List Net) → Type 0
CountersAreTold [] nets = nets ≡ []
CountersAreTold (record_of.Round round ∷ records) [] = ⊥
CountersAreTold (record_of.Round round ∷ records) (first ∷ nets) = EachJobTells round.jobs first × CountersAreTold records nets
CountersAreTold (record_of.Restart ∷ records) nets = CountersAreTold records nets

-- ---- what was used

-- the sessions of all jobs of all rounds
abbrev pub all_sessions : List (List Net) → List Session
all_sessions nets = flat_map (λ round. flat_map (λ net. net.sessions) round) nets

-- counters that are told, under the context that an end of the session used
abbrev pub told_under : List ℕ → List Used → List Used
told_under counters used = flat_map (λ u. map (λ counter. record u { counter = counter }) counters) used

-- what is told in all jobs of a round, and in all rounds
abbrev pub in_jobs : (List LineRecord → Net → List Used) → List (List LineRecord) → List Net → List Used
in_jobs used (lines ∷ jobs) (net ∷ nets) = used lines net ++ in_jobs used jobs nets
in_jobs used jobs nets = []

abbrev pub in_rounds : (List LineRecord → Net → List Used) → List PartRecord → List (List Net) → List Used
in_rounds used (record_of.Round round ∷ records) (first ∷ nets) = in_jobs used round.jobs first ++ in_rounds used records nets
in_rounds used (record_of.Restart ∷ records) nets = in_rounds used records nets
in_rounds used records nets = []

-- the counters of one method that the records tell that servers resumed for a subscriber, and those that they tell that its device
-- accepted, each under the context that the session's end has
abbrev pub all_resumed : Method → ℕ → List PartRecord → List (List Net) → List Used
all_resumed m sub records nets =
    in_rounds (λ lines net. flat_map (λ s. told_under (resumed_told s.number lines) (counters_in m sub s.server)) net.sessions) records nets

abbrev pub all_accepted : Method → ℕ → List PartRecord → List (List Net) → List Used
all_accepted m sub records nets =
    in_rounds (λ lines net. flat_map (λ s. told_under (accepted_told s.number lines) (accepted_of m sub s)) net.sessions) records nets

-- ---- what is promised of it

-- no server resumes a counter twice under the keys of one full authentication, and no device accepts one twice, whatever sessions
-- run side by side, and whether or not a delivery broke the premise
pub record CountersComeOnce (records : List PartRecord) (nets : List (List Net)) : Type 0 where
  pub resumed : (m : Method) (sub : ℕ) → AllPairs AreDifferent (all_resumed m sub records nets)
  pub accepted : (m : Method) (sub : ℕ) → AllPairs AreDifferent (all_accepted m sub records nets)

-- no identity of a subscriber is resumed twice
abbrev pub IdentitiesComeOnce : List (List Net) → Type 0
IdentitiesComeOnce nets = AreResumedOnce (resumptions (all_sessions nets))

-- ---- acceptances

-- a line of a job leads from one network to another: an event to the one after it, and each other line leaves it as it is
abbrev pub LineLeads : Setting → Before → Net → LineRecord → Net → Type 0
LineLeads set before net (Event r) next = EventGives set before net r.event (Event r ∷ []) next
LineLeads set before net other next = next ≡ net

-- and so do lines, one after the other
abbrev pub LinesLead : Setting → Before → Net → List LineRecord → Net → Type 0
LinesLead set before net [] last = last ≡ net
LinesLead set before net (line ∷ lines) last =
    (next : Net) × LineLeads set before net line next × LinesLead set (behind before (line ∷ [])) next lines last

-- an event stands among the lines of a job, and this is the network at that moment: the lines before it lead there from the job's first
-- network
pub record HappensIn (set : Setting) (before : Before) (start : Net) (lines : List LineRecord) (r : EventRecord) (now : Net) : Type 0 where
  pub front : List LineRecord
  pub rest : List LineRecord
  pub lines_are : lines ≡ front ++ Event r ∷ rest
  pub leads : LinesLead set before start front now

-- in a network a counter is one of the own context of a session's device
pub record IsOwn (set : Setting) (now : Net) (session counter : ℕ) : Type 0 where
  pub own : Session
  pub there : session_of now session ≡ Some own
  -- the device is that of the session's subscriber
  pub placed : device_place set.rows now.devices own.sub ≡ Some own.device
  -- it has a context of the session's method, which is open for the counter, and the identity that the peer sent last is, up to its
  -- first `@`, the context's
  pub resumes : MayResume (keeps_at now own.device) own.peer counter

-- and one of the session of an event; in no session no counter is accepted
abbrev pub IsOwnIn : Setting → Net → Option ℕ → ℕ → Type 0
IsOwnIn set now None counter = ⊥
IsOwnIn set now (Some session) counter = IsOwn set now session counter

-- each counter that an event of a job tells that a device accepted is one of its own context at that moment
abbrev pub JobAcceptsOwn : Setting → Before → Net → List LineRecord → Type 0
JobAcceptsOwn set before start lines = (r : EventRecord) (now : Net) → HappensIn set before start lines r now
    → All (IsOwnIn set now (session_in r.event)) (accepted_noted r.result)

-- so it is in each job of a round, after the lines of earlier rounds and of earlier jobs
abbrev pub JobsAcceptOwn : Setting → List LineRecord → List Kept → List LineRecord → List (List Line) → List (List LineRecord) → Type 0
JobsAcceptOwn set early kept beside [] [] = Unit {0}
JobsAcceptOwn set early kept beside (job ∷ jobs) (lines ∷ records) =
    JobAcceptsOwn set (record { early = early; beside = beside; own = [] }) (start_of set kept job) lines
    × JobsAcceptOwn set early kept (beside ++ lines) jobs records
JobsAcceptOwn set early kept beside jobs records = ⊥

-- and in each round, after the lines of earlier rounds and with what these left at homes and on devices
abbrev pub AcceptancesAreOwnAfter : Setting → List LineRecord → List Kept → List Part → List PartRecord → List (List Net) → Type 0
AcceptancesAreOwnAfter set early kept [] records nets = Unit {0}
AcceptancesAreOwnAfter set early kept (Round jobs ∷ parts) (record_of.Round round ∷ records) (first ∷ nets) =
    JobsAcceptOwn set early kept [] jobs round.jobs
    × AcceptancesAreOwnAfter set (early ++ all_lines round.jobs) (kept_by_jobs kept first) parts records nets
AcceptancesAreOwnAfter set early kept (Restart ∷ parts) (record_of.Restart ∷ records) nets =
    AcceptancesAreOwnAfter set early kept parts records nets
AcceptancesAreOwnAfter set early kept (part ∷ parts) records nets = ⊥

-- a peer accepts a re-authentication only under the identity that its device's context has at that moment. This reads the records
-- that tell of acceptances, and the job's network before each of them; in which state the ends are left is no matter
abbrev pub AcceptancesAreOwn : Setting → List Part → List PartRecord → List (List Net) → Type 0
AcceptancesAreOwn set parts records nets = AcceptancesAreOwnAfter set [] (map (λ row. fresh_kept) set.rows) parts records nets

-- ---- the promises, and the laws

pub record KeepsContexts (set : Setting) (parts : List Part) (records : List PartRecord) (nets : List (List Net)) : Type 0 where
  -- what an end resumed or accepted is what its session's records tell
  pub told : CountersAreTold records nets
  pub counters : CountersComeOnce records nets
  pub identities : IdentitiesComeOnce nets
  pub own : AcceptancesAreOwn set parts records nets

-- the lines of a job lead from its first network to its last, and to no other: so there is one network before each of its events
abbrev pub EachJobLeadsOn : Type 0
EachJobLeadsOn = (set : Setting) (before : Before) (start last : Net) (job : List Line) (lines : List LineRecord) → JobGives set before start job lines last
    → LinesLead set before start lines last × ((other : Net) → LinesLead set before start lines other → other ≡ last)

abbrev pub EachTranscriptKeepsContexts : Type 0
EachTranscriptKeepsContexts =
    (set : Setting) (reserved : List ℕ) (stop : Option Stop) (parts : List Part) (records : List PartRecord) (nets : List (List Net))
    → AreSubscribers set.rows → IsBlock set.names → All (IsHeldApart (length set.rows)) parts → IsLawful set reserved stop parts records
    → AreNets set parts records nets → KeepsContexts set parts records nets
