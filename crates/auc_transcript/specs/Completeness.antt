-- Completeness of plain sessions in whole transcripts: a session that has its `plain` line and no other event line ends in
-- Success at both ends under the same keys, unless a record of it tells why not (RFC 4187 §3, RFC 9048 §3).
use Rattle.std.specs.Prelude.{◌≡◌, ◌≢◌, ℕ, ◌==◌, Bool, true, false, if◌then◌else◌, List, [], ◌∷◌, ◌++◌, filter, map, All, Contains, Option, Some, None, slice_get}
use Rattle.std.specs.Option.{option_or}
use Rattle.auc_memory.specs.declared.stop.Stop.{Stop}
use Rattle.auc_lines.specs.Part.{IsShortIdentity, is_that}
use Rattle.auc_lines.specs.declared.part.Line.{Line}
use Rattle.auc_lines.specs.declared.part.Line.TheVariants as line
use Rattle.auc_lines.specs.declared.part.Part.{Part}
use Rattle.auc_lines.specs.declared.part.Part.TheVariants.{Round, Restart}
use Rattle.auc_lines.specs.declared.part.SessionLine.{SessionLine}
use Rattle.auc_reauth.specs.Device.{Keeps}
use Rattle.auc_reauth.specs.declared.context.Context.{Context}
use Rattle.auc_subs.specs.Subscriber.{AreSubscribers}
use Rattle.auc_subs.specs.declared.row.Row.{Row}
use Rattle.auc_server.specs.declared.server.Resumed.{Resumed}
use Rattle.auc_world.specs.Agreement.{IsRealm}
use Rattle.auc_world.specs.Came.{session_of}
use Rattle.auc_world.specs.Given.{Before, JobGives}
use Rattle.auc_record.specs.Lines.{all_lines}
use Rattle.auc_world.specs.Net.{Net}
use Rattle.auc_world.specs.Plain.{EndsSuit, HasResumed, HasSameContext, Succeeds, TellNoCause}
use Rattle.auc_subs.specs.Setting.{Setting}
use Rattle.auc_world.specs.Start.{Kept, fresh_kept, kept_by_jobs, start_of}
use Rattle.auc_world.specs.Transcript.{IsLawful}
use Rattle.auc_world.specs.World.{IsName}
use Rattle.auc_record.specs.declared.event.Event.{Event as Happens}
use Rattle.auc_record.specs.declared.event.Event.TheVariants as event
use Rattle.auc_world.specs.declared.net.Session.{Session}
use Rattle.auc_record.specs.declared.record.LineRecord.{LineRecord}
use Rattle.auc_record.specs.declared.record.LineRecord.TheVariants.{Number, Sync, Give, Further, Event}
use Rattle.auc_record.specs.declared.record.PartRecord.{PartRecord}
use Rattle.auc_record.specs.declared.record.PartRecord.TheVariants as record_of
use Rattle.auc_record.specs.declared.record.SessionVerdict.{SessionVerdict}
use Rattle.auc_transcript.specs.Keys.{AreNets}

-- ---- the lines of a session

-- the session of an event line; a line that opens a session is none
abbrev pub session_named : Line → Option ℕ
session_named (line.Draw sub count) = None
session_named (line.Sync sub report count) = None
session_named (line.Give sub n) = None
session_named (line.Eps sub snid) = None
session_named (line.Fiveg authentication) = None
session_named (line.Sites sites) = None
session_named (line.Sim sim) = None
session_named (line.Session opening) = None
session_named (line.Start session) = Some session
session_named (line.Deliver session end packet) = Some session
session_named (line.Repeat session) = Some session
session_named (line.GiveUp session end) = Some session
session_named (line.Plain session) = Some session
session_named (line.Tamper packet place byte) = None
session_named (line.Cut packet count) = None

-- what a line says if it opens a session under this number
abbrev pub opening_by : ℕ → Line → Option SessionLine
opening_by session (line.Draw sub count) = None
opening_by session (line.Sync sub report count) = None
opening_by session (line.Give sub n) = None
opening_by session (line.Eps sub snid) = None
opening_by session (line.Fiveg authentication) = None
opening_by session (line.Sites sites) = None
opening_by session (line.Sim sim) = None
opening_by session (line.Session opening) = if opening.session == session then Some opening else None
opening_by session (line.Start started) = None
opening_by session (line.Deliver delivered end packet) = None
opening_by session (line.Repeat repeated) = None
opening_by session (line.GiveUp ended end) = None
opening_by session (line.Plain plain) = None
opening_by session (line.Tamper packet place byte) = None
opening_by session (line.Cut packet count) = None

-- what the first of some lines says that does so: a later one opens nothing
abbrev pub opening_in : ℕ → List Line → Option SessionLine
opening_in session [] = None
opening_in session (l ∷ lines) = option_or (opening_by session l) (opening_in session lines)

-- a line opens a session for a subscriber that there is, and with ends that may succeed
pub record IsSuited (rows : List Row) (opening : SessionLine) : Type 0 where
  pub row : Row
  pub known : slice_get rows opening.sub ≡ Some row
  pub suits : EndsSuit row opening

-- a plain line between some lines of its job is its session's only event line: a line before it opens the session, suited,
-- and no other event line is of the session
pub record IsOnlyEvent (rows : List Row) (front : List Line) (session : ℕ) (back : List Line) : Type 0 where
  pub opening : SessionLine
  pub opened : opening_in session front ≡ Some opening
  pub suited : IsSuited rows opening
  -- no other event line is of the session
  pub first : All (λ l. session_named l ≢ Some session) front
  pub last : All (λ l. session_named l ≢ Some session) back

-- a plain line between some lines of its job is its session's only event line, and a line before it opens the session for a
-- subscriber that there is, with a network's name and a first identity that aren't too long; whatever its other options are
pub record IsAlone (rows : List Row) (front : List Line) (session : ℕ) (back : List Line) : Type 0 where
  pub opening : SessionLine
  pub opened : opening_in session front ≡ Some opening
  pub row : Row
  pub known : slice_get rows opening.sub ≡ Some row
  pub name : IsName opening.name
  pub identity : IsShortIdentity opening.identity
  -- and it is the session's only event line
  pub first : All (λ l. session_named l ≢ Some session) front
  pub last : All (λ l. session_named l ≢ Some session) back

-- the device of an open session has a context, with the same counter
pub record HasContext (net : Net) (session : ℕ) (c : Context) : Type 0 where
  pub own : Session
  pub is : session_of net session ≡ Some own
  pub keeps : Keeps
  pub stored : slice_get net.stores own.device ≡ Some keeps
  pub same : HasSameContext own.options.method keeps c

-- ---- the records of a session

-- the session in which an event happens; a packet is changed in none
abbrev pub session_in : Happens → Option ℕ
session_in (event.Open opening) = Some opening.session
session_in (event.Start session) = Some session
session_in (event.Deliver session end packet) = Some session
session_in (event.Repeat session) = Some session
session_in (event.GiveUp session end) = Some session
session_in (event.Tamper packet place byte) = None
session_in (event.Cut packet count) = None

-- whether a record is that of an event in a session
abbrev pub is_of_session : ℕ → LineRecord → Bool
is_of_session session (Number sub note) = false
is_of_session session (Sync sub answer) = false
is_of_session session (Give sub n answer) = false
is_of_session session (Further said) = false
is_of_session session (Event r) = is_that session (session_in r.event)

abbrev pub records_of : ℕ → List LineRecord → List LineRecord
records_of session records = filter (is_of_session session) records

-- ---- jobs, rounds

-- each plain session of a job succeeds in the job's last network, and its round has the verdict that its ends agree, if the
-- session's records tell no cause of a failure. It is a cause if the centre was asked for another subscriber than that of the
-- line that opened the session; one synchronisation failure is none
abbrev pub PlainSessionsSucceed : List Row → List SessionVerdict → List Line → List LineRecord → Net → Type 0
PlainSessionsSucceed rows verdicts job records net = (front back : List Line) (session : ℕ) → job ≡ front ++ line.Plain session ∷ back
    → (only : IsOnlyEvent rows front session back) → TellNoCause only.opening.sub 1 (records_of session records)
    → Succeeds net session × Contains verdicts (record { session = session; agree = true })

-- a plain session whose server takes up a context again succeeds too, if its device has that context when the line begins, with
-- the same counter
abbrev pub ResumedSessionsSucceed : Setting → List SessionVerdict → Before → Net → List Line → List LineRecord → Net → Type 0
ResumedSessionsSucceed set verdicts before start job records net =
    (front back : List Line) (session : ℕ) (early late : List LineRecord) (mid : Net) (r : Resumed)
    → job ≡ front ++ line.Plain session ∷ back → records ≡ early ++ late → JobGives set before start front early mid
    → IsAlone set.rows front session back → HasResumed net session r → HasContext mid session r.context
    → Succeeds net session × Contains verdicts (record { session = session; agree = true })

-- those of the jobs of a round, by the lines of earlier rounds and of earlier jobs
abbrev pub EachJobResumes : Setting → List SessionVerdict → List LineRecord → List Kept → List LineRecord → List (List Line) → List (List LineRecord) → List Net → Type 0
EachJobResumes set verdicts early kept beside [] [] [] = Unit {0}
EachJobResumes set verdicts early kept beside (job ∷ jobs) (lines ∷ records) (net ∷ nets) =
    ResumedSessionsSucceed set verdicts (record { early = early; beside = beside; own = [] }) (start_of set kept job) job lines net
    × EachJobResumes set verdicts early kept (beside ++ lines) jobs records nets
EachJobResumes set verdicts early kept beside jobs records nets = ⊥

-- those of the rounds of a transcript, after the lines of earlier rounds and with what these left at homes and on devices
abbrev pub ResumedSessionsAgreeAfter : Setting → List LineRecord → List Kept → List Part → List PartRecord → List (List Net) → Type 0
ResumedSessionsAgreeAfter set early kept [] records nets = Unit {0}
ResumedSessionsAgreeAfter set early kept (Round jobs ∷ parts) (record_of.Round round ∷ records) (first ∷ nets) =
    EachJobResumes set round.sessions early kept [] jobs round.jobs first
    × ResumedSessionsAgreeAfter set (early ++ all_lines round.jobs) (kept_by_jobs kept first) parts records nets
ResumedSessionsAgreeAfter set early kept (Restart ∷ parts) (record_of.Restart ∷ records) nets = ResumedSessionsAgreeAfter set early kept parts records nets
ResumedSessionsAgreeAfter set early kept (part ∷ parts) records nets = ⊥

abbrev pub ResumedSessionsAgree : Setting → List Part → List PartRecord → List (List Net) → Type 0
ResumedSessionsAgree set parts records nets = ResumedSessionsAgreeAfter set [] (map (λ row. fresh_kept) set.rows) parts records nets

-- those of each job of a round, with the job's records and its last network
abbrev pub EachJobSucceeds : List Row → List SessionVerdict → List (List Line) → List (List LineRecord) → List Net → Type 0
EachJobSucceeds rows verdicts [] [] [] = Unit {0}
EachJobSucceeds rows verdicts (job ∷ jobs) (lines ∷ records) (net ∷ nets) =
    PlainSessionsSucceed rows verdicts job lines net × EachJobSucceeds rows verdicts jobs records nets
EachJobSucceeds rows verdicts jobs records nets = ⊥

-- those of each round of a transcript, with the networks to which the round's jobs lead
abbrev pub PlainSessionsAgree : List Row → List Part → List PartRecord → List (List Net) → Type 0
PlainSessionsAgree rows [] records nets = Unit {0}
PlainSessionsAgree rows (Round jobs ∷ parts) (record_of.Round round ∷ records) (first ∷ nets) =
    EachJobSucceeds rows round.sessions jobs round.jobs first × PlainSessionsAgree rows parts records nets
PlainSessionsAgree rows (Restart ∷ parts) (record_of.Restart ∷ records) nets = PlainSessionsAgree rows parts records nets
PlainSessionsAgree rows (part ∷ parts) records nets = ⊥

-- ---- the law

abbrev pub EachPlainSessionAgrees : Type 0
EachPlainSessionAgrees =
    (set : Setting) (reserved : List ℕ) (stop : Option Stop) (parts : List Part) (records : List PartRecord) (nets : List (List Net))
    → AreSubscribers set.rows → IsRealm set.realm → IsLawful set reserved stop parts records → AreNets set parts records nets
    → PlainSessionsAgree set.rows parts records nets

abbrev pub EachResumedSessionAgrees : Type 0
EachResumedSessionAgrees =
    (set : Setting) (reserved : List ℕ) (stop : Option Stop) (parts : List Part) (records : List PartRecord) (nets : List (List Net))
    → AreSubscribers set.rows → IsRealm set.realm → IsLawful set reserved stop parts records → AreNets set parts records nets
    → ResumedSessionsAgree set parts records nets
