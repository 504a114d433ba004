-- Sessions of EAP-SIM (RFC 4186). Whatever is lost, repeated or reordered, two ends of a session that both end in Success have equal
-- keys. If each packet is delivered once to the other end, and the RANDs of the session's vectors differ, then both ends end in
-- Success.
use Rattle.std.specs.Prelude.{◌≡◌, ◌≢◌, ℕ, false, List, [], ◌∷◌, ◌++◌, length, map, All, AllPairs}
use Rattle.auc_lines.specs.Sim.{IsSimValue, SimValue}
use Rattle.auc_lines.specs.declared.part.Line.{Line}
use Rattle.auc_lines.specs.declared.part.Line.TheVariants as line
use Rattle.auc_lines.specs.declared.part.Part.{Part}
use Rattle.auc_lines.specs.declared.part.Part.TheVariants.{Round, Restart}
use Rattle.auc_lines.specs.declared.sim.SimSchedule.TheVariants.{Plain}
use Rattle.auc_random.specs.Random.{rand_of}
use Rattle.auc_sim.specs.SessionLaws.{Succeeds}
use Rattle.auc_vector.specs.declared.sim_note.SimNote.{SimNote}
use Rattle.auc_vector.specs.declared.sim_note.SimNote.TheVariants as noted
use Rattle.auc_subs.specs.Subscriber.{AreSubscribers}
use Rattle.auc_world.specs.Agreement.{IsRealm}
use Rattle.auc_record.specs.Draws.{DrawGives}
use Rattle.auc_world.specs.Given.{Before}
use Rattle.auc_record.specs.Lines.{all_lines, numbers_of}
use Rattle.auc_world.specs.Net.{Net}
use Rattle.auc_subs.specs.Setting.{Setting}
use Rattle.auc_world.specs.Start.{Kept, fresh_kept, kept_by_jobs, start_of}
use Rattle.auc_record.specs.declared.further.Further.TheVariants as further
use Rattle.auc_record.specs.declared.record.LineRecord.{LineRecord}
use Rattle.auc_record.specs.declared.record.LineRecord.TheVariants.{Further}
use Rattle.auc_record.specs.declared.record.PartRecord.{PartRecord}
use Rattle.auc_record.specs.declared.record.PartRecord.TheVariants as record_of
use Rattle.auc_transcript.specs.Keys.{AreNets}
use Rattle.auc_transcript.specs.Systems.{Gave}

-- ---- one session

-- the session of a line, whose vectors have these numbers
pub record HasSession (set : Setting) (l : SimValue) (numbers : List ℕ) (lines : List LineRecord) : Type 0 where
  -- what is said of it
  pub notes : List SimNote
  pub lines_are : lines ≡ map (λ note. Further (further.Sim l.sub note)) notes
  -- by whichever schedule, the ends don't end in Success with different keys
  pub agree : All (λ note. note ≢ noted.Ended false) notes
  -- by the plain one both end in Success, with equal keys, if the RANDs of the vectors differ
  pub complete : l.schedule ≡ Plain → AllPairs ◌≢◌ (map (rand_of set.key l.sub) numbers) → Succeeds notes

-- what a line gives: vectors, and a session if they are as many as it asks for
pub record SimLineHolds (set : Setting) (l : SimValue) (lines : List LineRecord) : Type 0 where
  pub drawn : List LineRecord
  pub rest : List LineRecord
  pub lines_are : lines ≡ drawn ++ rest
  pub draws : DrawGives set l.sub l.count drawn
  pub fewer : length (numbers_of l.sub drawn) ≢ l.count → rest ≡ []
  pub all : length (numbers_of l.sub drawn) ≡ l.count → HasSession set l (numbers_of l.sub drawn) rest

-- ---- those of a job, of a round, of a transcript

-- so does each such line of a job, within the limits of such lines
abbrev pub JobSimsHold : Setting → Before → Net → List Line → List LineRecord → Net → Type 0
JobSimsHold set before start job records last = (front back : List Line) (l : SimValue) → job ≡ front ++ line.Sim l ∷ back → IsSimValue l
    → Gave set before start front back (λ own. SimLineHolds set l own) records last

-- those of the jobs of a round, by the lines of earlier rounds and of earlier jobs
abbrev pub JobsSimsHold : Setting → List LineRecord → List Kept → List LineRecord → List (List Line) → List (List LineRecord) → List Net → Type 0
JobsSimsHold set early kept beside [] [] [] = Unit {0}
JobsSimsHold set early kept beside (job ∷ jobs) (lines ∷ records) (net ∷ nets) =
    JobSimsHold set (record { early = early; beside = beside; own = [] }) (start_of set kept job) job lines net
    × JobsSimsHold set early kept (beside ++ lines) jobs records nets
JobsSimsHold set early kept beside jobs records nets = ⊥

-- those of the rounds of a transcript, after the lines of earlier rounds and with what these left at homes and on devices
abbrev pub SimSessionsAgreeAfter : Setting → List LineRecord → List Kept → List Part → List PartRecord → List (List Net) → Type 0
SimSessionsAgreeAfter set early kept [] records nets = Unit {0}
SimSessionsAgreeAfter set early kept (Round jobs ∷ parts) (record_of.Round round ∷ records) (first ∷ nets) =
    JobsSimsHold set early kept [] jobs round.jobs first
    × SimSessionsAgreeAfter set (early ++ all_lines round.jobs) (kept_by_jobs kept first) parts records nets
SimSessionsAgreeAfter set early kept (Restart ∷ parts) (record_of.Restart ∷ records) nets = SimSessionsAgreeAfter set early kept parts records nets
SimSessionsAgreeAfter set early kept (part ∷ parts) records nets = ⊥

-- those of a whole transcript, with the networks to which its jobs lead
abbrev pub SimSessionsAgree : Setting → List Part → List PartRecord → List (List Net) → Type 0
SimSessionsAgree set parts records nets = SimSessionsAgreeAfter set [] (map (λ row. fresh_kept) set.rows) parts records nets

-- ---- the law

-- a lawful transcript leads to such networks (`Keys`)
abbrev pub EachSimSessionAgrees : Type 0
EachSimSessionAgrees = (set : Setting) (parts : List Part) (records : List PartRecord) (nets : List (List Net)) → AreSubscribers set.rows → IsRealm set.realm
    → AreNets set parts records nets → SimSessionsAgree set parts records nets
