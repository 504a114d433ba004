-- What holds of every scenario that is read: its limits, that its lines speak of subscribers that there
-- are and of sessions that their jobs opened, that no two sessions have one number, and that no two jobs of a round hold
-- one USIM.
use Rattle.std.specs.Prelude.{◌≡◌, ◌≢◌, ℕ, ◌*◌, ◌≤◌, true, List, length, take, slice_get, Option, Some, None, All, AllPairs}
use Rattle.auc_subs.specs.declared.row.Row.{Row}
use Rattle.auc_subs.specs.Subscriber.{AreSubscribers}
use Rattle.auc_lines.specs.declared.part.Line.{Line}
use Rattle.auc_lines.specs.declared.part.Part.{Part}
use Rattle.auc_lines.specs.declared.part.Part.TheVariants.{Round, Restart}
use Rattle.auc_lines.specs.Part.{AreApart, asked, jobs_of}
use Rattle.auc_reading.specs.Ranges.{IsLine}
use Rattle.auc_script.specs.declared.script.Script.{Script}
use Rattle.auc_script.specs.Scenario.{rounds_of}
use Rattle.auc_script.specs.Session.{is_among, named_by, opened, packets, sessions_of}
use Rattle.auc_script.specs.Numbers.{longest_realm, most_jobs, most_packets, most_rounds, most_sessions, most_vectors, most_workers}

-- a session, if there is one, is among those that were opened
abbrev pub IsOpened : List ℕ → Option ℕ → Type 0
IsOpened opened None = Unit {0}
IsOpened opened (Some session) = is_among session opened ≡ true

-- each line of a job that is of a session and doesn't open it comes after the line that does
abbrev pub SessionsAreOpened : List Line → Type 0
SessionsAreOpened job = (i : ℕ) (line : Line) → slice_get job i ≡ Some line → IsOpened (opened (take i job)) (named_by line)

-- the jobs of a round: of such lines, of sessions that they opened, with not too many packets, and no two hold one USIM
pub record AreJobs (rows : List Row) (jobs : List (List Line)) : Type 0 where
  pub lines : All (λ job. All (IsLine rows) job) jobs
  pub opened : All SessionsAreOpened jobs
  pub packets : All (λ job. packets job ≤ most_packets) jobs
  pub apart : AllPairs AreApart jobs

-- a round of such jobs, or a restart
abbrev pub IsPart : List Row → Part → Type 0
IsPart rows (Round jobs) = AreJobs rows jobs
IsPart rows Restart = Unit {0}

-- parts of which not too many are rounds and no more are restarts, which have not too many jobs, ask for not too many
-- vectors, and open not too many sessions, each under a number of its own
pub record AreWithin (rows : List Row) (parts : List Part) : Type 0 where
  pub each : All (IsPart rows) parts
  pub rounds : rounds_of parts ≤ most_rounds
  pub restarts : length parts ≤ 2 * rounds_of parts
  pub jobs : length (jobs_of parts) ≤ most_jobs
  pub vectors : asked (jobs_of parts) ≤ most_vectors
  pub sessions : length (sessions_of (jobs_of parts)) ≤ most_sessions
  pub numbers : AllPairs ◌≢◌ (sessions_of (jobs_of parts))

-- the jobs of a block's round
pub record IsBlock (rows : List Row) (jobs : List (List Line)) : Type 0 where
  pub are_jobs : AreJobs rows jobs
  pub few : length jobs ≤ most_jobs
  pub vectors : asked jobs ≤ most_vectors

-- what subscribers and a script that were read are
pub record IsWithin (rows : List Row) (script : Script) : Type 0 where
  pub subscribers : AreSubscribers rows
  pub parts : AreWithin rows script.parts
  pub one_worker : 1 ≤ script.workers
  pub workers : script.workers ≤ most_workers
  pub realm : length script.realm ≤ longest_realm
