-- Inner facts: what only private contracts of this crate cite. Here: the jobs that a worker claims and serves, and those of
-- all workers of a round.
use Rattle.std.specs.Prelude.{◌≡◌, ◌⊎◌, ℕ, ◌+◌, ◌<◌, ◌≤◌, Bool, true, false, List, [], ◌∷◌, ◌++◌, length, map, flat_map, All, AllPairs, Any, Contains, Option, Some, None, slice_get, slice_index, if◌then◌else◌}
use Rattle.atomic_table.specs.Seated.{TableId}
use Rattle.auc_centre.specs.Adds.{kept_by}
use Rattle.auc_draw.specs.Book.{IsOf}
use Rattle.auc_draw.specs.Deeds.{entries_of, claims_of, released_of, held_of as pass_held}
use Rattle.auc_draw.specs.Values.{BookValue, KeeperValue, PassValue}
use Rattle.auc_memory.specs.declared.stop.Stop.{Stop}
use Rattle.auc_history.specs.declared.entry.Entry.{Entry}
use Rattle.auc_history.specs.History.{IsInOrder}
use Rattle.auc_lines.specs.declared.part.Line.{Line}
use Rattle.auc_sqn.specs.Number.{max_seq}
use Rattle.auc_subs.specs.Subscriber.{tops_of}
use Rattle.auc_record.specs.declared.record.LineRecord.{LineRecord}
use Rattle.auc_record.specs.Entries.{entries_of_lines}
use Rattle.auc_world.specs.Given.{JobGives}
use Rattle.auc_record.specs.Lines.{numbers_of, held_of}
use Rattle.auc_world.specs.Net.{Net}
use Rattle.auc_world.specs.Sessions.{job_sessions}
use Rattle.auc_world.specs.Start.{start_of}
use Rattle.auc_record.specs.Vectors.{vectors_in}
use Rattle.auc_jobs.specs.declared.claiming.ClaimedJob.{ClaimedJob}
use Rattle.auc_jobs.specs.declared.claiming.WorkerJobs.{WorkerJobs}
use Rattle.auc_jobs.specs.declared.jobs.ServedJob.{ServedJob}
use Rattle.auc_jobs.specs.declared.workers.RoundPieces.{RoundPieces}
use Rattle.auc_jobs.specs.InnerKeeping.{told_stop}
use Rattle.auc_jobs.specs.InnerRound.{AreServed, GoesByLimits, IsSettled, left_in, left_on}
use Rattle.auc_jobs.specs.InnerServing.{before_at, AreTold}
use Rattle.auc_jobs.specs.InnerSharing.{Shared, IsAfter}
use Rattle.auc_jobs.specs.InnerUsims.{usim_in}

-- ---- one worker

-- a job that was served, and the lines of its worker's earlier jobs
pub record ServedTurn : Type 0 where
  pub earlier : List LineRecord
  pub claimed : ClaimedJob

-- the jobs of a worker, each after the earlier ones
abbrev pub turns : List LineRecord → List ClaimedJob → List ServedTurn
turns earlier [] = []
turns earlier (c ∷ done) = (record { earlier = earlier; claimed = c }) ∷ turns (earlier ++ c.served.lines) done

-- the lines of all its jobs
abbrev pub lines_done : List ClaimedJob → List LineRecord
lines_done done = flat_map (λ c. c.served.lines) done

-- the entries of a subscriber that its calls for a job made
abbrev pub entries_of_turn : ℕ → ServedTurn → List Entry
entries_of_turn sub t = entries_of_lines sub t.earlier t.claimed.served.lines

-- a job's lines are what it gives after its worker's earlier ones, its sessions came to what its network tells, and its homes
-- and devices keep what its network has
pub record IsGiven (shared : Shared) (early : List LineRecord) (t : ServedTurn) : Type 0 where
  pub asked : List Line
  pub there : slice_get shared.jobs t.claimed.job ≡ Some asked
  pub net : Net
  pub given : JobGives shared.set (before_at early t.earlier []) (start_of shared.set shared.state.kept asked) asked t.claimed.served.lines net
  pub ends : t.claimed.served.sessions ≡ job_sessions net
  pub left : left_on t.claimed.served.devices ≡ left_in net

-- its USIMs after its lines have forgotten who served it
pub record IsSettledAt (shared : Shared) (early : List LineRecord) (c : ClaimedJob) : Type 0 where
  pub asked : List Line
  pub there : slice_get shared.jobs c.job ≡ Some asked
  pub settled : IsSettled shared.set.rows early asked c.served.lines (usim_in c.served.devices)

-- a full print has the vectors of its lines
abbrev pub IsPrinted : Shared → ServedJob → Type 0
IsPrinted shared served = served.vectors ≡ (if shared.full then vectors_in shared.set served.lines else [])

-- the claims are the jobs that were served, and the number that ended them
abbrev pub ClaimsAre : ℕ → Option ℕ → List ℕ → List ℕ → Type 0
ClaimsAre jobs None claims served = claims ≡ served
ClaimsAre jobs (Some n) claims served = (claims ≡ served ++ n ∷ []) × (jobs ≤ n)

-- a worker claimed and served these jobs, after earlier rounds
pub record HasServed (shared : Shared) (early : List LineRecord) (pass : PassValue) (done : List ClaimedJob) : Type 0 where
  pub claims : ClaimsAre (length shared.jobs) pass.ended (claims_of pass.deeds) (map (λ c. c.job) done)
  pub below : All (λ c. c.job < length shared.jobs) done
  pub rising : AllPairs (λ b c. b.job < c.job) done
  pub made : (sub : ℕ) → entries_of sub pass.deeds ≡ flat_map (entries_of_turn sub) (turns [] done)
  pub ordered : (sub : ℕ) → All (λ t. IsInOrder (entries_of_turn sub t)) (turns [] done)
  pub given : All (IsGiven shared early) (turns [] done)
  -- its pass released each number that the lines release, and withheld each one that they withhold, with their cause
  pub released : (sub : ℕ) → All (λ c. All (Contains (released_of sub pass.deeds)) (numbers_of sub c.served.lines)) done
  pub withheld : (sub : ℕ) → All (λ c. All (Contains (pass_held sub pass.deeds)) (held_of sub c.served.lines)) done
  pub settled : All (IsSettledAt shared early) done
  pub printed : All (λ c. IsPrinted shared c.served) done

-- a worker between two jobs
pub record IsBetween (shared : Shared) (early : List LineRecord) (pass : PassValue) (done : List ClaimedJob) : Type 0 where
  pub served : HasServed shared early pass done
  pub told : AreTold (kept_by pass) (lines_done done)
  pub earlier : IsAfter shared early

-- a claim took the last job, or a number behind it
abbrev pub IsLast : ℕ → List ℕ → Type 0
IsLast jobs claims = (jobs ≡ 0) ⊎ Any (λ n. jobs ≤ n + 1) claims

-- a worker claimed one more job and served it, or there was none
pub record TakesTurn (shared : Shared) (more : Bool) (old : PassValue) (done : List ClaimedJob) (new : PassValue) (now : List ClaimedJob) : Type 0 where
  pub stands : (early : List LineRecord) → IsBetween shared early old done → IsBetween shared early new now
  pub some : more ≡ true → (new.ended ≡ None) × (length now ≡ length done + 1)
  pub none : more ≡ false → IsLast (length shared.jobs) (claims_of new.deeds)

-- a worker found no further job
pub record HasFinished (shared : Shared) (pass : PassValue) (done : List ClaimedJob) : Type 0 where
  pub served : (early : List LineRecord) → IsAfter shared early → HasServed shared early pass done
  pub last : IsLast (length shared.jobs) (claims_of pass.deeds)

-- what a worker comes to: its pass is the book's, and it served all jobs that it claimed, if it had the memory
pub record IsDone (id : TableId) (tops : List ℕ) (shared : Shared) (d : WorkerJobs) : Type 0 where
  pub own : IsOf id tops d.pass
  pub whole : d.is_whole ≡ true → HasFinished shared d.pass d.jobs.items

-- ---- all workers

-- the passes and the jobs of all workers, each of which had the memory
pub record AreCollected (all : List WorkerJobs) (passes : List PassValue) (done : List ClaimedJob) : Type 0 where
  pub passed : passes ≡ map (λ d. d.pass) all
  pub served : done ≡ flat_map (λ d. d.jobs.items) all
  pub whole : All (λ d. d.is_whole ≡ true) all

-- the workers of a round have worked: there is one at least, each came to something, and the keeper's pass counts them all
pub record HaveWorked (shared : Shared) (book : BookValue) (all : List WorkerJobs) (keeper : KeeperValue) (stop : Option Stop) : Type 0 where
  pub sized : length book.openings ≡ length shared.set.rows
  pub tops : book.tops ≡ tops_of shared.set.rows
  pub some : 1 ≤ length all
  pub done : All (IsDone book.id book.tops shared) all
  pub own : (keeper.id ≡ book.id) × (keeper.passes ≡ length all)
  pub stopped : stop ≡ keeper.stop

-- what the closing of a round's book gives: pieces that go by the openings and the limits of the book, and by the keeper's pass
pub record ClosesAs (shared : Shared) (book : BookValue) (keeper : KeeperValue) (done : RoundPieces) : Type 0 where
  pub served : (early : List LineRecord) → IsAfter shared early
      → AreServed shared.set early shared.state.kept book.openings shared.jobs done.jobs.records done.jobs.devices done.jobs.sessions done.words
  pub limits : GoesByLimits shared.set done.stop done.jobs.records book.limits done.words keeper.limits
  pub looked : (i : ℕ) → i < length book.openings → slice_index keeper.seen i ≤ slice_index done.words i
  pub vectors : done.jobs.vectors ≡ (if shared.full then map (vectors_in shared.set) done.jobs.records else [])
  pub bound : All (λ word. word ≤ max_seq + 64) done.words
  pub stop : done.stop ≡ told_stop keeper.stop done.jobs.records
