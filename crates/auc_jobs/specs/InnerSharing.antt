-- Inner facts: what only private contracts of this crate cite. Here: what the workers of a round share, and a job that one
-- of them serves.
use Rattle.std.specs.Prelude.{◌≡◌, ℕ, Bool, List, [], length, Option, Some, slice_get, if◌then◌else◌}
use Rattle.atomic_table.specs.Seated.{TableId}
use Rattle.auc_draw.specs.Values.{BookValue}
use Rattle.auc_memory.specs.declared.stop.Stop.{Stop}
use Rattle.auc_history.specs.declared.entry.Entry.{Entry}
use Rattle.auc_lines.specs.declared.part.Line.{Line}
use Rattle.auc_subs.specs.Subscriber.{tops_of}
use Rattle.auc_subs.specs.declared.row.Row.{Row}
use Rattle.auc_record.specs.declared.record.LineRecord.{LineRecord}
use Rattle.auc_subs.specs.Setting.{Setting}
use Rattle.auc_record.specs.Vectors.{vectors_in}
use Rattle.auc_jobs.specs.declared.jobs.ServedJob.{ServedJob}
use Rattle.auc_jobs.specs.InnerRound.{JobBegins, ServesJob}
use Rattle.auc_jobs.specs.Round.{IsRound}
use Rattle.auc_jobs.specs.State.{Standing, StandsAt}

-- what the workers of a round share beside its book: the setting, the round's jobs, whether the vectors are printed, how many
-- workers there are, and the state after the earlier rounds
pub record Shared : Type 0 where
  pub set : Setting
  pub jobs : List (List Line)
  pub full : Bool
  pub workers : ℕ
  pub state : Standing

-- the state is the one after the lines of the earlier rounds
abbrev pub IsAfter : Shared → List LineRecord → Type 0
IsAfter shared early = StandsAt shared.set early shared.state

-- the round can be served from the state
pub record IsServable (shared : Shared) : Type 0 where
  pub round : IsRound shared.set shared.jobs shared.workers
  pub begins : (early : List LineRecord) × IsAfter shared early

-- a book of the rows' subscribers, with their greatest numbers, for as many of which the round's journal is
pub record IsBookOf (id : TableId) (greatest : List ℕ) (subs : ℕ) (rows : List Row) (book : BookValue) : Type 0 where
  pub own : (book.id ≡ id) × (book.tops ≡ greatest)
  pub tops : book.tops ≡ tops_of rows
  pub size : length book.openings ≡ length rows
  pub sized : subs ≡ length book.openings

-- workers share a round that can be served, and a book for it
pub record IsShared (id : TableId) (greatest : List ℕ) (subs : ℕ) (shared : Shared) (book : BookValue) : Type 0 where
  pub servable : IsServable shared
  pub opened : IsBookOf id greatest subs shared.set.rows book

-- what stands before a worker serves the job of a place, after earlier rounds and its own earlier lines
pub record BeginsAt (shared : Shared) (early beside : List LineRecord) (kept : ℕ → Option ℕ) (job : ℕ) : Type 0 where
  pub begins : (asked : List Line) → slice_get shared.jobs job ≡ Some asked → JobBegins shared.set.rows early beside kept shared.state.released shared.state.usims asked

-- what the job of a place gave, with the vectors that a full print wants
pub record ServesAt (goes : ℕ → List Entry → List (ℕ × Stop) → Type 0) (old kept : ℕ → Option ℕ) (shared : Shared) (job : ℕ) (served : ServedJob) : Type 0 where
  pub asked : List Line
  pub there : slice_get shared.jobs job ≡ Some asked
  pub serves : (early beside : List LineRecord) → JobBegins shared.set.rows early beside old shared.state.released shared.state.usims asked
      → ServesJob goes shared.set early beside kept shared.state.kept asked served.lines served.devices served.sessions
  pub vectors : served.vectors ≡ (if shared.full then vectors_in shared.set served.lines else [])
