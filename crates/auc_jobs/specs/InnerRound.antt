-- Inner facts: what only private contracts of this crate cite. Here: the jobs of a round, each served after its worker's
-- earlier lines and with its own devices, and what their pieces come to.
use Rattle.std.specs.Prelude.{◌≡◌, ℕ, ◌≤◌, ◌<◌, false, List, [], ◌∷◌, ◌++◌, All, Contains, fold, length, map, Option, Some, slice_get, slice_index}
use Rattle.auc_cards.specs.Stores.{put_own}
use Rattle.auc_memory.specs.declared.stop.Stop.{Stop}
use Rattle.auc_memory.specs.declared.stop.Stop.TheVariants.{Full}
use Rattle.auc_history.specs.declared.entry.Entry.{Entry}
use Rattle.auc_history.specs.Split.{Splits}
use Rattle.auc_lines.specs.declared.part.Line.{Line}
use Rattle.auc_lines.specs.Part.{holds}
use Rattle.auc_reauth.specs.Device.{Keeps}
use Rattle.auc_server.specs.declared.setting.HomeRow.{HomeRow}
use Rattle.auc_subs.specs.Subscriber.{top_at}
use Rattle.auc_subs.specs.declared.row.Row.{Row}
use Rattle.auc_usim.specs.Usim.{Memory}
use Rattle.auc_record.specs.declared.record.LineRecord.{LineRecord}
use Rattle.auc_record.specs.Entries.{entries_of_lines}
use Rattle.auc_world.specs.Given.{JobGives}
use Rattle.auc_world.specs.Limits.{Raises}
use Rattle.auc_record.specs.Lines.{accepted, held_of, withheld_of, all_lines}
use Rattle.auc_world.specs.Pieces.{Piece, lines_of_pieces, entries_of_pieces, ReportsAreEarlier, IsQuiet, PiecesGive}
use Rattle.auc_world.specs.Net.{Net}
use Rattle.auc_world.specs.Round.{IsLawfulRound, Withholds}
use Rattle.auc_world.specs.Sessions.{job_sessions}
use Rattle.auc_world.specs.Start.{Kept, kept_by_jobs, start_of}
use Rattle.auc_record.specs.declared.record.JobSessions.{JobSessions}
use Rattle.auc_record.specs.declared.record.RoundRecord.{RoundRecord}
use Rattle.auc_subs.specs.Setting.{Setting}
use Rattle.auc_record.specs.Openings.{reopened}
use Rattle.auc_record.specs.Released.{Released, AreReleased}
use Rattle.auc_jobs.specs.Numbers.{AreNumbers}
use Rattle.auc_jobs.specs.State.{Standing, StandsAt}
use Rattle.auc_jobs.specs.Usims.{HaveSecrets, AreBehind}
use Rattle.auc_jobs.specs.InnerServing.{before_at, AreTold}
use Rattle.auc_jobs.specs.InnerUsims.{OwnDevices, usim_in, has_usim, ArePutBack}

-- ---- a job

-- what stands before a job: its worker's earlier lines report the words that the centre keeps, the released numbers are
-- those of the earlier rounds, none above its subscriber's greatest one, the subscribers' USIMs are those after the earlier
-- rounds, and by the worker's earlier lines no USIM that the job holds has accepted a number
pub record JobBegins (rows : List Row) (early beside : List LineRecord) (kept : ℕ → Option ℕ) (released : Released) (usims : List Memory) (job : List Line) : Type 0 where
  pub told : AreTold kept beside
  pub earlier : AreReleased released early
  pub numbers : AreNumbers rows early
  pub pasts : AreBehind rows early (slice_get usims)
  pub quiet : IsQuiet beside job

-- a job's own USIMs after its lines. They have forgotten who served the job
pub record IsSettled (rows : List Row) (early : List LineRecord) (job : List Line) (lines : List LineRecord) (own : ℕ → Option Memory) : Type 0 where
  pub keyed : (sub : ℕ) → has_usim own sub ≡ holds sub job
  pub secrets : HaveSecrets rows own
  pub behind : AreBehind rows (early ++ lines) own
  pub quiet : (bits sub : ℕ) → holds sub job ≡ false → accepted bits sub lines ≡ []

-- what homes and devices keep after a job, by its own devices and by its network
abbrev pub left_on : OwnDevices → List HomeRow × List Keeps
left_on own = (own.homes, map (λ device. device.store) own.devices)

abbrev pub left_in : Net → List HomeRow × List Keeps
left_in net = (net.homes, net.stores)

-- what a job gave, after earlier rounds and its worker's earlier lines: its lines, its own devices after them, and what its
-- sessions came to
pub record ServesJob (goes : ℕ → List Entry → List (ℕ × Stop) → Type 0) (set : Setting) (early beside : List LineRecord) (kept : ℕ → Option ℕ) (stores : List Kept)
    (job : List Line) (lines : List LineRecord) (own : OwnDevices) (sessions : JobSessions) : Type 0 where
  pub net : Net
  pub given : JobGives set (before_at early beside []) (start_of set stores job) job lines net
  pub ends : sessions ≡ job_sessions net
  pub left : left_on own ≡ left_in net
  pub made : (sub : ℕ) → goes sub (entries_of_lines sub beside lines) (held_of sub lines)
  pub told : AreTold kept (beside ++ lines)
  pub settled : IsSettled set.rows early job lines (usim_in own)

-- ---- the jobs of a round

-- the USIMs of each job
abbrev pub AreSettled : List Row → List LineRecord → List (List Line) → List (List LineRecord) → List OwnDevices → Type 0
AreSettled rows early [] records usims = (records ≡ []) × (usims ≡ [])
AreSettled rows early (job ∷ jobs) [] usims = ⊥
AreSettled rows early (job ∷ jobs) (lines ∷ records) [] = ⊥
AreSettled rows early (job ∷ jobs) (lines ∷ records) (own ∷ usims) = IsSettled rows early job lines (usim_in own) × AreSettled rows early jobs records usims

-- ---- the pieces of a round

-- the records of a round's jobs are pieces, each of some worker. They lead each subscriber from its opening to its word
pub record ArePieces (set : Setting) (early : List LineRecord) (stores : List Kept) (openings : List ℕ) (jobs : List (List Line)) (records : List (List LineRecord)) (own : List OwnDevices) (sessions : List JobSessions) (words : List ℕ) : Type 0 where
  pub pieces : List Piece
  -- the networks of the jobs' sessions after the last lines
  pub nets : List Net
  pub lines : records ≡ lines_of_pieces pieces
  pub give : PiecesGive set early stores jobs pieces nets
  pub ends : sessions ≡ map job_sessions nets
  pub left : map left_on own ≡ map left_in nets
  pub reports : (sub : ℕ) → ReportsAreEarlier sub [] pieces
  pub split : (sub : ℕ) → sub < length openings → Splits (top_at set.rows sub) (slice_index openings sub) (slice_index words sub) (entries_of_pieces sub pieces)

-- a round's pieces, its jobs' devices, and what their sessions came to, after the words at which it opens
pub record AreServed (set : Setting) (early : List LineRecord) (stores : List Kept) (openings : List ℕ) (jobs : List (List Line)) (records : List (List LineRecord)) (own : List OwnDevices) (sessions : List JobSessions) (words : List ℕ) : Type 0 where
  pub pieces : ArePieces set early stores openings jobs records own sessions words
  pub settled : AreSettled set.rows early jobs records own
  pub size : length words ≡ length openings
  pub numbers : AreNumbers set.rows (all_lines records)

-- some lines withhold a number of one of so many subscribers, because the journal is full
abbrev pub HoldsFull : ℕ → List LineRecord → Type 0
HoldsFull count lines = (sub : ℕ) × (sub < count) × (number : ℕ) × Contains (held_of sub lines) (number, Full)

-- what a round releases and withholds goes by the limits: those before it, and those after it with the stop
pub record GoesByLimits (set : Setting) (stop : Option Stop) (records : List (List LineRecord)) (limits words next : List ℕ) : Type 0 where
  pub raises : Raises set.rows (all_lines records) limits words next
  pub withholds : Withholds stop (all_lines records)
  -- each withheld number is above its subscriber's limit
  pub above : (sub : ℕ) → sub < length set.rows → All (λ n. slice_index next sub < n) (withheld_of sub (all_lines records))
  -- and if the journal is full, there is one
  pub full : stop ≡ Some Full → HoldsFull (length set.rows) (all_lines records)

-- the state after a round: where the round's words lead, with the jobs' USIMs and what their homes and devices keep put back,
-- and the released numbers noted
pub record IsAdvanced (rows : List Row) (old : Standing) (records : List (List LineRecord)) (own : List OwnDevices) (words : List ℕ) (new : Standing) : Type 0 where
  pub opened : new.words ≡ reopened rows words
  pub within : (sub : ℕ) → sub < length rows → slice_index new.words sub ≤ top_at rows sub
  pub put : ArePutBack old.usims own new.usims
  pub keeps : new.kept ≡ fold put_own old.kept own
  pub noted : (before : List LineRecord) → AreReleased old.released before → AreReleased new.released (before ++ all_lines records)

-- a round leads from a state to the next one: it is lawful, the next round opens where its words lead, homes and devices keep
-- what the networks of its jobs leave, and the next state is the one after its lines
pub record LeadsOn (set : Setting) (stop : Option Stop) (early : List LineRecord) (state : Standing) (jobs : List (List Line)) (round : RoundRecord) (words : List ℕ) (next : Standing) : Type 0 where
  pub lawful : IsLawfulRound set stop early state.kept state.words jobs round words
  pub opens : next.words ≡ reopened set.rows words
  pub keeps : next.kept ≡ kept_by_jobs state.kept lawful.nets
  pub stands : StandsAt set (early ++ all_lines round.jobs) next
