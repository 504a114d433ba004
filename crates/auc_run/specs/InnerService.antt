-- Inner facts of a service: what only private contracts of this crate cite.
use Rattle.std.specs.Prelude.{◌≡◌, ℕ, ◌+◌, ◌⊎◌, ◌∷◌, ◌++◌, true, false, All, Bool, List, [], length, Option, None, Result, Ok, Err}
use Rattle.std.specs.List.{concat}
use Rattle.auc_block.specs.Block.{blocks_in}
use Rattle.auc_block.specs.Turns.{Turns}
use Rattle.auc_block.specs.declared.turn.Turn.{Turn}
use Rattle.auc_edge.specs.Shelf.{File}
use Rattle.auc_memory.specs.declared.stop.Stop.{Stop}
use Rattle.auc_jobs.specs.State.{Standing}
use Rattle.auc_journal.specs.Durable.{IsTold as TellsBytes}
use Rattle.auc_journal.specs.Image.{Keeps}
use Rattle.auc_journal.specs.Journal.{JournalState}
use Rattle.auc_journal.specs.Settled.{IsClosable, LeavesOnly}
use Rattle.auc_print.specs.OneText.{PartFits}
use Rattle.auc_script.specs.declared.script.Script.{Script}
use Rattle.auc_subs.specs.declared.row.Row.{Row}
use Rattle.auc_world.specs.Transcript.{Course, Leads, beginning}
use Rattle.auc_run.specs.Crash.{IsFull, IsKept, MayLeave}
use Rattle.auc_run.specs.Inner.{IsKnownPart, IsLeftInRun, StandsAfter, stopped_by}
use Rattle.auc_run.specs.Output.{setting_of}
use Rattle.auc_refusal.specs.Refusal.{status_of}
use Rattle.auc_run.specs.Service.{Answer, IsAnswer, IsLastReply, IsLate, IsSaid, IsServiceStop, LeavesNone, ServesBlocks, blocks_of, parts_in, records_in, replies_in}
use Rattle.auc_input.specs.Turns.{heard_in, said_in}
use Rattle.auc_refusal.specs.declared.refusal.Refusal.{Refusal}
use Rattle.auc_refusal.specs.declared.refusal.Refusal.TheVariants as refused
use Rattle.auc_refusal.specs.declared.status.Status.{Status}
use Rattle.auc_refusal.specs.declared.status.Status.TheVariants.{Done, NoMemory, StoreFull, TooLong}
use Rattle.auc_input.specs.Header.{AreTaken, HasRepliedEach}

-- why a service ends before the end of its input
abbrev pub ServiceStops : Refusal → Type 0
ServiceStops refused.ReadFault = Unit {0}
ServiceStops refused.WriteFault = Unit {0}
ServiceStops refused.StoreFault = Unit {0}
ServiceStops refused.StoreFull = Unit {0}
ServiceStops refused.TooLong = Unit {0}
ServiceStops refused.NoMemory = Unit {0}
ServiceStops _ = ⊥

-- blocks were answered, the next ones were taken, and a round goes on from here; the state knows no lines of earlier rounds
pub record IsServing {D : Type 0} (seen : D → Option (List ℕ)) (may_leave : D → List ℕ → Type 0) (moment : D → ℕ) (left_since : D → ℕ → List ℕ → Type 0) (rows : List Row) (header : Script) (from : D) (reserved first : List ℕ) (taken : List (List ℕ)) (waiting : List ℕ)
    (number : ℕ) (state : Standing) (journal : JournalState D) (turns : List Turn) : Type 0 where
  pub answers : List Answer
  pub each : All (IsAnswer rows header) answers
  pub heard : AreTaken (heard_in turns) (first ∷ (blocks_of answers ++ taken)) waiting
  pub said : said_in turns ≡ concat (replies_in answers)
  pub prompt : HasRepliedEach (replies_in answers) [] [] turns
  pub at : Course
  pub leads : Leads (setting_of rows header) None (beginning rows reserved) (parts_in answers) (records_in answers) at
  pub fits : All PartFits (records_in answers)
  pub known : All (IsKnownPart rows) (parts_in answers)
  pub on : StandsAfter seen may_leave moment left_since (setting_of rows header) from reserved at [] number state journal

-- so it is for a wire with these turns, wherever the service began
abbrev pub IsServingAny : {D : Type 0} → (D → Option (List ℕ)) → (D → List ℕ → Type 0) → (D → ℕ) → (D → ℕ → List ℕ → Type 0) → List Row → Script → List (List ℕ) → List ℕ → ℕ → Standing → JournalState D → Option (List Turn) → Type 0
IsServingAny {D} seen may_leave moment left_since rows header taken waiting number state journal now =
    (from : D) × (reserved : List ℕ) × (first : List ℕ) × (start : Option (List Turn)) × (turns : List Turn) × Turns start now turns
    × IsServing seen may_leave moment left_since rows header from reserved first taken waiting number state journal turns

-- a service ended after these turns, and its disk is left so
pub record RunsBlocks {D : Type 0} (seen : D → Option (List ℕ)) (may_leave : D → List ℕ → Type 0) (moment : D → ℕ) (left_since : D → ℕ → List ℕ → Type 0) (rows : List Row) (header : Script) (from : D) (reserved first : List ℕ)
    (status : Status) (disk : D) (turns : List Turn) : Type 0 where
  pub answers : List Answer
  pub unanswered : List (List ℕ)
  pub heard : (blocks_in (heard_in turns)).whole ≡ first ∷ (blocks_of answers ++ unanswered)
  pub none_left : LeavesNone status unanswered
  pub each : All (IsAnswer rows header) answers
  pub stop : Option Stop
  pub stopped : IsServiceStop status stop
  pub end : Course
  pub leads : Leads (setting_of rows header) stop (beginning rows reserved) (parts_in answers) (records_in answers) end
  pub fits : All PartFits (records_in answers)
  pub known : All (IsKnownPart rows) (parts_in answers)
  pub last : List ℕ
  pub is_last : IsLastReply status (blocks_in (heard_in turns)).left last
  pub said : IsSaid status (said_in turns) (concat (replies_in answers) ++ last)
  pub prompt : HasRepliedEach (replies_in answers) [] [] turns
  pub late : status ≡ TooLong → IsLate (length answers) (blocks_in (heard_in turns)).left
  pub kept : (image : List ℕ) → MayLeave seen may_leave from disk image → IsKept status rows reserved end image
  pub keeps : (told : TellsBytes seen may_leave from) → (image : List ℕ) → may_leave disk image → Keeps told.0 image × IsClosable image
  pub always : (told : TellsBytes seen may_leave from) → LeavesOnly moment left_since from disk (IsLeftInRun told.0 status rows reserved end)
  pub full_at : status ≡ StoreFull → TellsBytes seen may_leave from → IsFull (seen disk)

-- whatever began so goes on after the turns that came, and so many more blocks were answered
abbrev pub GoesOnServing : {D : Type 0} → (D → Option (List ℕ)) → (D → List ℕ → Type 0) → (D → ℕ) → (D → ℕ → List ℕ → Type 0) → List Row → Script → List (List ℕ) → List ℕ → List ℕ → ℕ → ℕ → Standing → Standing → JournalState D → JournalState D → ℕ → Option (List Turn) → Option (List Turn) → Type 0
GoesOnServing {D} seen may_leave moment left_since rows header taken waiting waits number later state next journal after count old new =
    (from : D) (reserved first : List ℕ) (start : Option (List Turn)) (turns : List Turn) → Turns start old turns
    → (serving : IsServing seen may_leave moment left_since rows header from reserved first taken waiting number state journal turns)
    → (more : List Turn) × Turns start new more × (goes : IsServing seen may_leave moment left_since rows header from reserved first [] waits later next after more) × (length goes.answers ≡ count + length serving.answers)

-- or ends
abbrev pub EndsServing : {D : Type 0} → (D → Option (List ℕ)) → (D → List ℕ → Type 0) → (D → ℕ) → (D → ℕ → List ℕ → Type 0) → List Row → Script → List (List ℕ) → List ℕ → ℕ → Standing → JournalState D → Status → D → Option (List Turn) → Option (List Turn) → Type 0
EndsServing {D} seen may_leave moment left_since rows header taken waiting number state journal status disk old new =
    (from : D) (reserved first : List ℕ) (start : Option (List Turn)) (turns : List Turn) → Turns start old turns
    → IsServing seen may_leave moment left_since rows header from reserved first taken waiting number state journal turns
    → (more : List Turn) × Turns start new more × RunsBlocks seen may_leave moment left_since rows header from reserved first status disk more

-- what comes of a block whose reply was said, or wasn't
abbrev pub turned_by : Result (Unit {0}) Refusal → Bool → Result Bool Refusal
turned_by (Ok done) more = Ok more
turned_by (Err refusal) more = Err refusal

-- what a round comes to: its text is said, and then reservations have ended in it or not
abbrev pub round_answer : Result (Unit {0}) Refusal → Option Stop → Result (Unit {0}) Refusal
round_answer (Ok done) stop = stopped_by stop
round_answer (Err refusal) stop = Err refusal

-- what comes of a block: the next one is heard, or the service ends
abbrev pub IsTurned : {D : Type 0} → (D → Option (List ℕ)) → (D → List ℕ → Type 0) → (D → ℕ) → (D → ℕ → List ℕ → Type 0) → List Row → Script → List (List ℕ) → List ℕ → List ℕ → ℕ → ℕ → Standing → Standing → JournalState D → JournalState D → Result Bool Refusal → Option (List Turn) → Option (List Turn) → Type 0
IsTurned {D} seen may_leave moment left_since rows header taken waiting waits number later state next journal after (Ok true) old new =
    GoesOnServing seen may_leave moment left_since rows header taken waiting waits number later state next journal after 1 old new
IsTurned {D} seen may_leave moment left_since rows header taken waiting waits number later state next journal after (Ok false) old new =
    EndsServing seen may_leave moment left_since rows header taken waiting number state journal Done after.disk old new
IsTurned {D} seen may_leave moment left_since rows header taken waiting waits number later state next journal after (Err refusal) old new =
    EndsServing seen may_leave moment left_since rows header taken waiting number state journal (status_of refusal) after.disk old new

-- ---- the header

-- blocks were served after a header, or memory ran out before it was answered
abbrev pub EndsReady : {D : Type 0} → (D → Option (List ℕ)) → (D → List ℕ → Type 0) → (D → ℕ) → (D → ℕ → List ℕ → Type 0) → List Row → Script → D → List ℕ → List ℕ → Status → D → Option (List Turn) → Option (List Turn) → Option (List Turn) → Type 0
EndsReady seen may_leave moment left_since rows header from reserved first status disk start old new =
    ((turns : List Turn) × Turns start new turns × RunsBlocks seen may_leave moment left_since rows header from reserved first status disk turns) ⊎ ((status ≡ NoMemory) × (new ≡ old))

-- blocks were served, or it was refused before
abbrev pub ServesOr : (Refusal → Type 0) → Option (List File) → Option (List ℕ) → Option (List ℕ) → (List ℕ → Type 0) → (List ℕ → Type 0) → Result (Unit {0}) Refusal → Option (List Turn) → Option (List Turn) → Type 0
ServesOr early told subscribers seen leaves ever (Ok done) old new = ServesBlocks told subscribers seen leaves ever Done old new
ServesOr early told subscribers seen leaves ever (Err refusal) old new = ServesBlocks told subscribers seen leaves ever (status_of refusal) old new ⊎ early refusal
