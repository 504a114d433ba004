-- Runs one after the other on one disk, each begun on an image that a crash after the one before may leave.
use Rattle.std.specs.Prelude.{◌≡◌, ℕ, ◌<◌, ◌⊎◌, AllPairs, Contains, List, [], ◌∷◌, length, map, Option, Some, None}
use Rattle.auc_block.specs.declared.turn.Turn.{Turn}
use Rattle.auc_memory.specs.Identity.{Identity}
use Rattle.auc_edge.specs.Shelf.{File}
use Rattle.auc_memory.specs.declared.stop.Stop.{Stop}
use Rattle.auc_journal.specs.Durable.{IsTold}
use Rattle.auc_journal.specs.Image.{Frame, Keeps}
use Rattle.auc_journal.specs.Journal.{imsi_at}
use Rattle.auc_journal.specs.Settled.{IsClosable}
use Rattle.auc_lines.specs.declared.part.Part.{Part}
use Rattle.auc_script.specs.declared.script.Script.{Script}
use Rattle.auc_subs.specs.declared.row.Row.{Row}
use Rattle.auc_record.specs.Lines.{numbers_of}
use Rattle.auc_world.specs.Transcript.{Course}
use Rattle.auc_record.specs.declared.record.LineRecord.{LineRecord}
use Rattle.auc_input.specs.Opening.{IsFound, limits_in}
use Rattle.auc_run.specs.Crash.{IsKept, MayHaveLeft, MayLeave, Remembers, RemembersAlways}
use Rattle.auc_run.specs.Outcome.{IsWritten, RunsFiles}
use Rattle.auc_run.specs.Output.{IsOutput}
use Rattle.auc_run.specs.Service.{ServesBlocks}
use Rattle.auc_input.specs.Words.{Files}
use Rattle.auc_refusal.specs.declared.status.Status.{Status}

-- a run or a service: the status with which it ended, what was written before and after it, the subscribers that it named, the lines
-- of the rounds that it served, and the image on which the next one begins. Of what a service said a chain says nothing
pub record ChainRun : Type 0 where
  pub status : Status
  pub old : Option (List ℕ)
  pub new : Option (List ℕ)
  pub rows : List Row
  pub lines : List LineRecord
  pub image : List ℕ

-- the identities of some rows, in their order
abbrev pub identities : List Row → List Identity
identities rows = map (λ row. row.imsi) rows

-- a run released the vector of a number for an identity: one of its lines says so
abbrev pub Releases : ChainRun → Identity → ℕ → Type 0
Releases run imsi n = (sub : ℕ) × (sub < length run.rows) × (imsi_at (identities run.rows) sub ≡ imsi) × Contains (numbers_of sub run.lines) n

-- a run that found a file served rounds: what it wrote, and what its image reserves, as the clause `ran` of `run` says
pub record ServedOn (file : List ℕ) (run : ChainRun) : Type 0 where
  pub script : Script
  pub found : List Frame
  pub is_found : IsFound (Some file) found
  pub stop : Option Stop
  pub served : List Part
  pub end : Course
  pub output : List ℕ
  pub is_output : IsOutput run.rows script (limits_in run.rows found) stop served end output
  pub written : IsWritten run.status run.old run.new output
  pub lines_are : run.lines ≡ end.early
  pub kept : IsKept run.status run.rows (limits_in run.rows found) end run.image

-- a run began on a file: it served rounds, or none, as the clause `ran` of `run` says; and its image reserves no less than the
-- file, as the clause `remembers` says
pub record BeganOn (file : List ℕ) (run : ChainRun) : Type 0 where
  pub rounds : (run.lines ≡ []) ⊎ ServedOn file run
  pub keeps : IsClosable file → Keeps file run.image
  pub closable : IsClosable file → IsClosable run.image

-- runs one after the other, the first of which began on a file
abbrev pub AreChained : List ℕ → List ChainRun → Type 0
AreChained file [] = Unit {0}
AreChained file (run ∷ runs) = BeganOn file run × AreChained run.image runs

-- each number that the second run released for an identity is above each that the first one released for it
abbrev pub DrewAbove : ChainRun → ChainRun → Type 0
DrewAbove first second = (imsi : Identity) (n m : ℕ) → Releases first imsi n → Releases second imsi m → n < m

-- the law of chains: no run releases a number again that an earlier one released for this identity, whatever each of them ended
-- with and whatever subscribers it named
abbrev pub EachRunDrawsAboveEarlierRuns : Type 0
EachRunDrawsAboveEarlierRuns = (file : List ℕ) (runs : List ChainRun) → IsClosable file → AreChained file runs → AllPairs DrewAbove runs

-- what the clauses of `run` say of a run that served rounds, and of any other, makes it one of a chain
abbrev pub EachServedRunIsOfAChain : {D : Type 0} → (D → Option (List ℕ)) → (D → List ℕ → Type 0) → (D → ℕ) → (D → ℕ → List ℕ → Type 0) → Type 0
EachServedRunIsOfAChain {D} seen may_leave moment left_since =
    (from disk : D) (shelf : Option (List File)) (files : Files) (status : Status) (old new : Option (List ℕ)) (told : IsTold seen may_leave from) (image : List ℕ)
    (runs : RunsFiles shelf files (seen from) (MayLeave seen may_leave from disk) (MayHaveLeft seen may_leave moment left_since from disk) status old new) → Remembers seen may_leave status from disk → may_leave disk image
    → BeganOn told.0 (record { status = status; old = old; new = new; rows = runs.rows; lines = runs.end.early; image = image })

abbrev pub EachOtherRunIsOfAChain : {D : Type 0} → (D → Option (List ℕ)) → (D → List ℕ → Type 0) → Type 0
EachOtherRunIsOfAChain {D} seen may_leave = (from disk : D) (status : Status) (old new : Option (List ℕ)) (told : IsTold seen may_leave from) (image : List ℕ)
    → Remembers seen may_leave status from disk → may_leave disk image
    → BeganOn told.0 (record { status = status; old = old; new = new; rows = []; lines = []; image = image })

-- a crash may also cut a call off: what `always` says of an image that one at some moment of the call left makes it one of a chain,
-- as one of which it isn't said what it released
abbrev pub EachCutRunIsOfAChain : {D : Type 0} → (D → Option (List ℕ)) → (D → List ℕ → Type 0) → (D → ℕ) → (D → ℕ → List ℕ → Type 0) → Type 0
EachCutRunIsOfAChain {D} seen may_leave moment left_since = (from disk : D) (status : Status) (old new : Option (List ℕ)) (told : IsTold seen may_leave from) (image : List ℕ)
    → RemembersAlways seen may_leave moment left_since from disk → left_since disk (moment from) image
    → BeganOn told.0 (record { status = status; old = old; new = new; rows = []; lines = []; image = image })

-- and what those of `serve` say of a service that served blocks makes it one, too
abbrev pub EachServiceIsOfAChain : {D : Type 0} → (D → Option (List ℕ)) → (D → List ℕ → Type 0) → (D → ℕ) → (D → ℕ → List ℕ → Type 0) → Type 0
EachServiceIsOfAChain {D} seen may_leave moment left_since =
    (from disk : D) (shelf : Option (List File)) (subscribers : Option (List ℕ)) (status : Status) (old new : Option (List Turn)) (told : IsTold seen may_leave from) (image : List ℕ)
    (serves : ServesBlocks shelf subscribers (seen from) (MayLeave seen may_leave from disk) (MayHaveLeft seen may_leave moment left_since from disk) status old new) → Remembers seen may_leave status from disk → may_leave disk image
    → BeganOn told.0 (record { status = status; old = None; new = None; rows = serves.rows; lines = serves.service.end.early; image = image })
