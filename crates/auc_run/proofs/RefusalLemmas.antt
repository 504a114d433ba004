-- For the top call: the refusals of the steps of a run are those of the run.
use Rattle.std.proofs.Common.{ℕ, List, Option, Result, Ok, Err, IfErr, refl, inl, inr}
use Rattle.auc_edge.specs.Shelf.{File}
use Rattle.auc_journal.specs.declared.open_why.OpenWhy.{OpenWhy}
use Rattle.auc_journal.specs.declared.open_why.OpenWhy.TheVariants as unopened
use Rattle.auc_script.specs.declared.script.Script.{Script}
use Rattle.auc_subs.specs.declared.row.Row.{Row}
use Rattle.auc_input.specs.Reading.{IsRead, ReadingStops, AreRight}
use Rattle.auc_refusal.specs.Causes.{open_refusal}
use Rattle.auc_run.specs.Inner.{FilesLeave, FilesStop, InputStops, RoundsStop}
use Rattle.auc_run.specs.Outcome.{RunsFiles}
use Rattle.auc_refusal.specs.Refusal.{status_of}
use Rattle.auc_input.specs.Words.{Files}
use Rattle.auc_refusal.specs.declared.refusal.Refusal.{Refusal}
use Rattle.auc_refusal.specs.declared.refusal.Refusal.TheVariants as refused
use Rattle.auc_refusal.specs.declared.status.Status.{Status}
use Rattle.auc_refusal.specs.declared.status.Status.TheVariants as status

-- what holds of an error
pub IfErr-weaker : {T E : Type 0} (r : Result T E) (P Q : E → Type 0) → ((e : E) → P e → Q e) → IfErr r P → IfErr r Q
IfErr-weaker (Ok x) P Q weaker is = is
IfErr-weaker (Err e) P Q weaker is = weaker e is

-- the files of a run aren't read
pub reading_stops : (told : Option (List File)) (files : Files) (seen : Option (List ℕ)) (refusal : Refusal) → ReadingStops told files refusal → FilesStop told files seen refusal
reading_stops told files seen refused.ReadFault stop = tt
reading_stops told files seen refused.NoMemory stop = tt
reading_stops told files seen (refused.Subscribers row fault) stop = stop
reading_stops told files seen (refused.Scenario line fault) stop = stop
reading_stops told files seen refused.TooLong stop = stop
reading_stops told files seen refused.Usage stop = stop
reading_stops told files seen refused.WriteFault stop = absurd stop
reading_stops told files seen refused.StoreFault stop = absurd stop
reading_stops told files seen (refused.NotJournal place) stop = absurd stop
reading_stops told files seen refused.StoreFull stop = absurd stop

-- the rounds of files that are right end early
pub rounds_stop : (told : Option (List File)) (files : Files) (seen : Option (List ℕ)) (refusal : Refusal) → AreRight told files → RoundsStop refusal → FilesStop told files seen refusal
rounds_stop told files seen refused.WriteFault right stop = right
rounds_stop told files seen refused.StoreFault right stop = right
rounds_stop told files seen refused.StoreFull right stop = right
rounds_stop told files seen refused.NoMemory right stop = tt
rounds_stop told files seen refused.Usage right stop = absurd stop
rounds_stop told files seen (refused.Subscribers row fault) right stop = absurd stop
rounds_stop told files seen (refused.Scenario line fault) right stop = absurd stop
rounds_stop told files seen refused.ReadFault right stop = absurd stop
rounds_stop told files seen (refused.NotJournal place) right stop = absurd stop
rounds_stop told files seen refused.TooLong right stop = absurd stop

-- files that are right aren't served to the end
pub input_stops : (told : Option (List File)) (files : Files) (seen : Option (List ℕ)) (refusal : Refusal) → AreRight told files → InputStops seen refusal → FilesStop told files seen refusal
input_stops told files seen refusal right (inr stop) = rounds_stop told files seen refusal right stop
input_stops told files seen refused.StoreFault right (inl stop) = right
input_stops told files seen (refused.NotJournal place) right (inl stop) = (right, stop)
input_stops told files seen refused.NoMemory right (inl stop) = tt
input_stops told files seen refused.Usage right (inl stop) = absurd stop
input_stops told files seen (refused.Subscribers row fault) right (inl stop) = absurd stop
input_stops told files seen (refused.Scenario line fault) right (inl stop) = absurd stop
input_stops told files seen refused.ReadFault right (inl stop) = absurd stop
input_stops told files seen refused.WriteFault right (inl stop) = absurd stop
input_stops told files seen refused.StoreFull right (inl stop) = absurd stop
input_stops told files seen refused.TooLong right (inl stop) = absurd stop

-- files that were read are right
pub right_read : (told : Option (List File)) (files : Files) (rows : List Row) (script : Script) → IsRead told files rows script → AreRight told files
right_read told files rows script read =
    record { rows = read.first; text = read.text; are_read = read.are_read; script = script; after = rows; is_script = read.is_script }

-- ---- what a run leaves

-- its rounds were served so far
pub leave_runs : (told : Option (List File)) (files : Files) (seen : Option (List ℕ)) (leaves : List ℕ → Type 0) (ever : List ℕ → Type 0) (ended : Status) (old new : Option (List ℕ))
    → RunsFiles told files seen leaves ever ended old new → FilesLeave told files seen leaves ever ended old new
leave_runs told files seen leaves ever status.Done old new runs = runs
leave_runs told files seen leaves ever status.StoreFull old new runs = runs
leave_runs told files seen leaves ever status.Usage old new runs = inl runs
leave_runs told files seen leaves ever status.SubscribersRefused old new runs = inl runs
leave_runs told files seen leaves ever status.ScenarioRefused old new runs = inl runs
leave_runs told files seen leaves ever status.ReadFault old new runs = inl runs
leave_runs told files seen leaves ever status.WriteFault old new runs = runs
leave_runs told files seen leaves ever status.StoreFault old new runs = inl runs
leave_runs told files seen leaves ever status.NotJournal old new runs = inl runs
leave_runs told files seen leaves ever status.TooLong old new runs = inl runs
leave_runs told files seen leaves ever status.NoMemory old new runs = inl runs

-- its files weren't read, or its journal wasn't opened
pub leave_unread : (told : Option (List File)) (files : Files) (seen : Option (List ℕ)) (leaves : List ℕ → Type 0) (ever : List ℕ → Type 0) (refusal : Refusal) (old : Option (List ℕ))
    → ReadingStops told files refusal → FilesLeave told files seen leaves ever (status_of refusal) old old
leave_unread told files seen leaves ever refused.StoreFull old stop = absurd stop
leave_unread told files seen leaves ever refused.Usage old stop = inr refl
leave_unread told files seen leaves ever (refused.Subscribers row fault) old stop = inr refl
leave_unread told files seen leaves ever (refused.Scenario line fault) old stop = inr refl
leave_unread told files seen leaves ever refused.ReadFault old stop = inr refl
leave_unread told files seen leaves ever refused.WriteFault old stop = absurd stop
leave_unread told files seen leaves ever refused.StoreFault old stop = inr refl
leave_unread told files seen leaves ever (refused.NotJournal place) old stop = inr refl
leave_unread told files seen leaves ever refused.TooLong old stop = inr refl
leave_unread told files seen leaves ever refused.NoMemory old stop = inr refl

pub leave_unopened : (told : Option (List File)) (files : Files) (seen : Option (List ℕ)) (leaves : List ℕ → Type 0) (ever : List ℕ → Type 0) (why : OpenWhy) (old : Option (List ℕ))
    → FilesLeave told files seen leaves ever (status_of (open_refusal why)) old old
leave_unopened told files seen leaves ever unopened.StoreFault old = inr refl
leave_unopened told files seen leaves ever (unopened.NotJournal place) old = inr refl
leave_unopened told files seen leaves ever unopened.NoMemory old = inr refl
