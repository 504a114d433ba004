-- How a run ends: what each status says of the words, the shelf's files, the journal and the output.
use Rattle.std.specs.Prelude.{◌≡◌, ℕ, ◌⊎◌, List, [], ◌∷◌, ◌++◌, Option, Some, None, Ok}
use Rattle.auc_edge.specs.Shelf.{File}
use Rattle.auc_edge.specs.Sink.{Appends, AppendsFront}
use Rattle.auc_memory.specs.declared.stop.Stop.{Stop}
use Rattle.auc_memory.specs.declared.stop.Stop.TheVariants.{Fault, Full}
use Rattle.auc_forms.specs.Algorithm.{algorithm_named, algorithm_text}
use Rattle.auc_forms.specs.declared.algorithm.AlgorithmForm.{AlgorithmForm}
use Rattle.auc_jobs.specs.Round.{DrewFull}
use Rattle.auc_journal.specs.Durable.{IsTold}
use Rattle.auc_journal.specs.Image.{Frame}
use Rattle.auc_lines.specs.declared.part.Part.{Part}
use Rattle.auc_load.specs.Summary.{load_text}
use Rattle.auc_load.specs.Words.{load_named}
use Rattle.auc_load.specs.declared.words.LoadWords.{LoadWords}
use Rattle.auc_script.specs.Reading.{script_of}
use Rattle.auc_script.specs.declared.script.Script.{Script}
use Rattle.auc_subs.specs.declared.row.Row.{Row}
use Rattle.auc_world.specs.Transcript.{Course}
use Rattle.auc_record.specs.declared.record.PartRecord.{PartRecord}
use Rattle.auc_record.specs.declared.record.PartRecord.TheVariants as record_of
use Rattle.auc_record.specs.declared.record.RoundRecord.{RoundRecord}
use Rattle.auc_input.specs.Opening.{IsFound, IsNoJournal, limits_in}
use Rattle.auc_run.specs.Crash.{IsKept, IsLeftAnyTime, ReservesBelow}
use Rattle.auc_run.specs.Output.{IsOutput, IsTranscript, text_of}
use Rattle.auc_refusal.specs.Refusal.{status_of, line_of}
use Rattle.auc_input.specs.Words.{journal_named, Files, files_named}
use Rattle.auc_input.specs.declared.forms.JournalForm.{JournalForm}
use Rattle.auc_input.specs.declared.forms.JournalForm.TheVariants as telling
use Rattle.auc_refusal.specs.declared.refusal.Refusal.{Refusal}
use Rattle.auc_refusal.specs.declared.refusal.Refusal.TheVariants as refused
use Rattle.auc_refusal.specs.declared.status.Status.{Status}
use Rattle.auc_refusal.specs.declared.status.Status.TheVariants.{Done, Usage, SubscribersRefused, ScenarioRefused, ReadFault, WriteFault, StoreFault, NotJournal, StoreFull, TooLong, NoMemory}
use Rattle.auc_input.specs.Reading.{AreRead, AreRight, AreWrong}

-- ---- the input, in the order in which it is read

-- the words ask for the journal, and no file that is read before it is wrong
abbrev pub OpensJournal : List (List ℕ) → Option (List File) → Type 0
OpensJournal words told = ((form : JournalForm) × (journal_named words ≡ Some form)) ⊎ ((files : Files) × (files_named words ≡ Some files) × AreRight told files)

-- ---- what is done

-- why reservations had stopped in the last round of a run that ended so, if they had; a write that fails may end either
abbrev pub IsStopOf : Status → Option Stop → Type 0
IsStopOf Done stop = stop ≡ None
IsStopOf StoreFault stop = stop ≡ Some Fault
IsStopOf StoreFull stop = stop ≡ Some Full
IsStopOf NoMemory stop = stop ≡ None
IsStopOf WriteFault stop = Unit {0}
IsStopOf _ stop = ⊥

-- a text was written, or its first bytes if the write failed
abbrev pub IsWritten : Status → Option (List ℕ) → Option (List ℕ) → List ℕ → Type 0
IsWritten WriteFault old new text = AppendsFront old new text
IsWritten _ old new text = Appends old new text

-- the scenario of the files was read whole and the journal opened, the first of its parts were served, and the output of
-- their run was written. A crash may now leave such images, and may have left such ones at some moment of the run
pub record RunsFiles (told : Option (List File)) (files : Files) (seen : Option (List ℕ)) (leaves : List ℕ → Type 0) (ever : List ℕ → Type 0) (status : Status) (old new : Option (List ℕ)) : Type 0 where
  pub first : List Row
  pub text : List ℕ
  pub are_read : AreRead told files first text
  pub script : Script
  pub rows : List Row
  pub is_script : script_of first text ≡ Ok (script, rows)
  pub found : List Frame
  pub is_found : IsFound seen found
  -- the parts that were served, all of them if the run is done, and whether reservations stopped in the last of them
  pub served : List Part
  pub left : List Part
  pub cut : script.parts ≡ served ++ left
  pub whole : status ≡ Done → left ≡ []
  pub stop : Option Stop
  pub stopped : IsStopOf status stop
  -- their output, and what a crash leaves of the journal
  pub output : List ℕ
  pub end : Course
  pub is_output : IsOutput rows script (limits_in rows found) stop served end output
  pub written : IsWritten status old new output
  pub kept : (image : List ℕ) → leaves image → IsKept status rows (limits_in rows found) end image
  -- and what one at any moment of the run has left of it, also while the threads of a round ran
  pub always : (image : List ℕ) → ever image → IsLeftAnyTime seen status rows (limits_in rows found) end image

-- the words name the files of a scenario that was read and run
abbrev pub RunsScenario : List (List ℕ) → Option (List File) → Option (List ℕ) → (List ℕ → Type 0) → (List ℕ → Type 0) → Status → Option (List ℕ) → Option (List ℕ) → Type 0
RunsScenario words told seen leaves ever status old new = (files : Files) × (files_named words ≡ Some files) × RunsFiles told files seen leaves ever status old new

-- a transcript ends in a round that drew a number of a subscriber and withheld it because the journal is full; the journal
-- that is left reserves less for this subscriber
pub record EndsFull {D : Type 0} (seen : D → Option (List ℕ)) (may_leave : D → List ℕ → Type 0) (rows : List Row) (from : D) (records : List PartRecord) (disk : D) : Type 0 where
  pub before : List PartRecord
  pub round : RoundRecord
  pub last : records ≡ before ++ record_of.Round round ∷ []
  pub drew : DrewFull rows round
  pub above : IsTold seen may_leave from → ReservesBelow (seen disk) drew.row.imsi drew.number

-- the scenario of the files was read whole and the journal opened, and the text of the first of its parts was written: its
-- one transcript ends so
pub record RunsFull {D : Type 0} (seen : D → Option (List ℕ)) (may_leave : D → List ℕ → Type 0) (told : Option (List File)) (files : Files) (from disk : D) (old new : Option (List ℕ)) : Type 0 where
  pub first : List Row
  pub text : List ℕ
  pub are_read : AreRead told files first text
  pub script : Script
  pub rows : List Row
  pub is_script : script_of first text ≡ Ok (script, rows)
  pub found : List Frame
  pub is_found : IsFound (seen from) found
  pub served : List Part
  pub left : List Part
  pub cut : script.parts ≡ served ++ left
  pub transcript : List PartRecord
  pub lawful : IsTranscript rows script (limits_in rows found) (Some Full) served transcript
  pub written : Appends old new (text_of rows script transcript)
  pub ends : EndsFull seen may_leave rows from transcript disk

-- the words have a form of `vector` or `auts`, and its lines were written
abbrev pub PrintsAlgorithm : List (List ℕ) → Option (List ℕ) → Option (List ℕ) → Type 0
PrintsAlgorithm words old new = (form : AlgorithmForm) × (algorithm_named words ≡ Some form) × Appends old new (algorithm_text form)

-- the words are those of a load, and its five lines were written: they are a function of the words
abbrev pub RunsLoad : List (List ℕ) → Option (List ℕ) → Option (List ℕ) → Type 0
RunsLoad words old new = (load : LoadWords) × (load_named words ≡ Some load) × Appends old new (load_text load)

-- how a load ends, and what was written then: its five lines, or some first bytes of them if the output failed, or nothing if
-- memory ran out. It has no other end: that its journal in memory stops counts as want of memory
abbrev pub EndsLoad : LoadWords → Status → Option (List ℕ) → Option (List ℕ) → Type 0
EndsLoad load Done old new = Appends old new (load_text load)
EndsLoad load WriteFault old new = AppendsFront old new (load_text load)
EndsLoad load NoMemory old new = new ≡ old
EndsLoad load _ old new = ⊥

-- how a run ends whose words have a form of `vector` or `auts`, and what was written then: its lines, or some first bytes of them
-- if the output failed, or nothing if memory ran out
abbrev pub EndsAlgorithm : AlgorithmForm → Status → Option (List ℕ) → Option (List ℕ) → Type 0
EndsAlgorithm form Done old new = Appends old new (algorithm_text form)
EndsAlgorithm form WriteFault old new = AppendsFront old new (algorithm_text form)
EndsAlgorithm form NoMemory old new = new ≡ old
EndsAlgorithm form _ old new = ⊥

-- the words have none of the program's forms
pub record AreUnknown (words : List (List ℕ)) : Type 0 where
  pub no_files : files_named words ≡ None
  pub no_algorithm : algorithm_named words ≡ None
  pub no_load : load_named words ≡ None
  pub no_telling : journal_named words ≡ None

-- how a run ends whose words have no form, and what was written then: the word `usage`, or some first bytes of it if the output
-- failed. No memory is taken for it
abbrev pub EndsUsage : Status → Option (List ℕ) → Option (List ℕ) → Type 0
EndsUsage Usage old new = Appends old new (line_of refused.Usage)
EndsUsage WriteFault old new = AppendsFront old new (line_of refused.Usage)
EndsUsage _ old new = ⊥

-- ---- what is refused

-- the cause of a refusal: the words have no form, what is wrong with the files that they name, or that the file of the
-- journal is none
abbrev pub IsCause : List (List ℕ) → Option (List File) → Option (List ℕ) → Refusal → Type 0
IsCause words told seen refused.Usage =
    (files_named words ≡ None) × (algorithm_named words ≡ None) × (load_named words ≡ None) × (journal_named words ≡ None)
IsCause words told seen (refused.NotJournal place) = OpensJournal words told × IsNoJournal seen place
IsCause words told seen refusal = (files : Files) × (files_named words ≡ Some files) × AreWrong told files refusal

-- a run was refused: the refusal's cause is there, and its line was written
pub record Refuses (words : List (List ℕ)) (told : Option (List File)) (seen : Option (List ℕ)) (status : Status) (old new : Option (List ℕ)) : Type 0 where
  pub refusal : Refusal
  pub is_status : status ≡ status_of refusal
  pub cause : IsCause words told seen refusal
  pub written : Appends old new (line_of refusal)

-- the output failed in the line of a refusal: the refusal's cause is there, and some first bytes of its line were written
pub record RefusesInPart (words : List (List ℕ)) (told : Option (List File)) (seen : Option (List ℕ)) (old new : Option (List ℕ)) : Type 0 where
  pub refusal : Refusal
  pub cause : IsCause words told seen refusal
  pub written : AppendsFront old new (line_of refusal)

-- how a run of files ends whose rounds didn't begin, and what was written then: the line of a refusal whose cause is there, or
-- some first bytes of it if the output failed; or nothing if a file couldn't be read, the disk failed or memory ran out
abbrev pub EndsBefore : List (List ℕ) → Option (List File) → Option (List ℕ) → Status → Option (List ℕ) → Option (List ℕ) → Type 0
EndsBefore words told seen SubscribersRefused old new = Refuses words told seen SubscribersRefused old new
EndsBefore words told seen ScenarioRefused old new = Refuses words told seen ScenarioRefused old new
EndsBefore words told seen NotJournal old new = Refuses words told seen NotJournal old new
EndsBefore words told seen TooLong old new = Refuses words told seen TooLong old new
EndsBefore words told seen WriteFault old new = RefusesInPart words told seen old new
EndsBefore words told seen ReadFault old new = new ≡ old
EndsBefore words told seen StoreFault old new = new ≡ old
EndsBefore words told seen NoMemory old new = new ≡ old
EndsBefore words told seen _ old new = ⊥

-- a fault, a journal that is full, or want of memory
abbrev pub IsStop : Status → Type 0
IsStop status = (status ≡ ReadFault) ⊎ (status ≡ WriteFault) ⊎ (status ≡ StoreFault) ⊎ (status ≡ StoreFull) ⊎ (status ≡ NoMemory)

-- how a run may end whose words name files that are right, and whose journal is one
abbrev pub MayRun : Status → Type 0
MayRun status = (status ≡ Done) ⊎ IsStop status

-- how a run may end whose words have a form of `vector` or `auts`, or are those of a load
abbrev pub MayPrint : Status → Type 0
MayPrint status = (status ≡ Done) ⊎ (status ≡ WriteFault) ⊎ (status ≡ NoMemory)

-- how a run may end whose words have a form that tells the journal, and whose journal is one
abbrev pub MayTell : JournalForm → Status → Type 0
MayTell telling.Reserved status = MayPrint status ⊎ (status ≡ StoreFault)
MayTell telling.Compact status = MayPrint status ⊎ (status ≡ StoreFault) ⊎ (status ≡ TooLong)

-- a run whose words need no journal, or that ended before the journal is opened
abbrev pub NeedsNoJournal : List (List ℕ) → Status → Type 0
NeedsNoJournal words Usage = Unit {0}
NeedsNoJournal words SubscribersRefused = Unit {0}
NeedsNoJournal words ScenarioRefused = Unit {0}
NeedsNoJournal words ReadFault = Unit {0}
NeedsNoJournal words TooLong = journal_named words ≡ None
NeedsNoJournal words _ = ((form : AlgorithmForm) × (algorithm_named words ≡ Some form)) ⊎ ((load : LoadWords) × (load_named words ≡ Some load)) ⊎ AreUnknown words
