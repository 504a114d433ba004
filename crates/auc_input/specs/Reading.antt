-- The input, in the order in which it is read: the subscribers, then the scenario.
use Rattle.std.specs.Prelude.{◌≡◌, ◌⊎◌, ℕ, ◌≤◌, List, length, Option, Some, Ok, Err, [], None}
use Rattle.auc_edge.specs.Shelf.{File, IsLongerFile, IsFile}
use Rattle.auc_script.specs.declared.refusal.ScriptRefusal.TheVariants.{Line}
use Rattle.auc_refusal.specs.declared.refusal.Refusal.{Refusal}
use Rattle.auc_script.specs.Reading.{script_of}
use Rattle.auc_script.specs.declared.script.Script.{Script}
use Rattle.auc_subs.specs.File.{subscribers_in}
use Rattle.auc_subs.specs.declared.refusal.SubsRefusal.TheVariants.{Row as wrong_row}
use Rattle.auc_subs.specs.declared.row.Row.{Row}
use Rattle.auc_input.specs.Words.{Files}
use Rattle.auc_script.specs.declared.refusal.ScriptRefusal.TheVariants as wrong_script
use Rattle.auc_subs.specs.declared.refusal.SubsRefusal.TheVariants as wrong_subs
use Rattle.auc_refusal.specs.declared.refusal.Refusal.TheVariants as refused

-- how many bytes an input file may have: 64 MiB
abbrev pub max_file : ℕ
max_file = 67108864

-- the file with this name has this text, if the shelf tells its files; the text is not too long
pub record HasText (told : Option (List File)) (name text : List ℕ) : Type 0 where
  pub file : IsFile told name text
  pub within : length text ≤ max_file

-- the subscribers with which a run begins: those of the file that is named, or none
abbrev pub BeginsWith : Option (List File) → Option (List ℕ) → List Row → Type 0
BeginsWith told None rows = rows ≡ []
BeginsWith told (Some name) rows = (text : List ℕ) × HasText told name text × (subscribers_in text ≡ Ok rows)

-- the files give the subscribers with which a run begins, and the scenario's text
pub record AreRead (told : Option (List File)) (files : Files) (rows : List Row) (text : List ℕ) : Type 0 where
  pub begins : BeginsWith told files.subscribers rows
  pub has : HasText told files.scenario text

-- the file of this name is the next to be read: it is that of the subscribers, or the scenario after the
-- subscribers were read and are right
abbrev pub IsReadNext : Option (List File) → Files → List ℕ → Type 0
IsReadNext told files name =
    (files.subscribers ≡ Some name) ⊎ ((rows : List Row) × BeginsWith told files.subscribers rows × (files.scenario ≡ name))

-- the files are right
pub record AreRight (told : Option (List File)) (files : Files) : Type 0 where
  pub rows : List Row
  pub text : List ℕ
  pub are_read : AreRead told files rows text
  pub script : Script
  pub after : List Row
  pub is_script : script_of rows text ≡ Ok (script, after)

-- what is wrong with the files, the first of it in the order in which they are read
abbrev pub AreWrong : Option (List File) → Files → Refusal → Type 0
AreWrong told files (refused.Subscribers row fault) =
    (name text : List ℕ) × (files.subscribers ≡ Some name) × HasText told name text × (subscribers_in text ≡ Err (wrong_row row fault))
AreWrong told files (refused.Scenario line fault) =
    (rows : List Row) × (text : List ℕ) × AreRead told files rows text × (script_of rows text ≡ Err (Line line fault))
AreWrong told files refused.TooLong = (name : List ℕ) × IsReadNext told files name × IsLongerFile told name max_file
AreWrong told files _ = ⊥

-- why a file isn't read
abbrev pub FileStops : Option (List File) → List ℕ → Refusal → Type 0
FileStops told name refused.ReadFault = Unit {0}
FileStops told name refused.TooLong = IsLongerFile told name max_file
FileStops told name refused.NoMemory = Unit {0}
FileStops told name _ = ⊥

-- why the subscribers with which a run begins aren't read
abbrev pub SubscribersStop : Option (List File) → Option (List ℕ) → Refusal → Type 0
SubscribersStop told subscribers (refused.Subscribers row fault) =
    (name text : List ℕ) × (subscribers ≡ Some name) × HasText told name text × (subscribers_in text ≡ Err (wrong_subs.Row row fault))
SubscribersStop told subscribers refused.TooLong = (name : List ℕ) × (subscribers ≡ Some name) × IsLongerFile told name max_file
SubscribersStop told subscribers refused.ReadFault = Unit {0}
SubscribersStop told subscribers refused.NoMemory = Unit {0}
SubscribersStop told subscribers _ = ⊥

-- why a scenario isn't read after some subscribers
abbrev pub ScenarioStops : Option (List File) → List ℕ → List Row → Refusal → Type 0
ScenarioStops told name rows (refused.Scenario line fault) =
    (text : List ℕ) × HasText told name text × (script_of rows text ≡ Err (wrong_script.Line line fault))
ScenarioStops told name rows refusal = FileStops told name refusal

-- why the files of a run aren't read
abbrev pub ReadingStops : Option (List File) → Files → Refusal → Type 0
ReadingStops told files refused.ReadFault = Unit {0}
ReadingStops told files refused.NoMemory = Unit {0}
ReadingStops told files refusal = AreWrong told files refusal

-- the files of a run were read: its subscribers, and its script
pub record IsRead (told : Option (List File)) (files : Files) (rows : List Row) (script : Script) : Type 0 where
  pub first : List Row
  pub text : List ℕ
  pub are_read : AreRead told files first text
  pub is_script : script_of first text ≡ Ok (script, rows)
