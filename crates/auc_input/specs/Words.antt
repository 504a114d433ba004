-- The words with which the program is called.
use Rattle.std.specs.Option.{option_copied}
use Rattle.std.specs.Prelude.{ℕ, List, length, Option, Some, ◌∷◌, [], None, codes, nat_lt, if◌then◌else◌, ◌&&◌}
use Rattle.std.specs.Str.{bytes_eq}
use Rattle.auc_compact.specs.Compact.{asks_compact}
use Rattle.auc_forms.specs.Reserved.{asks_reserved}
use Rattle.auc_input.specs.declared.forms.InputFiles.{InputFiles}
use Rattle.auc_input.specs.declared.forms.JournalForm.{JournalForm}
use Rattle.auc_input.specs.declared.forms.JournalForm.TheVariants.{Reserved, Compact}

-- the files of a run: the scenario's, and the subscribers' if one is named
pub record Files : Type 0 where
  pub scenario : List ℕ
  pub subscribers : Option (List ℕ)

-- the files that the words `run SCENARIO` and `run SCENARIO SUBSCRIBERS` name, and none if the words have no such
-- form
abbrev pub files_named : List (List ℕ) → Option Files
files_named (word ∷ scenario ∷ []) =
    if bytes_eq word (codes "run") && nat_lt 0 (length scenario)
    then Some (record { scenario = scenario; subscribers = None }) else None
files_named (word ∷ scenario ∷ subscribers ∷ []) =
    if bytes_eq word (codes "run") && nat_lt 0 (length scenario) && nat_lt 0 (length subscribers)
    then Some (record { scenario = scenario; subscribers = Some subscribers }) else None
files_named _ = None

-- the file of subscribers, if one is named, that the words `serve` and `serve SUBSCRIBERS` name, and none if the words have no
-- such form
abbrev pub service_named : List (List ℕ) → Option (Option (List ℕ))
service_named (word ∷ []) = if bytes_eq word (codes "serve") then Some None else None
service_named (word ∷ subscribers ∷ []) =
    if bytes_eq word (codes "serve") && nat_lt 0 (length subscribers) then Some (Some subscribers) else None
service_named _ = None

-- the form of these two that the words have, and none if they have neither
abbrev pub journal_named : List (List ℕ) → Option JournalForm
journal_named words = if asks_reserved words then Some Reserved else if asks_compact words then Some Compact else None

-- the files, as the code hands their names on
abbrev pub files_seen : InputFiles → Files
files_seen files = record { scenario = files.scenario.now; subscribers = option_copied files.subscribers }
