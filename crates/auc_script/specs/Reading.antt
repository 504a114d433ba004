-- The reading of a scenario's text: the scenario that its lines say, or the first wrong line.
use Rattle.std.specs.Prelude.{ℕ, ◌≡◌, ◌+◌, ◌-◌, List, [], ◌∷◌, take, false, replicate, Option, None, Result, Ok, Err}
use Rattle.std.specs.Option.{option_map, unwrap_or}
use Rattle.auc_subs.specs.declared.row.Row.{Row}
use Rattle.auc_lines.specs.declared.part.Line.{Line}
use Rattle.auc_script.specs.declared.form.Form.{Form}
use Rattle.auc_script.specs.declared.form.Form.TheVariants as forms
use Rattle.auc_script.specs.declared.script.Script.{Script}
use Rattle.auc_script.specs.declared.refusal.ScriptRefusal.{ScriptRefusal}
use Rattle.auc_script.specs.declared.refusal.ScriptRefusal.TheVariants as refusal
use Rattle.auc_reading.specs.declared.refusal.ScriptWhy.{ScriptWhy}
use Rattle.auc_text.specs.Text.{lines_of}
use Rattle.auc_script.specs.Scenario.{Scenario, after_line, jobs_in, parts_of}

-- what is read on if a line is right, or else its refusal
abbrev pub after : ℕ → Result Scenario ScriptWhy → (Scenario → Result Scenario ScriptRefusal) → Result Scenario ScriptRefusal
after number (Ok s) next = next s
after number (Err why) next = Err (refusal.Line number why)

-- the scenario that lines from a number on say, each by the table
abbrev pub read_lines : ℕ → Scenario → List (List ℕ) → Result Scenario ScriptRefusal
read_lines number s [] = Ok s
read_lines number s (line ∷ more) = after number (after_line s line) (λ t. read_lines (number + 1) t more)

-- the scenario without lines, over the subscribers that there are
abbrev pub beginning : List Row → Scenario
beginning rows = record { form = forms.Scenario; rows = rows; header = record { key = None; workers = None; full = None; realm = None }; ended = []; round = None }

-- the same of another form
abbrev pub beginning_of : Form → List Row → Scenario
beginning_of form rows = record (beginning rows) { form = form }

-- the script of a scenario: for a word that didn't come, a key of zeros, one worker, the brief
-- print, and no realm
abbrev pub script_from : Scenario → Script
script_from s = record {
  key = unwrap_or s.header.key (replicate 32 0);
  workers = unwrap_or s.header.workers 1;
  full = unwrap_or s.header.full false;
  realm = unwrap_or s.header.realm [];
  parts = parts_of s;
}

-- the script that a scenario is, and its subscribers
abbrev pub script_in : Result Scenario ScriptRefusal → Result (Script × List Row) ScriptRefusal
script_in (Ok s) = Ok (script_from s, s.rows)
script_in (Err refused) = Err refused

-- the script that a text is and its subscribers after those that there are, or the first wrong line
abbrev pub script_of : List Row → List ℕ → Result (Script × List Row) ScriptRefusal
script_of rows text = script_in (read_lines 1 (beginning rows) (lines_of text))

-- the jobs of the present round of a scenario, if there is one
abbrev pub round_in : Result Scenario ScriptRefusal → Result (Option (List (List Line))) ScriptRefusal
round_in (Ok s) = Ok (option_map jobs_in s.round)
round_in (Err refused) = Err refused

-- the script of a text that is a header alone, without parts, and all subscribers
abbrev pub header_of : List Row → List ℕ → Result (Script × List Row) ScriptRefusal
header_of rows text = script_in (read_lines 1 (beginning_of forms.Header rows) (lines_of text))

-- the jobs of a block's round, and none if it has no round, or its first wrong line
abbrev pub block_of : List Row → List ℕ → Result (Option (List (List Line))) ScriptRefusal
block_of rows text = round_in (read_lines 1 (beginning_of forms.Block rows) (lines_of text))

-- some lines are right, one after another, and lead from one scenario to another
abbrev pub AreRight : Scenario → List (List ℕ) → Scenario → Type 0
AreRight s [] t = s ≡ t
AreRight s (line ∷ more) t = (next : Scenario) × (after_line s line ≡ Ok next) × AreRight next more t

-- the rows after so many lines of a text, which are right from a scenario on
abbrev pub AreAfter : Scenario → List ℕ → ℕ → List Row → Type 0
AreAfter from text count kept = (s : Scenario) × AreRight from (take count (lines_of text)) s × (s.rows ≡ kept)

-- what a refused text leaves: the subscribers of the lines before the wrong one, or if memory ran out
-- those of some first lines
abbrev pub Keeps : Scenario → List ℕ → ScriptRefusal → List Row → Type 0
Keeps from text (refusal.Line number why) kept = AreAfter from text (number - 1) kept
Keeps from text refusal.NoMemory kept = (count : ℕ) × AreAfter from text count kept
