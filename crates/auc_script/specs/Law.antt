-- What the reading of a scenario says of its lines, one by one.
use Rattle.std.specs.Prelude.{ℕ, ◌≡◌, ◌≢◌, ◌+◌, ◌-◌, ◌++◌, Bool, false, List, [], ◌∷◌, length, map, All, Ok, Err, if◌then◌else◌, slice_index_or}
use Rattle.std.specs.List.{flat_map}
use Rattle.auc_subs.specs.declared.row.Row.{Row}
use Rattle.auc_script.specs.declared.script.Script.{Script}
use Rattle.auc_script.specs.declared.refusal.ScriptRefusal.TheVariants as refusal
use Rattle.auc_reading.specs.declared.refusal.ScriptWhy.{ScriptWhy}
use Rattle.auc_text.specs.Text.{lines_of}
use Rattle.auc_script.specs.Scenario.{Scenario, after_line}
use Rattle.auc_script.specs.Reading.{AreRight, beginning, script_from, script_of}

-- a line and how it ends: with CRLF, or with LF alone
pub record Ended : Type 0 where
  pub line : List ℕ
  pub crlf : Bool

-- no byte of a line is an LF
abbrev pub HasNoLf : List ℕ → Type 0
HasNoLf line = All (λ byte. byte ≢ 10) line

-- a line with its ending: before LF alone, the line doesn't end with CR
pub record IsEnded (e : Ended) : Type 0 where
  pub line : HasNoLf e.line
  pub cr : e.crlf ≡ false → slice_index_or e.line (length e.line - 1) 0 ≢ 13

-- the text of a line with its ending, and of lines and the rest after them
abbrev pub ended_text : Ended → List ℕ
ended_text e = e.line ++ (if e.crlf then 13 ∷ 10 ∷ [] else 10 ∷ [])

abbrev pub whole_text : List Ended → List ℕ → List ℕ
whole_text lines last = flat_map ended_text lines ++ last

-- all lines of such a text, with the rest as the last
abbrev pub all_lines : List Ended → List ℕ → List (List ℕ)
all_lines lines last = map (λ e. e.line) lines ++ last ∷ []

abbrev pub EachRightTextIsReadWhole : Type 0
EachRightTextIsReadWhole = (rows : List Row) (lines : List Ended) (last : List ℕ) (s : Scenario) → All IsEnded lines → HasNoLf last
    → AreRight (beginning rows) (all_lines lines last) s → script_of rows (whole_text lines last) ≡ Ok (script_from s, s.rows)

-- a text of right lines, which add up to a scenario
pub record IsRightText (rows : List Row) (text : List ℕ) (s : Scenario) : Type 0 where
  pub lines : List Ended
  pub last : List ℕ
  pub ended : All IsEnded lines
  pub rest : HasNoLf last
  pub text_is : text ≡ whole_text lines last
  pub right : AreRight (beginning rows) (all_lines lines last) s

abbrev pub EachTextThatIsReadIsRight : Type 0
EachTextThatIsReadIsRight = (rows : List Row) (text : List ℕ) (script : Script) (after : List Row) → script_of rows text ≡ Ok (script, after)
    → (s : Scenario) × IsRightText rows text s × (script ≡ script_from s) × (after ≡ s.rows)

-- the line of a number is wrong, for this cause first, and each line before it is right
pub record IsFirstWrong (s : Scenario) (lines : List (List ℕ)) (first number : ℕ) (why : ScriptWhy) : Type 0 where
  pub front : List (List ℕ)
  pub line : List ℕ
  pub behind : List (List ℕ)
  pub before : Scenario
  pub split : lines ≡ front ++ line ∷ behind
  pub place : first + length front ≡ number
  pub right : AreRight s front before
  pub wrong : after_line before line ≡ Err why

abbrev pub EachRefusedLineIsTheFirstWrong : Type 0
EachRefusedLineIsTheFirstWrong = (rows : List Row) (text : List ℕ) (number : ℕ) (why : ScriptWhy) → script_of rows text ≡ Err (refusal.Line number why)
    → IsFirstWrong (beginning rows) (lines_of text) 1 number why
