-- How far a reading has come, for `Script::read`, and what it then answers.
use Rattle.std.proofs.Common.{ℕ, ◌≡◌, ◌<◌, ◌+◌, ◌-◌, List, ◌++◌, ◌∷◌, [], length, Option, Some, None, Result, Ok, Err, arith, refl, sym, ◌∙◌, ap, Bor, IfSome, MatchOption}
use Rattle.std.specs.Option.{option_copied}
use Rattle.std.proofs.lemmas.List.{append_assoc, length-append, take_at}
use Rattle.auc_subs.specs.declared.row.Row.{Row}
use Rattle.auc_script.specs.declared.refusal.ScriptRefusal.TheVariants as refusal
use Rattle.auc_reading.specs.declared.refusal.ScriptWhy.{ScriptWhy}
use Rattle.auc_reading.specs.declared.refusal.LineRefusal.{LineRefusal}
use Rattle.auc_reading.specs.declared.refusal.LineRefusal.TheVariants as of
use Rattle.auc_script.specs.InnerRefusal.{Becomes, refusal_at}
use Rattle.auc_script.specs.Scenario.{Scenario, after_line}
use Rattle.auc_text.specs.Text.{lines_of}
use Rattle.auc_script.specs.Reading.{AreAfter, AreRight, Keeps, after, read_lines}

-- the lines that are left to read
abbrev pub lines_left : Option (List ℕ) → List (List ℕ)
lines_left None = []
lines_left (Some text) = lines_of text

-- how many steps are left at most
abbrev pub steps_left : Option (List ℕ) → ℕ
steps_left None = 0
steps_left (Some text) = length text + 1

-- the lines in front of those that are left are right, and lead to a scenario
pub record ReadSoFar (from : Scenario) (text : List ℕ) (rest : Option (List ℕ)) (number : ℕ) (now : Scenario) : Type 0 where
  pub front : List (List ℕ)
  pub split : lines_of text ≡ front ++ lines_left rest
  pub right : AreRight from front now
  pub place : length front + 1 ≡ number

-- no line is read yet
pub nothing_read : (from : Scenario) (text : List ℕ) → ReadSoFar from text (Some text) 1 from
nothing_read from text = record { front = []; split = refl; right = refl; place = omega arith }

-- one more right line
right_more : (s : Scenario) (front : List (List ℕ)) (t : Scenario) (line : List ℕ) (u : Scenario) → AreRight s front t → after_line t line ≡ Ok u → AreRight s (front ++ line ∷ []) u
right_more s [] t line u same next = (u, rw same next, refl)
right_more s (x ∷ front) t line u h next = (h.0, h.1, right_more h.0 front t line u h.2 next)

-- right lines are read, whatever stands behind them
pub read_on : (number : ℕ) (s : Scenario) (front : List (List ℕ)) (t : Scenario) (rest : List (List ℕ)) → AreRight s front t → read_lines number s (front ++ rest) ≡ read_lines (number + length front) t rest
read_on number s [] t rest same = rw same (ap (λ n. read_lines n t rest) (omega arith))
read_on number s (x ∷ front) t rest h =
    rw h.1 (read_on (number + 1) h.0 front t rest h.2 ∙ ap (λ n. read_lines n t rest) (omega arith))

-- a wrong line is refused by its number
stop : (number : ℕ) (s : Scenario) (line : List ℕ) (rest : List (List ℕ)) (why : ScriptWhy) → after_line s line ≡ Err why → read_lines number s (line ∷ rest) ≡ Err (refusal.Line number why)
stop number s line rest why wrong = rw wrong refl

-- a wrong line behind right ones is refused by its number
pub refuses : (from : Scenario) (text : List ℕ) (rest : Option (List ℕ)) (line : List ℕ) (behind : List (List ℕ)) (number : ℕ) (now : Scenario) (why : ScriptWhy) → ReadSoFar from text rest number now
    → lines_left rest ≡ line ∷ behind → after_line now line ≡ Err why → read_lines 1 from (lines_of text) ≡ Err (refusal.Line number why)
refuses from text rest line behind number now why so_far cut wrong =
    rw (so_far.split, read_on 1 from so_far.front now (lines_left rest) so_far.right, cut, stop (1 + length so_far.front) now line behind why wrong)
    (ap (λ n. Err (refusal.Line n why)) (omega (arith, so_far.place)))

-- right lines with nothing behind them are read whole
pub reads_whole : (from : Scenario) (text : List ℕ) (number : ℕ) (now : Scenario) → ReadSoFar from text None number now → read_lines 1 from (lines_of text) ≡ Ok now
reads_whole from text number now so_far = rw (so_far.split, read_on 1 from so_far.front now [] so_far.right) refl

-- the rows so far are those after the lines in front
pub after_front : (from : Scenario) (text : List ℕ) (rest : Option (List ℕ)) (number : ℕ) (now : Scenario) → ReadSoFar from text rest number now → AreAfter from text (number - 1) now.rows
after_front from text rest number now so_far =
    (now, rw (so_far.split, take_at so_far.front (lines_left rest) (number - 1) (omega (arith, so_far.place))) so_far.right, refl)

-- one more right line
pub so_far_more : (from : Scenario) (text : List ℕ) (rest : Option (List ℕ)) (line : List ℕ) (behind : Option (List ℕ)) (number : ℕ) (now next : Scenario) → ReadSoFar from text rest number now
    → lines_left rest ≡ line ∷ lines_left behind → after_line now line ≡ Ok next → ReadSoFar from text behind (number + 1) next
so_far_more from text rest line behind number now next so_far cut right = record {
  front = so_far.front ++ line ∷ [];
  split = so_far.split ∙ rw cut (sym (append_assoc so_far.front (line ∷ []) (lines_left behind)));
  right = right_more from so_far.front now line next so_far.right right;
  place = omega (arith, so_far.place, length-append so_far.front (line ∷ []));
}

-- what a line's refusal says where it makes the scenario's
pub refused_by : (refused : LineRefusal) (expected : Result Scenario ScriptWhy) (new : Scenario) (number line : ℕ) (why : ScriptWhy) → Becomes expected (Err refused) new
    → refusal_at number refused ≡ refusal.Line line why → (expected ≡ Err why) × (line ≡ number)
refused_by (of.Why w) expected new number line why becomes same =
    let which : w ≡ why = cc in
    (rw (← which) becomes, cc)
refused_by of.NoMemory expected new number line why becomes same = absurd (apart line why same)
  where
    apart : (line : ℕ) (why : ScriptWhy) → refusal.NoMemory ≡ refusal.Line line why → ⊥
    apart line why same = cc

-- rows after so many lines are what a refusal of the next line keeps
pub keeps : (from : Scenario) (text : List ℕ) (number : ℕ) (refused : LineRefusal) (kept : List Row) → AreAfter from text (number - 1) kept → Keeps from text (refusal_at number refused) kept
keeps from text number (of.Why w) kept after = after
keeps from text number of.NoMemory kept after = (number - 1, after)

-- the lines that are left begin with the next one
pub next_left : (text line : List ℕ) (behind : Option (Bor (List ℕ))) → MatchOption behind (lines_of text ≡ line ∷ []) (λ rest. lines_of text ≡ line ∷ lines_of rest.now)
    → lines_of text ≡ line ∷ lines_left (option_copied behind)
next_left text line None next = next
next_left text line (Some rest) next = next

-- and fewer steps are left behind it
pub next_steps : (text : List ℕ) (behind : Option (Bor (List ℕ))) → IfSome behind (λ rest. length rest.now < length text) → steps_left (option_copied behind) < length text + 1
next_steps text None shorter = omega arith
next_steps text (Some rest) shorter = omega arith
