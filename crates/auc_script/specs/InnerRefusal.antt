-- Inner facts: what only private contracts of this crate cite. How one line is taken or refused, and what
-- its refusal makes of the scenario's.
use Rattle.std.specs.Prelude.{ℕ, ◌≡◌, Result, Ok, Err}
use Rattle.auc_reading.specs.declared.refusal.LineRefusal.{LineRefusal}
use Rattle.auc_reading.specs.declared.refusal.LineRefusal.TheVariants as line
use Rattle.auc_reading.specs.declared.refusal.ScriptWhy.{ScriptWhy}
use Rattle.auc_script.specs.declared.refusal.ScriptRefusal.{ScriptRefusal}
use Rattle.auc_script.specs.declared.refusal.ScriptRefusal.TheVariants as refusal

-- what the refusal of the line of a number makes of the scenario's
abbrev pub refusal_at : ℕ → LineRefusal → ScriptRefusal
refusal_at number (line.Why why) = refusal.Line number why
refusal_at number line.NoMemory = refusal.NoMemory

-- how a line was taken: what should be after it, the answer, and what is after it
abbrev pub Becomes : {A : Type 0} → Result A ScriptWhy → Result (Unit {0}) LineRefusal → A → Type 0
Becomes expected (Ok done) new = expected ≡ Ok new
Becomes expected (Err (line.Why why)) new = expected ≡ Err why
Becomes expected (Err line.NoMemory) new = Unit {0}
