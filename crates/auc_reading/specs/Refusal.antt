-- How a line that may lack memory is read.
use Rattle.std.specs.Prelude.{◌≡◌, Result, Ok, Err}
use Rattle.auc_reading.specs.declared.refusal.LineRefusal.{LineRefusal}
use Rattle.auc_reading.specs.declared.refusal.LineRefusal.TheVariants as line
use Rattle.auc_reading.specs.declared.refusal.ScriptWhy.{ScriptWhy}

-- how a part of a line was read: what it should say, and what was read
abbrev pub Says : {A : Type 0} → Result A ScriptWhy → Result A LineRefusal → Type 0
Says expected (Ok part) = expected ≡ Ok part
Says expected (Err (line.Why why)) = expected ≡ Err why
Says expected (Err line.NoMemory) = Unit {0}
