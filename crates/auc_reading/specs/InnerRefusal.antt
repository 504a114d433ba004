-- Inner facts: what only private contracts of this crate cite.
use Rattle.std.specs.Prelude.{Result, Ok, Err}
use Rattle.auc_reading.specs.declared.refusal.LineRefusal.{LineRefusal}
use Rattle.auc_reading.specs.declared.refusal.LineRefusal.TheVariants as line
use Rattle.auc_reading.specs.declared.refusal.ScriptWhy.{ScriptWhy}

-- what was read without memory, where memory may lack
abbrev pub as_said : {A : Type 0} → Result A ScriptWhy → Result A LineRefusal
as_said (Ok part) = Ok part
as_said (Err why) = Err (line.Why why)
