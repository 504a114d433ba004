-- The refusal of a scenario or a header, as that of a run.
use Rattle.auc_script.specs.declared.refusal.ScriptRefusal.{ScriptRefusal}
use Rattle.auc_script.specs.declared.refusal.ScriptRefusal.TheVariants as wrong
use Rattle.auc_refusal.specs.declared.refusal.Refusal.{Refusal}
use Rattle.auc_refusal.specs.declared.refusal.Refusal.TheVariants as refused

abbrev pub script_refusal : ScriptRefusal → Refusal
script_refusal (wrong.Line line fault) = refused.Scenario line fault
script_refusal wrong.NoMemory = refused.NoMemory
