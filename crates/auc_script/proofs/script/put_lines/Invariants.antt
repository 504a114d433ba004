use Rattle.std.proofs.Common.{◌≡◌, ◌≤◌, ◌+◌, length}
use Rattle.std.specs.Option.{option_copied}
use Rattle.auc_script.specs.declared.form.Form.TheVariants as forms
use Rattle.auc_script.specs.InnerSoFar.{IsSoFar, scenario}
use Rattle.auc_script.proofs.ReadingLemmas.{ReadSoFar, steps_left}
use Rattle.auc_script.proofs.script.put_lines.Given as goal

abbrev pub invariant-loop-rest : goal.invariant-loop-rest
invariant-loop-rest l = record {
  read : ReadSoFar (scenario l.initial.subs l.initial.so_far) l.bytes (option_copied l.rest) l.number (scenario l.subs l.so_far);
  kept : IsSoFar l.subs l.so_far;
  block : l.initial.so_far.form ≡ forms.Block → (l.subs ≡ l.initial.subs) × (l.so_far.form ≡ forms.Block);
  room : l.number + steps_left (option_copied l.rest) ≤ length l.bytes + 2;
}

abbrev pub decreases-loop-rest : goal.decreases-loop-rest
decreases-loop-rest l = steps_left (option_copied l.rest)
