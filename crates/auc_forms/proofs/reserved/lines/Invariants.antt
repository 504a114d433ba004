use Rattle.std.proofs.Common.{◌≡◌, take}
use Rattle.std.specs.Prelude.{flat_map}
use Rattle.auc_forms.specs.Reserved.{limit_line}
use Rattle.auc_forms.proofs.reserved.lines.Given as goal

abbrev pub invariant-loop-limit : goal.invariant-loop-limit
invariant-loop-limit l = l.text ≡ flat_map limit_line (take l.limit-index l.limits)
