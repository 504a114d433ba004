use Rattle.std.proofs.Common.{◌≡◌, drop}
use Rattle.auc_request.specs.Request.{name_in}
use Rattle.auc_request.proofs.values.name_in.Given as goal

abbrev pub invariant-loop-attr : goal.invariant-loop-attr
invariant-loop-attr l = name_in (drop l.attr-index l.list) ≡ name_in l.list
