use Rattle.std.proofs.Common.{◌≡◌, drop}
use Rattle.auc_request.specs.Request.{rand_of}
use Rattle.auc_request.specs.Request.{first_value}
use Rattle.auc_request.proofs.values.rand_in.Given as goal

abbrev pub invariant-loop-attr : goal.invariant-loop-attr
invariant-loop-attr l = first_value rand_of (drop l.attr-index l.list) ≡ first_value rand_of l.list
