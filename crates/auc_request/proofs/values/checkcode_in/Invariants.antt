use Rattle.std.proofs.Common.{◌≡◌, drop}
use Rattle.auc_request.specs.Request.{checkcode_of}
use Rattle.auc_request.specs.Request.{first_value}
use Rattle.auc_request.proofs.values.checkcode_in.Given as goal

abbrev pub invariant-loop-attr : goal.invariant-loop-attr
invariant-loop-attr l = first_value checkcode_of (drop l.attr-index l.list) ≡ first_value checkcode_of l.list
