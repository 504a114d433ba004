use Rattle.std.proofs.Common.{◌≡◌, drop}
use Rattle.auc_request.specs.Request.{autn_of}
use Rattle.auc_request.specs.Request.{first_value}
use Rattle.auc_request.proofs.values.autn_in.Given as goal

abbrev pub invariant-loop-attr : goal.invariant-loop-attr
invariant-loop-attr l = first_value autn_of (drop l.attr-index l.list) ≡ first_value autn_of l.list
