use Rattle.std.proofs.Common.{◌≡◌, drop}
use Rattle.auc_request.specs.Request.{first_code}
use Rattle.auc_request.proofs.values.code_in.Given as goal

abbrev pub invariant-loop-attr : goal.invariant-loop-attr
invariant-loop-attr l = first_code (drop l.attr-index l.list) ≡ first_code l.list
