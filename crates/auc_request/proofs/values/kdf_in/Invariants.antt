use Rattle.std.proofs.Common.{◌≡◌, drop}
use Rattle.auc_request.specs.Request.{first_kdf}
use Rattle.auc_request.proofs.values.kdf_in.Given as goal

abbrev pub invariant-loop-attr : goal.invariant-loop-attr
invariant-loop-attr l = first_kdf (drop l.attr-index l.list) ≡ first_kdf l.list
