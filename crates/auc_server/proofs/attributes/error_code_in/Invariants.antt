use Rattle.std.proofs.Common.{◌≡◌, drop}
use Rattle.auc_attr.specs.First.{first_value}
use Rattle.auc_server.specs.Attributes.{error_code_of}
use Rattle.auc_server.proofs.attributes.error_code_in.Given as goal

abbrev pub invariant-loop-attr : goal.invariant-loop-attr
invariant-loop-attr l = first_value error_code_of (drop l.attr-index l.attr-items) ≡ first_value error_code_of l.attrs
