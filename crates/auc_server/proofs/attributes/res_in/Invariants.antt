use Rattle.std.proofs.Common.{◌≡◌, drop}
use Rattle.auc_attr.specs.First.{first_value}
use Rattle.auc_server.specs.Attributes.{res_of}
use Rattle.auc_server.proofs.attributes.res_in.Given as goal

abbrev pub invariant-loop-attr : goal.invariant-loop-attr
invariant-loop-attr l = first_value res_of (drop l.attr-index l.attr-items) ≡ first_value res_of l.attrs
