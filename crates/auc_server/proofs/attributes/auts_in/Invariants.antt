use Rattle.std.proofs.Common.{◌≡◌, drop}
use Rattle.auc_attr.specs.First.{first_value}
use Rattle.auc_server.specs.Attributes.{auts_of}
use Rattle.auc_server.proofs.attributes.auts_in.Given as goal

abbrev pub invariant-loop-attr : goal.invariant-loop-attr
invariant-loop-attr l = first_value auts_of (drop l.attr-index l.attr-items) ≡ first_value auts_of l.attrs
