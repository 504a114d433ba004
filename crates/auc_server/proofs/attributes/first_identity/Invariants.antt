use Rattle.std.proofs.Common.{◌≡◌, drop}
use Rattle.auc_attr.specs.First.{first_value}
use Rattle.auc_server.specs.Attributes.{identity_of}
use Rattle.auc_server.proofs.attributes.first_identity.Given as goal

abbrev pub invariant-loop-attr : goal.invariant-loop-attr
invariant-loop-attr l = first_value identity_of (drop l.attr-index l.attr-items) ≡ first_value identity_of l.attrs
