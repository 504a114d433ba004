use Rattle.std.proofs.Common.{◌≡◌, drop}
use Rattle.auc_sim_packet.specs.Attributes.{first_value, identity_of}
use Rattle.auc_sim_packet.proofs.values.identity_in.Given as goal

abbrev pub invariant-loop-attr : goal.invariant-loop-attr
invariant-loop-attr l = first_value identity_of (drop l.attr-index l.attr-items) ≡ first_value identity_of l.list
