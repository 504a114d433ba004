use Rattle.std.proofs.Common.{◌≡◌, drop}
use Rattle.auc_sim_packet.specs.Attributes.{first_value, versions_of}
use Rattle.auc_sim_packet.proofs.values.versions_in.Given as goal

abbrev pub invariant-loop-attr : goal.invariant-loop-attr
invariant-loop-attr l = first_value versions_of (drop l.attr-index l.attr-items) ≡ first_value versions_of l.list
