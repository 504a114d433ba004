use Rattle.std.proofs.Common.{◌≡◌, drop}
use Rattle.auc_sim_packet.specs.Attributes.{first_value, code_of}
use Rattle.auc_sim_packet.proofs.values.code_in.Given as goal

abbrev pub invariant-loop-attr : goal.invariant-loop-attr
invariant-loop-attr l = first_value code_of (drop l.attr-index l.attr-items) ≡ first_value code_of l.list
