use Rattle.std.proofs.Common.{drop, length}
use Rattle.auc_sim_packet.specs.Spelling.{spelling}
use Rattle.auc_sim_packet.proofs.MayLemmas.{IsLeft}
use Rattle.auc_sim_packet.proofs.may_write.are_short.Given as goal

abbrev pub invariant-loop-attr : goal.invariant-loop-attr
invariant-loop-attr l = IsLeft l.most l.left (drop l.attr-index l.attr-items) (length (spelling l.attrs))
