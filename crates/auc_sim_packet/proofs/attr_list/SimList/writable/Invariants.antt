use Rattle.std.proofs.Common.{drop}
use Rattle.auc_sim_packet.specs.Spelling.{writable}
use Rattle.auc_sim_packet.proofs.MayLemmas.{IsJudgedTo}
use Rattle.auc_sim_packet.proofs.attr_list.SimList.writable.Given as goal

abbrev pub invariant-loop-attr : goal.invariant-loop-attr
invariant-loop-attr l = IsJudgedTo l.seen (drop l.attr-index l.attr-items) (writable l.self)
