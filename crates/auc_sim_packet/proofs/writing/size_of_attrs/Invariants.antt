use Rattle.std.proofs.Common.{drop, length}
use Rattle.auc_sim_packet.specs.Spelling.{spelling}
use Rattle.auc_sim_packet.proofs.WrittenLemmas.{IsCountedTo}
use Rattle.auc_sim_packet.proofs.writing.size_of_attrs.Given as goal

abbrev pub invariant-loop-attr : goal.invariant-loop-attr
invariant-loop-attr l = IsCountedTo l.size (drop l.attr-index l.attr-items) (length (spelling l.attrs))
