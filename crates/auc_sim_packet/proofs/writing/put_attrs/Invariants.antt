use Rattle.std.proofs.Common.{drop}
use Rattle.auc_memory.specs.Reserved.{wrote}
use Rattle.auc_sim_packet.specs.Spelling.{spelling}
use Rattle.auc_sim_packet.proofs.WrittenLemmas.{IsPut}
use Rattle.auc_sim_packet.proofs.writing.put_attrs.Given as goal

abbrev pub invariant-loop-attr : goal.invariant-loop-attr
invariant-loop-attr l = IsPut l.room (drop l.attr-index l.attr-items) (wrote l.initial.room (spelling l.attrs))
