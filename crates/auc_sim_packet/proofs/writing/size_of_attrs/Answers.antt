use Rattle.auc_sim_packet.proofs.WrittenLemmas.{count_begins}
use Rattle.auc_sim_packet.proofs.writing.size_of_attrs.Goals as goal

pub loop-attr-init : goal.loop-attr-init
loop-attr-init c = rw c.as_slice-attr-items.ensures (count_begins c.args.attrs.now c.requires.writable)
