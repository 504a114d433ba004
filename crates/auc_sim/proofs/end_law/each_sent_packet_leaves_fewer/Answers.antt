use Rattle.auc_sim.proofs.FewerLemmas.{turn_fewer}
use Rattle.auc_sim.proofs.end_law.each_sent_packet_leaves_fewer.Goals as goal

pub returns : goal.returns
returns c = λ s seen. turn_fewer s seen
