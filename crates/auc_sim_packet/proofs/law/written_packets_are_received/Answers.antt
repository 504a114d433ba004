use Rattle.auc_sim_packet.proofs.ReceivedLemmas.{written_is_received}
use Rattle.auc_sim_packet.proofs.law.written_packets_are_received.Goals as goal

pub returns : goal.returns
returns c = written_is_received
