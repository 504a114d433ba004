use Rattle.auc_sim_packet.proofs.ReceivedLemmas.{one_received}
use Rattle.auc_sim_packet.proofs.law.equal_bytes_are_received_alike.Goals as goal

pub returns : goal.returns
returns c = one_received
