use Rattle.auc_sim_packet.proofs.PacketLemmas.{one_first_fault}
use Rattle.auc_sim_packet.proofs.law.bytes_have_one_first_fault.Goals as goal

pub returns : goal.returns
returns c = one_first_fault
