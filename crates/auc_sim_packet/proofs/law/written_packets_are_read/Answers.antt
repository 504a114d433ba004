use Rattle.auc_sim_packet.proofs.PacketLemmas.{written_is_read}
use Rattle.auc_sim_packet.proofs.law.written_packets_are_read.Goals as goal

pub returns : goal.returns
returns c = written_is_read
