use Rattle.auc_sim_packet.proofs.PacketLemmas.{read_may_be_written}
use Rattle.auc_sim_packet.proofs.law.read_packets_may_be_written.Goals as goal

pub returns : goal.returns
returns c = read_may_be_written
