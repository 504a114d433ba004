use Rattle.auc_sim_packet.proofs.PacketLemmas.{refused_is_no_packet}
use Rattle.auc_sim_packet.proofs.law.refused_bytes_are_no_packet.Goals as goal

pub returns : goal.returns
returns c = refused_is_no_packet
