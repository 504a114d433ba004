use Rattle.auc_packet.proofs.LawLemmas.{one_packet}
use Rattle.auc_packet.proofs.law.bytes_are_one_packet.Goals as goal

pub returns : goal.returns
returns c = one_packet
