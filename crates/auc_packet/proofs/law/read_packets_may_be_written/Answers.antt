use Rattle.auc_packet.proofs.LawLemmas.{read_may_be_written}
use Rattle.auc_packet.proofs.law.read_packets_may_be_written.Goals as goal

pub returns : goal.returns
returns c = read_may_be_written
