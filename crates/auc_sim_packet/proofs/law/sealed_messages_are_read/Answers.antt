use Rattle.auc_sim_packet.proofs.SealedLemmas.{sealed_is_read}
use Rattle.auc_sim_packet.proofs.law.sealed_messages_are_read.Goals as goal

pub returns : goal.returns
returns c = sealed_is_read
