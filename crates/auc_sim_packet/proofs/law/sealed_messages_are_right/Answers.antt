use Rattle.auc_sim_packet.proofs.SealedLemmas.{sealed_is_right}
use Rattle.auc_sim_packet.proofs.law.sealed_messages_are_right.Goals as goal

pub returns : goal.returns
returns c = sealed_is_right
