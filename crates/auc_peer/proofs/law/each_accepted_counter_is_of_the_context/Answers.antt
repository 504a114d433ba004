use Rattle.auc_peer.proofs.AdoptLemmas.{accepted_is_of_the_context}
use Rattle.auc_peer.proofs.law.each_accepted_counter_is_of_the_context.Goals as goal

pub returns : goal.returns
returns c = accepted_is_of_the_context
