use Rattle.auc_peer.proofs.PlaceLemmas.{each_turn_is_of_method}
use Rattle.auc_peer.proofs.law.each_turn_keeps_contexts_of_the_method.Goals as goal

pub returns : goal.returns
returns c = each_turn_is_of_method
