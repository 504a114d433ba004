use Rattle.auc_peer.proofs.PlaceLemmas.{each_turn_leaves_the_other}
use Rattle.auc_peer.proofs.law.each_turn_leaves_the_other_method.Goals as goal

pub returns : goal.returns
returns c = each_turn_leaves_the_other
