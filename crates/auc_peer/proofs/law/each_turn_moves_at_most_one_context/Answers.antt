use Rattle.auc_peer.proofs.PlaceLemmas.{each_turn_moves_once}
use Rattle.auc_peer.proofs.law.each_turn_moves_at_most_one_context.Goals as goal

pub returns : goal.returns
returns c = each_turn_moves_once
