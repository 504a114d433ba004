use Rattle.auc_peer.proofs.MoveLemmas.{each_turn_moves}
use Rattle.auc_peer.proofs.law.each_turn_keeps_what_keys_are_made_from.Goals as goal

pub returns : goal.returns
returns c = each_turn_moves
