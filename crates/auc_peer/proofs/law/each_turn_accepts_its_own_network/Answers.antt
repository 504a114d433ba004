use Rattle.auc_peer.proofs.NameLemmas.{each_turn_is_named}
use Rattle.auc_peer.proofs.law.each_turn_accepts_its_own_network.Goals as goal

pub returns : goal.returns
returns c = each_turn_is_named
