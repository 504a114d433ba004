use Rattle.auc_peer.proofs.AdoptLemmas.{each_turn_adopts}
use Rattle.auc_peer.proofs.law.each_turn_adopts_at_success_alone.Goals as goal

pub returns : goal.returns
returns c = each_turn_adopts
