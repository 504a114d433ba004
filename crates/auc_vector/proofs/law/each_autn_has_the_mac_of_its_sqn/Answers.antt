-- The law is a lemma on AUTN.
use Rattle.auc_vector.proofs.AutnLemmas.{autn_has_its_mac}
use Rattle.auc_vector.proofs.law.each_autn_has_the_mac_of_its_sqn.Goals as goal

pub returns : goal.returns
returns c = autn_has_its_mac
