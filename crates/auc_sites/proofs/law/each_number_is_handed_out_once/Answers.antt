-- The law is a lemma on turns.
use Rattle.auc_sites.proofs.RunLemmas.{each_number_is_handed_out_once}
use Rattle.auc_sites.proofs.law.each_number_is_handed_out_once.Goals as goal

pub returns : goal.returns
returns c = each_number_is_handed_out_once
