-- The law is a lemma on AUTS.
use Rattle.auc_vector.proofs.AutsLemmas.{auts_is_read_back}
use Rattle.auc_vector.proofs.law.each_auts_is_read_back.Goals as goal

pub returns : goal.returns
returns c = auts_is_read_back
