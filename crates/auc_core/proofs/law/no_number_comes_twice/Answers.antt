-- The law is a lemma on runs.
use Rattle.auc_core.proofs.RunLemmas.{no_number_comes_twice}
use Rattle.auc_core.proofs.law.no_number_comes_twice.Goals as goal

pub returns : goal.returns
returns c = no_number_comes_twice
