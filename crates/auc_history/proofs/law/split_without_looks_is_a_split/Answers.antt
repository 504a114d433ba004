-- The law is a lemma on lists.
use Rattle.auc_history.proofs.RecutLemmas.{split_without_looks_is_a_split}
use Rattle.auc_history.proofs.law.split_without_looks_is_a_split.Goals as goal

pub returns : goal.returns
returns c = split_without_looks_is_a_split
