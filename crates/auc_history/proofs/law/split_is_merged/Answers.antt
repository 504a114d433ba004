-- The law is a lemma on lists.
use Rattle.auc_history.proofs.MergeLemmas.{split_is_merged}
use Rattle.auc_history.proofs.law.split_is_merged.Goals as goal

pub returns : goal.returns
returns c = split_is_merged
