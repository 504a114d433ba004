-- The law is a lemma on lists.
use Rattle.auc_history.proofs.SplitLemmas.{cut_history_is_a_split}
use Rattle.auc_history.proofs.law.cut_history_is_a_split.Goals as goal

pub returns : goal.returns
returns c = cut_history_is_a_split
