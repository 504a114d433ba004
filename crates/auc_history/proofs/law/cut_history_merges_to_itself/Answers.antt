-- The law is a lemma on lists.
use Rattle.auc_history.proofs.CutLemmas.{cut_history_merges_to_itself}
use Rattle.auc_history.proofs.law.cut_history_merges_to_itself.Goals as goal

pub returns : goal.returns
returns c = cut_history_merges_to_itself
