-- The law is a lemma on lists.
use Rattle.auc_history.proofs.RecutLemmas.{recut_split_is_a_split}
use Rattle.auc_history.proofs.law.recut_split_is_a_split.Goals as goal

pub returns : goal.returns
returns c = recut_split_is_a_split
