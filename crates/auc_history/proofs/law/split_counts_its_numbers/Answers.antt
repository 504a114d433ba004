-- The law is a lemma on lists.
use Rattle.auc_history.proofs.SplitLemmas.{split_counts_its_numbers}
use Rattle.auc_history.proofs.law.split_counts_its_numbers.Goals as goal

pub returns : goal.returns
returns c = split_counts_its_numbers
