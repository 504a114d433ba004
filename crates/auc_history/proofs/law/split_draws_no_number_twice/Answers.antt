-- The law is a lemma on lists.
use Rattle.auc_history.proofs.SplitLemmas.{split_draws_no_number_twice}
use Rattle.auc_history.proofs.law.split_draws_no_number_twice.Goals as goal

pub returns : goal.returns
returns c = split_draws_no_number_twice
