-- The law is a lemma on chains.
use Rattle.auc_run.proofs.ChainLemmas.{chain_above}
use Rattle.auc_run.proofs.law.no_later_run_draws_a_number_again.Goals as goal

pub returns : goal.returns
returns c = chain_above
