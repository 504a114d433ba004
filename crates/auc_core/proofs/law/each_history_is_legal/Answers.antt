-- The law is a lemma on runs.
use Rattle.auc_core.proofs.RunLemmas.{each_history_is_legal}
use Rattle.auc_core.proofs.law.each_history_is_legal.Goals as goal

pub returns : goal.returns
returns c = each_history_is_legal
