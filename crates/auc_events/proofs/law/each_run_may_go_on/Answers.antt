-- The law is a lemma on runs.
use Rattle.auc_events.proofs.GoingLemmas.{each_run_may_go_on}
use Rattle.auc_events.proofs.law.each_run_may_go_on.Goals as goal

pub returns : goal.returns
returns c = each_run_may_go_on
