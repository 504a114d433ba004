use Rattle.auc_named.proofs.RenumberLemmas.{turns_on}
use Rattle.auc_named.proofs.of_all.job_of_all.Goals as goal

pub loop-line-preserved : goal.loop-line-preserved
loop-line-preserved c = turns_on _ _ _ _ _ _ _ _ _ c.loop-line.invariant c.in-Some.ensures.popped c.record_of_all.ensures c.in_ok-push.ensures.pushed
