use Rattle.auc_named.proofs.RenumberLemmas.{turns_on}
use Rattle.auc_named.proofs.of_all.jobs_of_all.Goals as goal

pub loop-job-preserved : goal.loop-job-preserved
loop-job-preserved c = turns_on _ _ _ _ _ _ _ _ _ c.loop-job.invariant c.in-Some.ensures.popped c.in_ok-job_of_all.ensures c.in_ok-push.ensures.pushed
