-- The law is a lemma on jobs.
use Rattle.auc_events.proofs.HeldLemmas.{each_job_holds_its_subscribers}
use Rattle.auc_events.proofs.law.each_job_holds_its_subscribers.Goals as goal

pub returns : goal.returns
returns c = each_job_holds_its_subscribers
