-- The law is a lemma on chains.
use Rattle.auc_run.proofs.ChainLemmas.{cut_chained, other_chained, served_chained, service_chained}
use Rattle.auc_run.proofs.law.each_run_is_one_of_a_chain.Goals as goal

pub returns-clause-served : goal.returns-clause-served
returns-clause-served g c = served_chained g.D.Disk.seen g.D.Disk.may_leave g.D.Disk.moment g.D.Disk.left_since

pub returns-clause-other : goal.returns-clause-other
returns-clause-other g c = other_chained g.D.Disk.seen g.D.Disk.may_leave

pub returns-clause-cut : goal.returns-clause-cut
returns-clause-cut g c = cut_chained g.D.Disk.seen g.D.Disk.may_leave g.D.Disk.moment g.D.Disk.left_since

pub returns-clause-service : goal.returns-clause-service
returns-clause-service g c = service_chained g.D.Disk.seen g.D.Disk.may_leave g.D.Disk.moment g.D.Disk.left_since
