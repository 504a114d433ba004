use Rattle.std.proofs.Common.{rules}
use Rattle.auc_jobs.proofs.CollectLemmas.{collected_more, turned}
use Rattle.auc_jobs.proofs.workers.collect.Goals as goal

pub loop-own-preserved : goal.loop-own-preserved
loop-own-preserved c = (
  collected_more _ _ _ _ _ _ c.loop-own.invariant.0 c.in_ok-push.ensures.items c.in_ok-append.ensures.items (search rules),
  turned c.loop-own.yielded c.loop-own.own-iterator.rest.items c.next.new.self.rest.items c.args.all.items c.in-Some.own c.loop-own.invariant.1 c.in-Some.ensures.steps.0,
)
