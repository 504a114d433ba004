use Rattle.std.proofs.Common.{◌≡◌, ◌++◌}
use Rattle.auc_jobs.specs.InnerClaims.{AreCollected}
use Rattle.auc_jobs.proofs.workers.collect.Given as goal

abbrev pub invariant-loop-own : goal.invariant-loop-own
invariant-loop-own l = AreCollected l.yielded l.passes.items l.done.items × (l.yielded ++ l.own-iterator.rest.items ≡ l.fn.all.items)
