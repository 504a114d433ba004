use Rattle.std.proofs.Common.{◌≡◌, ◌-◌, [], All, length}
use Rattle.auc_sites.specs.Drawing.{entries_of}
use Rattle.auc_jobs.specs.InnerSim.{IsNumber}
use Rattle.auc_jobs.specs.InnerWorker.{GoesOnBeside, WorkerServes}
use Rattle.auc_jobs.proofs.SiteLemmas.{LeaseGoesOn}
use Rattle.auc_jobs.proofs.worker.Worker.lease.Given as goal

abbrev pub invariant-loop : goal.invariant-loop
invariant-loop g l = record {
  same : GoesOnBeside (g.C.Centre.name l.fn.self.centre) (g.C.Centre.name l.self.centre) l.fn.self l.self;
  count : length l.lease ≡ l.counter;
  own : g.C.Centre.goes l.fn.self.centre l.sub (entries_of l.lease) [] l.self.centre;
  numbers : All (IsNumber l.fn.self.set.rows l.sub) l.lease;
  drawn : WorkerServes g.C.Centre.kept g.C.Centre.goes l.fn.self l.self (λ before. LeaseGoesOn l.fn.self.set l.sub (l.size - l.counter) l.size l.lease);
}
