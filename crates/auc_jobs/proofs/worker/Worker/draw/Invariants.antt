use Rattle.std.proofs.Common.{◌-◌}
use Rattle.auc_jobs.specs.InnerWorker.{GoesOnBeside, WorkerServes}
use Rattle.auc_jobs.proofs.DrawingLemmas.{GoesOn}
use Rattle.auc_jobs.proofs.worker.Worker.draw.Given as goal

abbrev pub invariant-loop : goal.invariant-loop
invariant-loop g l = record {
  same : GoesOnBeside (g.C.Centre.name l.fn.self.centre) (g.C.Centre.name l.self.centre) l.fn.self l.self;
  drawn : WorkerServes g.C.Centre.kept g.C.Centre.goes l.fn.self l.self (λ before. GoesOn l.fn.self.set l.sub (l.count - l.counter) l.count);
}
