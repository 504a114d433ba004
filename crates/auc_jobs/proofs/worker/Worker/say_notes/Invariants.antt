use Rattle.std.proofs.Common.{◌≡◌, ◌++◌, length, reverse}
use Rattle.auc_jobs.specs.InnerSim.{said_lines}
use Rattle.auc_jobs.specs.InnerWorker.{GoesOnBeside, WorkerServes}
use Rattle.auc_jobs.proofs.worker.Worker.say_notes.Given as goal

abbrev pub invariant-loop-note : goal.invariant-loop-note
invariant-loop-note g l = record {
  same : GoesOnBeside (g.C.Centre.name l.fn.self.centre) (g.C.Centre.name l.self.centre) l.fn.self l.self;
  said : WorkerServes g.C.Centre.kept g.C.Centre.goes l.fn.self l.self (λ before lines. lines ++ said_lines l.sub (reverse l.left) ≡ said_lines l.sub l.fn.notes);
}

abbrev pub decreases-loop-note : goal.decreases-loop-note
decreases-loop-note g l = length l.left
