use Rattle.std.proofs.Common.{List}
use Rattle.auc_world.specs.Ending.{deliveries_left}
use Rattle.auc_record.specs.declared.record.LineRecord.{LineRecord}
use Rattle.auc_jobs.specs.InnerServing.{ServesLine, before_at}
use Rattle.auc_jobs.specs.InnerUsims.{usim_of}
use Rattle.auc_jobs.specs.InnerWorker.{GoesOnWith, WorkerStands}
use Rattle.auc_jobs.proofs.PlayLemmas.{PlaysOn, if_made}
use Rattle.auc_jobs.proofs.worker.Worker.play.Given as goal

abbrev pub invariant-loop-made : goal.invariant-loop-made
invariant-loop-made g l = record {
  same : GoesOnWith (g.C.Centre.name l.fn.self.centre) (g.C.Centre.name l.self.centre) l.fn.self l.self;
  played : (early : List LineRecord) (beside : List LineRecord) → WorkerStands g.C.Centre.kept early beside l.fn.self
      → ServesLine (λ i es ws. g.C.Centre.goes l.fn.self.centre i es ws l.self.centre) l.fn.self.set.rows (before_at early beside l.fn.self.lines) (g.C.Centre.kept l.self.centre) l.fn.self.released
      (usim_of l.fn.self.set.rows l.self.world) (PlaysOn l.fn.self.set (before_at early beside l.fn.self.lines) l.fn.self.world.net l.session l.self.world.net l.end l.made) l.self.lines;
}

abbrev pub decreases-loop-made : goal.decreases-loop-made
decreases-loop-made g l = if_made l.made (deliveries_left l.self.world.net l.session l.end)
