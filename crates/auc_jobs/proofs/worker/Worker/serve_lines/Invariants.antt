use Rattle.auc_jobs.specs.InnerUsims.{has_usim, usim_of}
use Rattle.std.proofs.Common.{◌≡◌, ℕ, List, drop}
use Rattle.auc_world.specs.World.{AreOfSame}
use Rattle.auc_record.specs.declared.record.LineRecord.{LineRecord}
use Rattle.auc_jobs.specs.InnerWorker.{WorkerStands}
use Rattle.auc_jobs.proofs.JobLemmas.{ServingLines}
use Rattle.auc_jobs.proofs.worker.Worker.serve_lines.Given as goal

abbrev pub invariant-loop-line : goal.invariant-loop-line
invariant-loop-line g l = record {
  name : g.C.Centre.name l.self.centre ≡ g.C.Centre.name l.fn.self.centre;
  lent : l.self.lent ≡ l.fn.self.lent;
  set : l.self.set ≡ l.fn.self.set;
  released : l.self.released ≡ l.fn.self.released;
  keyed : (sub : ℕ) → has_usim (usim_of l.self.set.rows l.self.world) sub ≡ has_usim (usim_of l.fn.self.set.rows l.fn.self.world) sub;
  homes : AreOfSame l.fn.self.world.net.homes l.self.world.net.homes;
  devices : l.self.world.net.devices ≡ l.fn.self.world.net.devices;
  serving : (early : List LineRecord) (beside : List LineRecord) → WorkerStands g.C.Centre.kept early beside l.fn.self
      → ServingLines (λ i es ws. g.C.Centre.goes l.fn.self.centre i es ws l.self.centre) l.fn.self.set early beside (g.C.Centre.kept l.self.centre) l.fn.self.released (usim_of l.fn.self.set.rows l.self.world)
      l.fn.self.world.net (drop l.line-index l.job) l.job l.self.lines l.self.world.net;
}
