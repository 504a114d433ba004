use Rattle.std.proofs.Common.{◌≡◌, ◌≤◌, drop, length}
use Rattle.auc_jobs.specs.InnerWorker.{GoesOnBeside}
use Rattle.auc_jobs.proofs.SiteLemmas.{HasServed}
use Rattle.auc_jobs.proofs.worker.Worker.sites.Given as goal

abbrev pub invariant-loop-event : goal.invariant-loop-event
invariant-loop-event g l = record {
  same : GoesOnBeside (g.C.Centre.name l.fn.self.centre) (g.C.Centre.name l.self.centre) l.fn.self l.self;
  sites : length l.net.last ≡ l.line.sites;
  packets : length l.net.packets ≤ l.event-index;
  served : HasServed g.C.Centre.kept g.C.Centre.goes l.fn.self l.self l.line (drop l.event-index l.line.schedule) l.net;
}
