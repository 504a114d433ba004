use Rattle.std.proofs.Common.{List}
use Rattle.auc_world.specs.Given.{Before, EpsGives, FivegGives, GiveGives, SyncGives}
use Rattle.auc_record.specs.Draws.{DrawGives}
use Rattle.auc_world.specs.Sim.{SimGives}
use Rattle.auc_world.specs.Sites.{SitesGives}
use Rattle.auc_record.specs.declared.record.LineRecord.{LineRecord}
use Rattle.auc_jobs.proofs.LineLemmas.{on_ok_map}
use Rattle.auc_jobs.proofs.WorkerLemmas.{goes_on_with, still_serves}
use Rattle.auc_jobs.proofs.worker.Worker.serve_line.Goals as goal

pub returns-in-Draw-clause-served : goal.returns-in-Draw-clause-served
returns-in-Draw-clause-served g c =
    rw c.in-Draw.is (on_ok_map c.draw.result c.draw.ensures.drawn (λ serves.
    still_serves g.C.Centre.kept g.C.Centre.goes c.args.self.now c.draw.new.self (λ (before : Before) (lines : List LineRecord). DrawGives c.args.self.now.set c.in-Draw.sub c.in-Draw.count lines)
    c.draw.ensures.same.net serves))

pub returns-in-Sync-clause-served : goal.returns-in-Sync-clause-served
returns-in-Sync-clause-served g c =
    rw c.in-Sync.is (on_ok_map c.sync.result c.sync.ensures.synced (λ serves.
    still_serves g.C.Centre.kept g.C.Centre.goes c.args.self.now c.sync.new.self
    (λ (before : Before) (lines : List LineRecord). SyncGives c.args.self.now.set c.in-Sync.sub c.in-Sync.report c.in-Sync.count lines) c.sync.ensures.same.net serves))

pub returns-in-Give-clause-served : goal.returns-in-Give-clause-served
returns-in-Give-clause-served g c =
    rw c.in-Give.is (on_ok_map c.give.result c.give.ensures.given (λ serves.
    still_serves g.C.Centre.kept g.C.Centre.goes c.args.self.now c.give.new.self (λ (before : Before) (lines : List LineRecord). GiveGives c.args.self.now.set before c.in-Give.sub c.in-Give.n lines)
    c.give.ensures.same.net serves))

pub returns-in-Eps-clause-served : goal.returns-in-Eps-clause-served
returns-in-Eps-clause-served g c =
    rw c.in-Eps.is (on_ok_map c.eps.result c.eps.ensures.given (λ serves.
    still_serves g.C.Centre.kept g.C.Centre.goes c.args.self.now c.eps.new.self (λ (before : Before) (lines : List LineRecord). EpsGives c.args.self.now.set c.in-Eps.sub c.in-Eps.snid lines)
    c.eps.ensures.same.net serves))

pub returns-in-Fiveg-clause-served : goal.returns-in-Fiveg-clause-served
returns-in-Fiveg-clause-served g c =
    rw c.in-Fiveg.is (on_ok_map c.fiveg.result c.fiveg.ensures.given (λ serves.
    still_serves g.C.Centre.kept g.C.Centre.goes c.args.self.now c.fiveg.new.self (λ (before : Before) (lines : List LineRecord). FivegGives c.args.self.now.set before c.in-Fiveg.line lines)
    c.fiveg.ensures.same.net serves))

pub returns-in-Sites-clause-served : goal.returns-in-Sites-clause-served
returns-in-Sites-clause-served g c =
    rw c.in-Sites.is (on_ok_map c.sites.result c.sites.ensures.given (λ serves.
    still_serves g.C.Centre.kept g.C.Centre.goes c.args.self.now c.sites.new.self (λ (before : Before) (lines : List LineRecord). SitesGives c.args.self.now.set c.in-Sites.line lines)
    c.sites.ensures.same.net serves))

pub returns-in-Sim-clause-served : goal.returns-in-Sim-clause-served
returns-in-Sim-clause-served g c =
    rw c.in-Sim.is (on_ok_map c.sim.result c.sim.ensures.given (λ serves.
    still_serves g.C.Centre.kept g.C.Centre.goes c.args.self.now c.sim.new.self (λ (before : Before) (lines : List LineRecord). SimGives c.args.self.now.set c.in-Sim.line lines)
    c.sim.ensures.same.net serves))

pub returns-in-Draw-clause-same : goal.returns-in-Draw-clause-same
returns-in-Draw-clause-same g c = goes_on_with _ _ _ _ c.draw.ensures.same

pub returns-in-Sync-clause-same : goal.returns-in-Sync-clause-same
returns-in-Sync-clause-same g c = goes_on_with _ _ _ _ c.sync.ensures.same

pub returns-in-Give-clause-same : goal.returns-in-Give-clause-same
returns-in-Give-clause-same g c = goes_on_with _ _ _ _ c.give.ensures.same

pub returns-in-Eps-clause-same : goal.returns-in-Eps-clause-same
returns-in-Eps-clause-same g c = goes_on_with _ _ _ _ c.eps.ensures.same

pub returns-in-Fiveg-clause-same : goal.returns-in-Fiveg-clause-same
returns-in-Fiveg-clause-same g c = goes_on_with _ _ _ _ c.fiveg.ensures.same

pub returns-in-Sites-clause-same : goal.returns-in-Sites-clause-same
returns-in-Sites-clause-same g c = goes_on_with _ _ _ _ c.sites.ensures.same

pub returns-in-Sim-clause-same : goal.returns-in-Sim-clause-same
returns-in-Sim-clause-same g c = goes_on_with _ _ _ _ c.sim.ensures.same

pub returns-in-Session-clause-served : goal.returns-in-Session-clause-served
returns-in-Session-clause-served g c = rw c.in-Session.is c.open.ensures.opened

pub returns-in-Start-clause-served : goal.returns-in-Start-clause-served
returns-in-Start-clause-served g c = rw c.in-Start.is c.happen_alone.ensures.happened

pub returns-in-Deliver-clause-served : goal.returns-in-Deliver-clause-served
returns-in-Deliver-clause-served g c = rw c.in-Deliver.is c.happen_alone-in-Deliver.ensures.happened

pub returns-in-Repeat-clause-served : goal.returns-in-Repeat-clause-served
returns-in-Repeat-clause-served g c = rw c.in-Repeat.is c.happen_alone-in-Repeat.ensures.happened

pub returns-in-GiveUp-clause-served : goal.returns-in-GiveUp-clause-served
returns-in-GiveUp-clause-served g c = rw c.in-GiveUp.is c.happen_alone-in-GiveUp.ensures.happened

pub returns-in-Plain-clause-served : goal.returns-in-Plain-clause-served
returns-in-Plain-clause-served g c = rw c.in-Plain.is c.play.ensures.played

pub returns-in-Tamper-clause-served : goal.returns-in-Tamper-clause-served
returns-in-Tamper-clause-served g c = rw c.in-Tamper.is c.happen_alone-in-Tamper.ensures.happened

pub returns-in-Cut-clause-served : goal.returns-in-Cut-clause-served
returns-in-Cut-clause-served g c = rw c.in-Cut.is c.happen_alone-in-Cut.ensures.happened
