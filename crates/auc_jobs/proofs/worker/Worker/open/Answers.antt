use Rattle.std.proofs.Common.{List, subst}
use Rattle.std.specs.Prelude.{OnOk}
use Rattle.auc_world.specs.Given.{Before, EventGives}
use Rattle.auc_record.specs.declared.event.Event.{Event}
use Rattle.auc_record.specs.declared.record.LineRecord.{LineRecord}
use Rattle.auc_jobs.specs.InnerWorker.{WorkerServes}
use Rattle.auc_jobs.proofs.worker.Worker.open.Goals as goal

pub returns-clause-opened : goal.returns-clause-opened
returns-clause-opened g c =
    subst (λ (e : Event). OnOk c.happen_alone.result (WorkerServes g.C.Centre.kept g.C.Centre.goes c.args.self.now c.happen_alone.new.self
    (λ (before : Before) (lines : List LineRecord). EventGives c.args.self.now.set before c.args.self.now.world.net e lines c.happen_alone.new.self.world.net)))
    c.in_ok-event.ensures c.happen_alone.ensures.happened
