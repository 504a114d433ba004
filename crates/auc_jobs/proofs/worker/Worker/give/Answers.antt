use Rattle.auc_world.specs.Given.{GiveGives}
use Rattle.auc_jobs.specs.InnerServing.{GivesVerdict}
use Rattle.auc_jobs.specs.InnerUsims.{verdict_by}
use Rattle.auc_jobs.proofs.WorkerLemmas.{also_serves}
use Rattle.auc_jobs.proofs.worker.Worker.give.Goals as goal

pub returns-clause-given : goal.returns-clause-given
returns-clause-given g c =
    also_serves g.C.Centre.kept g.C.Centre.goes c.args.self.now c.presented.new.self (λ before. GivesVerdict c.args.self.now.set before c.args.sub c.args.n (verdict_by c.in_ok-presented.field-0))
    (λ before. GiveGives c.args.self.now.set before c.args.sub c.args.n) (λ before lines given. given.gives) c.in_ok-presented.ensures.given
