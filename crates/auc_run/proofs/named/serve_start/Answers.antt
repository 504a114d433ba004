use Rattle.auc_run.proofs.NamedLemmas.{not_served}
use Rattle.auc_run.proofs.named.serve_start.Goals as goal

pub returns-in-Ok : goal.returns-in-Ok
returns-in-Ok g c = c.serve_own.ensures c.args.jobs.now c.in-Ok.ensures.named

pub returns-in-Err : goal.returns-in-Err
returns-in-Err g c =
    let laws = g.met.D.Disk g.world.𝓛 g.world.𝓜 g.world.𝓡 ((λ s x. x), (λ x. x), (λ x. x), λ x. x) in
    not_served g.D.Disk.seen g.D.Disk.may_leave g.D.Disk.faults g.D.Disk.moment g.D.Disk.left_since laws.only_now c.args.options.now.set c.args.options.now.full c.args.jobs.now c.args.start.number c.args.start.state c.args.start.journal c.in-Err.error
