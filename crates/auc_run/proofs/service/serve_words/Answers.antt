use Rattle.std.proofs.Common.{refl}
use Rattle.auc_run.proofs.AlwaysLemmas.{always_same}
use Rattle.auc_run.proofs.service.serve_words.Goals as goal

pub returns-in_default-clause-always : goal.returns-in_default-clause-always
returns-in_default-clause-always g c =
    let laws = g.met.D.Disk g.world.𝓛 g.world.𝓜 g.world.𝓡 ((λ s x. x), (λ x. x), (λ x. x), λ x. x) in
    always_same g.D.Disk.seen g.D.Disk.may_leave g.D.Disk.moment g.D.Disk.left_since laws.only_now c.args.disk c.args.disk refl

pub returns-clause-always : goal.returns-clause-always
returns-clause-always g c =
    let laws = g.met.D.Disk g.world.𝓛 g.world.𝓜 g.world.𝓡 ((λ s x. x), (λ x. x), (λ x. x), λ x. x) in
    always_same g.D.Disk.seen g.D.Disk.may_leave g.D.Disk.moment g.D.Disk.left_since laws.only_now c.args.disk c.args.disk refl
