use Rattle.std.proofs.Common.{sym, subst}
use Rattle.auc_draw.specs.Values.{KeeperValue}
use Rattle.auc_keeper.specs.Keeper.{Since}
use Rattle.auc_keeper.proofs.KeeperLemmas.{looked_since}
use Rattle.auc_keeper.proofs.keeper.Keeper.look.Goals as goal

pub returns-clause-since : goal.returns-clause-since
returns-clause-since g c = rw (← c.self.view_is)
    (λ opening was.
    subst (λ (p : KeeperValue). Since g.D.Disk.seen g.D.Disk.may_leave g.D.Disk.faults g.D.Disk.moment g.D.Disk.left_since opening (record { journal = c.self.inside.journal; pass = p })) (sym c.look.ensures.looked)
    (looked_since g.D.Disk.seen g.D.Disk.may_leave g.D.Disk.faults g.D.Disk.moment g.D.Disk.left_since opening (record { journal = c.self.inside.journal; pass = c.self.inside.pass }) c.args.sub c.look.result c.look.ensures.rises was))
