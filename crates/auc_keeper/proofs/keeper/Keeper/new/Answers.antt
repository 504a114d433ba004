use Rattle.auc_keeper.proofs.KeeperLemmas.{new_since}
use Rattle.auc_keeper.proofs.keeper.Keeper.new.Goals as goal

pub returns-clause-since : goal.returns-clause-since
returns-clause-since g c = new_since g.D.Disk.seen g.D.Disk.may_leave g.D.Disk.faults g.D.Disk.moment g.D.Disk.left_since g.met.D.Disk.only_now c.args.journal c.args.pass c.requires.limits c.requires.ready c.requires.running
