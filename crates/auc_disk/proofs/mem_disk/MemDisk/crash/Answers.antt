use Rattle.std.proofs.Common.{IfOk, subst}
use Rattle.auc_disk.specs.MemDisk.{DiskState, LeavesNow}
use Rattle.auc_disk.proofs.CrashLemmas.{chosen_leaves}
use Rattle.auc_disk.proofs.mem_disk.MemDisk.crash.Goals as goal

pub returns-clause-image : goal.returns-clause-image
returns-clause-image c =
    subst (λ (disk : DiskState). IfOk c.left_of.result (LeavesNow disk)) c.self.view_is
    (chosen_leaves c.left_of.result c.args.choice c.self.inside.first c.self.inside.calls (rw c.as_slice.ensures at c.left_of.ensures))
