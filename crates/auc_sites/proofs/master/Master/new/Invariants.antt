use Rattle.std.proofs.Common.{◌≡◌}
use Rattle.auc_sites.specs.Master.{nothing_granted}
use Rattle.auc_sites.proofs.master.Master.new.Given as goal

abbrev pub invariant-loop-i : goal.invariant-loop-i
invariant-loop-i l = l.last.items ≡ nothing_granted l._i
