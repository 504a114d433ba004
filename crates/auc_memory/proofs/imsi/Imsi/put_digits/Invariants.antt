use Rattle.std.proofs.Common.{◌≡◌, ◌≤◌, ◌++◌, length, drop}
use Rattle.auc_memory.specs.Identity.{last_digits}
use Rattle.auc_memory.proofs.imsi.Imsi.put_digits.Given as goal

abbrev pub invariant-loop-left : goal.invariant-loop-left
invariant-loop-left l = record { within : l.left ≤ length l.text; digits : last_digits l.left l.rest ++ drop l.left l.text ≡ last_digits l.self.digits l.self.number }

abbrev pub decreases-loop-left : goal.decreases-loop-left
decreases-loop-left l = l.left
