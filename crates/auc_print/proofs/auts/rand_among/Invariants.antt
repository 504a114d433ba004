-- The attributes that are left have the RAND of all.
use Rattle.std.proofs.Common.{◌≡◌}
use Rattle.auc_print.specs.AutsText.{rand_among}
use Rattle.auc_print.proofs.auts.rand_among.Given as goal

abbrev pub invariant-loop-left : goal.invariant-loop-left
invariant-loop-left l = rand_among l.left l.rest ≡ rand_among l.most l.attrs

abbrev pub decreases-loop-left : goal.decreases-loop-left
decreases-loop-left l = l.left
