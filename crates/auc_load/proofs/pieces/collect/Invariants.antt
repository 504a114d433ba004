use Rattle.std.proofs.Common.{◌≡◌, Ok, map}
use Rattle.auc_load.proofs.pieces.collect.Given as goal

abbrev pub invariant-loop-one : goal.invariant-loop-one
invariant-loop-one l = map Ok l.made ≡ l.yielded
