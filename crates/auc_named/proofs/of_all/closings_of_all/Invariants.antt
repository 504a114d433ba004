use Rattle.std.proofs.Common.{◌≡◌, map, take}
use Rattle.auc_named.specs.Named.{closing_of}
use Rattle.auc_named.proofs.of_all.closings_of_all.Given as goal

abbrev pub invariant-loop-closing : goal.invariant-loop-closing
invariant-loop-closing l = l.all ≡ map (closing_of l.places) (take l.closing-index l.closings)
