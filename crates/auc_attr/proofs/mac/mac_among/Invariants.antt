use Rattle.std.proofs.Common.{length}
use Rattle.auc_attr.proofs.MacLemmas.{IsPlacedTo}
use Rattle.auc_attr.proofs.mac.mac_among.Given as goal

abbrev pub invariant-loop-rest : goal.invariant-loop-rest
invariant-loop-rest l = IsPlacedTo l.table l.attrs l.place l.seen l.rest

abbrev pub decreases-loop-rest : goal.decreases-loop-rest
decreases-loop-rest l = length l.rest
