use Rattle.std.proofs.Common.{length}
use Rattle.auc_attr.proofs.WalkLemmas.{IsListedTo}
use Rattle.auc_attr.proofs.walking.read_attrs.Given as goal

abbrev pub invariant-loop-rest : goal.invariant-loop-rest
invariant-loop-rest l = IsListedTo l.bytes l.list l.seen l.rest

abbrev pub decreases-loop-rest : goal.decreases-loop-rest
decreases-loop-rest l = length l.rest
