use Rattle.std.proofs.Common.{length}
use Rattle.std.specs.Option.{option_copied}
use Rattle.auc_attr.proofs.ValueInLemmas.{IsValuedTo}
use Rattle.auc_attr.proofs.walking.value_in.Given as goal

abbrev pub invariant-loop-rest : goal.invariant-loop-rest
invariant-loop-rest l = IsValuedTo l.bytes l.kind (option_copied l.value) l.seen l.rest

abbrev pub decreases-loop-rest : goal.decreases-loop-rest
decreases-loop-rest l = length l.rest
