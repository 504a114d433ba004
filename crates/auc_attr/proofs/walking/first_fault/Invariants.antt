use Rattle.std.proofs.Common.{List, length}
use Rattle.auc_attr.specs.declared.table.Table.TheVariants as tables
use Rattle.auc_attr.specs.Item.{Item}
use Rattle.auc_attr.proofs.WalkLemmas.{IsReadTo}
use Rattle.auc_attr.proofs.walking.first_fault.Given as goal

abbrev pub invariant-loop-rest : goal.invariant-loop-rest
invariant-loop-rest l = (is : List Item) × IsReadTo tables.Aka l.bytes is l.seen l.rest

abbrev pub decreases-loop-rest : goal.decreases-loop-rest
decreases-loop-rest l = length l.rest
