use Rattle.std.proofs.Common.{◌-◌, length}
use Rattle.auc_block.specs.InnerHearing.{IsSearched}
use Rattle.auc_block.proofs.search.find_end.Given as goal

abbrev pub invariant-loop-size : goal.invariant-loop-size
invariant-loop-size l = IsSearched l.text l.begin l.place

abbrev pub decreases-loop-size : goal.decreases-loop-size
decreases-loop-size l = length l.text - l.place
