use Rattle.std.proofs.Common.{◌≡◌, ◌-◌, length}
use Rattle.auc_block.specs.Hearing.{IsHeard}
use Rattle.auc_block.specs.InnerHearing.{IsSearched}
use Rattle.auc_block.proofs.blocks.gather.Given as goal

abbrev pub invariant-loop-begin : goal.invariant-loop-begin
invariant-loop-begin g l = record {
  heard : IsHeard (g.W.Wire.turns l.initial.wire) (g.W.Wire.turns l.wire) l.initial.waiting.items l.waiting.items;
  searched : IsSearched l.waiting.items l.begin l.place;
  quiet : g.W.Wire.faults l.wire ≡ g.W.Wire.faults l.initial.wire;
}

abbrev pub decreases-loop-begin : goal.decreases-loop-begin
decreases-loop-begin g l = 1048581 - length l.waiting.items
