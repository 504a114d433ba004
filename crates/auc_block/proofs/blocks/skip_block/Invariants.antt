use Rattle.std.proofs.Common.{◌≡◌}
use Rattle.auc_block.proofs.HearingLemmas.{IsSkipping}
use Rattle.auc_block.proofs.blocks.skip_block.Given as goal

abbrev pub invariant-loop : goal.invariant-loop
invariant-loop g l = record {
  skipping : IsSkipping (g.W.Wire.turns l.fn.wire) (g.W.Wire.turns l.wire) l.fn.waiting.items l.waiting.items l.counter;
  quiet : g.W.Wire.faults l.wire ≡ g.W.Wire.faults l.fn.wire;
}
