use Rattle.std.proofs.Common.{◌≡◌, ℕ, List, ◌++◌, length}
use Rattle.auc_block.specs.Turns.{Says}
use Rattle.auc_block.proofs.saying.say_whole.Given as goal

abbrev pub invariant-loop-rest : goal.invariant-loop-rest
invariant-loop-rest g l = record {
  front : (front : List ℕ) × (front ++ l.rest ≡ l.bytes) × Says (g.W.Wire.turns l.initial.wire) (g.W.Wire.turns l.wire) front;
  quiet : g.W.Wire.faults l.wire ≡ g.W.Wire.faults l.initial.wire;
  same : g.W.Wire.ended l.wire ≡ g.W.Wire.ended l.initial.wire;
}

abbrev pub decreases-loop-rest : goal.decreases-loop-rest
decreases-loop-rest g l = length l.rest
