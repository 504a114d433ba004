use Rattle.std.proofs.Common.{◌≡◌, ℕ, List, ◌++◌, length}
use Rattle.auc_edge.specs.Sink.{Appends}
use Rattle.auc_edge.proofs.writing.write_whole.Given as goal

abbrev pub invariant-loop-rest : goal.invariant-loop-rest
invariant-loop-rest g l = record {
  front : (front : List ℕ) × (front ++ l.rest ≡ l.bytes) × Appends (g.K.Sink.written l.initial.out) (g.K.Sink.written l.out) front;
  quiet : g.K.Sink.faults l.out ≡ g.K.Sink.faults l.initial.out;
}

abbrev pub decreases-loop-rest : goal.decreases-loop-rest
decreases-loop-rest g l = length l.rest
