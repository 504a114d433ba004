use Rattle.std.proofs.Common.{◌≤◌}
use Rattle.auc_load.specs.Pieces.{IsCut, vectors_of_piece}
use Rattle.auc_load.proofs.pieces.starts.Given as goal

abbrev pub invariant-loop-closing : goal.invariant-loop-closing
invariant-loop-closing l = record {
  near : l.before ≤ vectors_of_piece;
  cut : IsCut l.source (record { closing = l.closing; before = l.before }) l.starts;
}
