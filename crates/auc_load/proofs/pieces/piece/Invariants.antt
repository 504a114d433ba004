use Rattle.std.proofs.Common.{◌≡◌, ◌-◌, ◌<◌, ◌≤◌, drop, take}
use Rattle.std.specs.List.{concat}
use Rattle.auc_load.specs.Pieces.{IsPlace, vectors_from, vectors_of_piece}
use Rattle.auc_load.proofs.pieces.piece.Given as goal

abbrev pub invariant-loop-k : goal.invariant-loop-k
invariant-loop-k l = record {
  some : 0 < l.left;
  most : l.left ≤ vectors_of_piece;
  place : IsPlace l.source.closings (record { closing = l.k; before = l.before });
  bytes : l.bytes ≡ concat (take (vectors_of_piece - l.left) (vectors_from l.source l.fn.start));
  ahead : vectors_from l.source (record { closing = l.k; before = l.before }) ≡ drop (vectors_of_piece - l.left) (vectors_from l.source l.fn.start);
}
