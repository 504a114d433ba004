use Rattle.std.proofs.Common.{◌≡◌, ℕ, ◌+◌, ◌-◌, List, length}
use Rattle.auc_edge.proofs.ShelfLemmas.{IsReadSoFar}
use Rattle.auc_edge.proofs.reading.read_all.Given as goal

abbrev pub invariant-loop-piece : goal.invariant-loop-piece
invariant-loop-piece g l = record {
  same : g.H.Shelf.files l.shelf ≡ g.H.Shelf.files l.initial.shelf;
  quiet : (other : List ℕ) → g.H.Shelf.faults l.shelf other ≡ g.H.Shelf.faults l.initial.shelf other;
  front : IsReadSoFar (g.H.Shelf.files l.initial.shelf) l.name l.text;
}

abbrev pub decreases-loop-piece : goal.decreases-loop-piece
decreases-loop-piece g l = l.limit + 1 - length l.text
