use Rattle.std.proofs.Common.{◌≡◌, ◌+◌, ◌-◌, ◌<◌, ◌≤◌, get_or, length}
use Rattle.auc_load.specs.Pieces.{IsCut, Source, vectors_of_piece}
use Rattle.auc_load.proofs.pieces.push_starts.Given as goal
use Rattle.auc_record.specs.declared.record.Closing.{Closing}

abbrev pub invariant-loop-at : goal.invariant-loop-at
invariant-loop-at l = record {
  near : l.at ≤ l.last + vectors_of_piece;
  cut : (source : Source) (d : Closing) → l.closing < length source.closings → (get_or source.closings l.closing d).last ≡ l.last
      → IsCut source (record { closing = l.closing; before = l.before }) l.initial.starts
      → IsCut source (record { closing = l.closing; before = l.at }) l.starts;
}

abbrev pub decreases-loop-at : goal.decreases-loop-at
decreases-loop-at l = l.last - l.at
