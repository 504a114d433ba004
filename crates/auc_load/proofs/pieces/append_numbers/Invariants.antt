use Rattle.std.proofs.Common.{◌≡◌, ◌+◌, ◌-◌, ◌≤◌, ◌++◌}
use Rattle.std.specs.List.{concat}
use Rattle.auc_load.specs.Pieces.{numbers_bytes}
use Rattle.auc_load.proofs.pieces.append_numbers.Given as goal

abbrev pub invariant-loop-done : goal.invariant-loop-done
invariant-loop-done l = record {
  within : l.done ≤ l.count;
  same : l.stream ≡ record { key = l.rands; sub = l.sub };
  bytes : l.bytes ≡ l.initial.bytes ++ concat (numbers_bytes l.rands l.row l.sub (l.before + 1) l.done);
}

abbrev pub decreases-loop-done : goal.decreases-loop-done
decreases-loop-done l = l.count - l.done
