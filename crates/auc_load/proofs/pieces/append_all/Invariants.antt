use Rattle.std.proofs.Common.{◌≡◌, ◌++◌, take}
use Rattle.std.specs.Prelude.{flat_map}
use Rattle.auc_load.specs.Summary.{vector_bytes}
use Rattle.auc_load.proofs.pieces.append_all.Given as goal

abbrev pub invariant-loop-vector : goal.invariant-loop-vector
invariant-loop-vector l = l.bytes ≡ l.initial.bytes ++ flat_map vector_bytes (take l.vector-index l.made)
