use Rattle.std.proofs.Common.{◌-◌, ◌≤◌, length}
use Rattle.auc_load.specs.Pieces.{IsHashing}
use Rattle.auc_load.proofs.digest.make_all.Given as goal

abbrev pub invariant-loop-hashing : goal.invariant-loop-hashing
invariant-loop-hashing g l = record {
  within : l.hashing.begun ≤ length l.starts;
  hashing : IsHashing l.source l.hashing;
}

abbrev pub decreases-loop-hashing : goal.decreases-loop-hashing
decreases-loop-hashing g l = length l.starts - l.hashing.begun
