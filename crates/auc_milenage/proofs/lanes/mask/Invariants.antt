use Rattle.std.proofs.Common.{◌-◌, ◌≤◌, length}
use Rattle.auc_aes.specs.Bytes.{xor}
use Rattle.auc_aes.specs.Lanes.{IsDone}
use Rattle.auc_milenage.proofs.lanes.mask.Given as goal

abbrev pub invariant-loop-at : goal.invariant-loop-at
invariant-loop-at l = record {
  within : l.at ≤ length l.blocks;
  done : IsDone (λ block. xor block l.opc) l.fn.blocks l.blocks l.at;
}

abbrev pub decreases-loop-at : goal.decreases-loop-at
decreases-loop-at l = length l.blocks - l.at
