use Rattle.std.proofs.Common.{◌-◌, ◌≤◌, List, ℕ, length}
use Rattle.auc_aes.specs.Bytes.{IsBlock}
use Rattle.auc_aes.specs.Cipher.{aes}
use Rattle.auc_aes.specs.Lanes.{IsDone, IsLaneKeys}
use Rattle.auc_aes.proofs.lanes.encrypt_groups.Given as goal

abbrev pub invariant-loop-blocks : goal.invariant-loop-blocks
invariant-loop-blocks l = record {
  within : l.at ≤ length l.blocks;
  done : (key : List ℕ) → IsBlock key → IsLaneKeys key l.keys → IsDone (aes key) l.fn.blocks l.blocks l.at;
}

abbrev pub decreases-loop-blocks : goal.decreases-loop-blocks
decreases-loop-blocks l = length l.blocks - l.at
