use Rattle.std.proofs.Common.{◌≡◌, ◌-◌, ◌/◌, ◌%◌, ◌≤◌, ◌++◌, length, take, drop}
use Rattle.auc_aes.specs.Cbc.{encrypted_blocks, cbc_encrypted}
use Rattle.auc_aes.proofs.key.Key.cbc_encrypt.Given as goal

abbrev pub invariant-loop-at : goal.invariant-loop-at
invariant-loop-at l = record {
  aligned : l.at % 16 ≡ 0;
  whole : length l.bytes % 16 ≡ 0;
  within : l.at ≤ length l.bytes;
  so_far : take l.at l.bytes ++ encrypted_blocks l.self l.last ((length l.bytes - l.at) / 16) (drop l.at l.bytes)
      ≡ cbc_encrypted l.self l.fn.iv l.initial.bytes;
}

abbrev pub decreases-loop-at : goal.decreases-loop-at
decreases-loop-at l = length l.initial.bytes - l.at
