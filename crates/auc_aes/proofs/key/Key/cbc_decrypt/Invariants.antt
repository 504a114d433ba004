use Rattle.std.proofs.Common.{◌≡◌, ◌-◌, ◌%◌, ◌≤◌, length}
use Rattle.auc_aes.specs.Cbc.{cbc_decrypted}
use Rattle.auc_aes.specs.Inner.{decrypted_from}
use Rattle.auc_aes.proofs.key.Key.cbc_decrypt.Given as goal

abbrev pub invariant-loop-at : goal.invariant-loop-at
invariant-loop-at l = record {
  aligned : l.at % 16 ≡ 0;
  whole : length l.bytes % 16 ≡ 0;
  within : l.at ≤ length l.bytes;
  so_far : decrypted_from l.self l.last l.bytes l.at ≡ cbc_decrypted l.self l.fn.iv l.initial.bytes;
}

abbrev pub decreases-loop-at : goal.decreases-loop-at
decreases-loop-at l = length l.initial.bytes - l.at
