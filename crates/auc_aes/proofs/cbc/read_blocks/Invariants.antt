use Rattle.std.proofs.Common.{◌≡◌, ◌+◌, ◌*◌, ◌<◌, ℕ, [], length, get_or}
use Rattle.auc_aes.specs.Bytes.{block_from}
use Rattle.auc_aes.proofs.cbc.read_blocks.Given as goal

abbrev pub invariant-loop-i : goal.invariant-loop-i
invariant-loop-i l = record {
  size : length l.blocks ≡ length l.fn.blocks;
  read : (j : ℕ) → j < l.i → get_or l.blocks j [] ≡ block_from l.bytes (l.at + 16 * j);
}
