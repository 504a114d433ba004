use Rattle.std.proofs.Common.{◌≡◌, ◌+◌, ◌*◌, ◌<◌, ℕ, List, [], length, drop, get_or}
use Rattle.auc_aes.specs.Bytes.{block_from}
use Rattle.auc_aes.specs.Cipher.{aes_inverse}
use Rattle.auc_aes.specs.Inner.{decrypted_from}
use Rattle.auc_aes.proofs.cbc.chain.Given as goal

abbrev pub invariant-loop-i : goal.invariant-loop-i
invariant-loop-i l = record {
  size : length l.bytes ≡ length l.fn.bytes;
  ahead : drop (l.at + 16 * l.i) l.bytes ≡ drop (l.at + 16 * l.i) l.fn.bytes;
  so_far : (key : List ℕ) → ((j : ℕ) → j < length l.inverses → get_or l.inverses j [] ≡ aes_inverse key (block_from l.fn.bytes (l.at + 16 * j)))
      → decrypted_from key l.before l.bytes (l.at + 16 * l.i) ≡ decrypted_from key l.fn.last l.fn.bytes l.at;
}
