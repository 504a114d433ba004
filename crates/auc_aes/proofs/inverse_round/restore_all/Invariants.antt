use Rattle.std.proofs.Common.{◌≡◌, ℕ, ◌<◌, ◌≤◌, length, get_or}
use Rattle.auc_aes.specs.Field.{inv_sub_byte}
use Rattle.auc_aes.proofs.inverse_round.restore_all.Given as goal

abbrev pub invariant-loop-byte : goal.invariant-loop-byte
invariant-loop-byte l = record {
  size : length l.byte-items ≡ 16;
  done : (k : ℕ) → k < l.byte-index → get_or l.byte-items k 0 ≡ inv_sub_byte (get_or l.fn.state k 0);
  rest : (k : ℕ) → l.byte-index ≤ k → get_or l.byte-items k 0 ≡ get_or l.fn.state k 0;
}
