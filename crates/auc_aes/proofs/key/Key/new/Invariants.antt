use Rattle.std.proofs.Common.{◌≡◌, ℕ, ◌-◌, ◌<◌, [], length, get_or}
use Rattle.auc_aes.specs.Inner.{block_of_words}
use Rattle.auc_aes.specs.Cipher.{round_constant, round_key}
use Rattle.auc_aes.proofs.key.Key.new.Given as goal

abbrev pub invariant-loop-i : goal.invariant-loop-i
invariant-loop-i l = record {
  size : length l.round_keys ≡ 11;
  constant : l.constant ≡ round_constant (l.i - 1);
  keys : (j : ℕ) → j < l.i → block_of_words (get_or l.round_keys j []) ≡ round_key l.fn.k j;
}
