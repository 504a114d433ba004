use Rattle.std.proofs.Common.{◌≡◌, ℕ, ◌<◌, ◌≤◌, length, get_or, bit_xor}
use Rattle.auc_aes.proofs.block.xor.Given as goal

abbrev pub invariant-loop-i : goal.invariant-loop-i
invariant-loop-i g l = record {
  size : length l.string ≡ g.row.N;
  done : (k : ℕ) → k < l.i → get_or l.string k 0 ≡ bit_xor (get_or l.initial.string k 0) (get_or l.other k 0);
  rest : (k : ℕ) → l.i ≤ k → get_or l.string k 0 ≡ get_or l.initial.string k 0;
}
