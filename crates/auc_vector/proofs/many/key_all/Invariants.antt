use Rattle.std.proofs.Common.{◌≡◌, ℕ, ◌<◌, ◌≤◌, length, get_or}
use Rattle.auc_vector.specs.Many.{keyed_by}
use Rattle.auc_vector.proofs.ManyLemmas.{none}
use Rattle.auc_vector.proofs.many.key_all.Given as goal

abbrev pub invariant-loop-made : goal.invariant-loop-made
invariant-loop-made l = record {
  size : length l.out ≡ length l.fn.out;
  done : (k : ℕ) → k < l.made-index → get_or l.out k none ≡ keyed_by l.method l.name (get_or l.fn.out k none);
  rest : (k : ℕ) → l.made-index ≤ k → get_or l.out k none ≡ get_or l.fn.out k none;
}
