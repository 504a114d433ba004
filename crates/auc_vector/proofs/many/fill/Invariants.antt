use Rattle.std.proofs.Common.{◌≡◌, ◌+◌, ◌<◌, ℕ, [], length, get_or}
use Rattle.auc_hmac.specs.declared.method.Method.TheVariants.{Aka}
use Rattle.auc_vector.specs.Many.{AreCiphers}
use Rattle.auc_vector.specs.Vector.{vector_of}
use Rattle.auc_vector.proofs.ManyLemmas.{none}
use Rattle.auc_vector.proofs.many.fill.Given as goal

abbrev pub invariant-loop-i : goal.invariant-loop-i
invariant-loop-i l = record {
  size : length l.out ≡ length l.rands;
  done : ((j : ℕ) → j < length l.rands → AreCiphers l.m l.amf l.bits l.first l.rands l.ciphers j)
      → (j : ℕ) → j < l.i → get_or l.out j none ≡ vector_of l.m Aka l.amf [] l.bits (l.first + j) (get_or l.rands j []);
}
