use Rattle.std.proofs.Common.{◌≡◌, length, slice_index}
use Rattle.auc_sqn.specs.Number.{max_seq}
use Rattle.auc_vector_tests.proofs.core_centre.a_replayed_auts_moves_the_number_once.Given as goal

abbrev pub invariant-loop-seq : goal.invariant-loop-seq
invariant-loop-seq g l = record {
  words : length l.centre.words ≡ 2;
  top : slice_index l.centre.tops 1 ≡ max_seq;
}
