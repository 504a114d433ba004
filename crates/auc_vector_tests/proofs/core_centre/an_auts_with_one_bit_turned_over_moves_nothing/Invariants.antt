use Rattle.std.proofs.Common.{◌≡◌, length, slice_index}
use Rattle.auc_sqn.specs.Number.{max_seq}
use Rattle.auc_vector_tests.proofs.core_centre.an_auts_with_one_bit_turned_over_moves_nothing.Given as goal

abbrev pub invariant-loop-bit : goal.invariant-loop-bit
invariant-loop-bit g l = record {
  words : length l.centre.words ≡ 1;
  top : slice_index l.centre.tops 0 ≡ max_seq;
}

abbrev pub invariant-loop-byte : goal.invariant-loop-byte
invariant-loop-byte g l = record {
  words : length l.centre.words ≡ 1;
  top : slice_index l.centre.tops 0 ≡ max_seq;
}
