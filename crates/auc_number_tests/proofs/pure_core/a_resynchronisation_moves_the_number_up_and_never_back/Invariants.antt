use Rattle.std.proofs.Common.{◌≡◌, ◌∷◌, [], length}
use Rattle.auc_sqn.specs.Number.{max_seq}
use Rattle.auc_number_tests.proofs.pure_core.a_resynchronisation_moves_the_number_up_and_never_back.Given as goal

abbrev pub invariant-loop-sub : goal.invariant-loop-sub
invariant-loop-sub g l = record {
  words : length l.core.words ≡ 3;
  tops : l.core.tops ≡ max_seq ∷ max_seq ∷ max_seq ∷ [];
}
