use Rattle.std.proofs.Common.{◌≡◌, All, length}
use Rattle.auc_draw.specs.Book.{IsOf}
use Rattle.auc_number_tests.proofs.draw.six_draws.Given as goal

abbrev pub invariant-loop : goal.invariant-loop
invariant-loop l = All (IsOf l.book.id l.book.tops) l.passes × (length l.passes ≡ 3)
