use Rattle.std.proofs.Common.{Some}
use Rattle.auc_vector_tests.proofs.centre.play.Given as goal

abbrev pub ghosts-draw_three_times : goal.ghosts-draw_three_times
ghosts-draw_three_times g a = record { table = a.book.now.id; tops = a.book.now.tops; passes = a.keeper.passes; opening = Some a.journal }
