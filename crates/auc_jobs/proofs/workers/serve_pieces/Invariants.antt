use Rattle.std.proofs.Common.{Some}
use Rattle.auc_jobs.proofs.workers.serve_pieces.Given as goal

abbrev pub ghosts-work_all : goal.ghosts-work_all
ghosts-work_all g a = record { table = a.opened.book.id; tops = a.opened.book.tops; passes = a.opened.keeper.passes; opening = Some a.journal }
