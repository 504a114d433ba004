use Rattle.auc_vector_tests.proofs.GainLemmas.{gained}
use Rattle.auc_vector_tests.proofs.centre.draw_and_resync.Goals as goal

pub returns-clause-gains : goal.returns-clause-gains
returns-clause-gains g c =
    gained g.C.Centre.goes g.met.C.Centre.joins c.args.centre.now c.next-drawn.new.self c.resync-resynced.new.self c.args.sub
    (g.C.Centre.kept c.args.centre.now c.args.sub) (g.C.Centre.kept c.next-drawn.new.self c.args.sub) c.next-drawn.result c.resync-resynced.result
    c.next-drawn.ensures.kept
    (record { here = c.next-drawn.ensures.goes; others = c.next-drawn.ensures.others })
    (record { here = c.resync-resynced.ensures.goes; others = c.resync-resynced.ensures.others })
