use Rattle.std.proofs.Common.{Some, refl, subst}
use Rattle.auc_server.specs.InnerServer.{IsNumbered}
use Rattle.auc_server.specs.Table.{noted}
use Rattle.auc_server.proofs.AskingLemmas.{again_unless, asked_twice, numbered}
use Rattle.auc_server.proofs.asking.redraw.Goals as goal

pub returns-in_default-clause-asked : goal.returns-in_default-clause-asked
returns-in_default-clause-asked g c =
    asked_twice g.C.Centre.goes g.C.Centre.kept g.C.Centre.top g.met.C.Centre.joins _ _ _ c.args.sub c.args.seq
    (noted (Some c.report-resynced.result) (Some c.ask.result)) c.report-resynced.result refl c.report-resynced.ensures.kept c.report-resynced.ensures.top
    c.report-resynced.ensures.answer c.report-resynced.ensures.goes c.report-resynced.ensures.others c.ask.ensures.answer c.ask.ensures.goes
    c.ask.ensures.others c.ask.ensures.kept c.ask.ensures.still

pub returns-in_default-clause-own : goal.returns-in_default-clause-own
returns-in_default-clause-own g c = (
  again_unless _ c.args.seq c.report-resynced.result c.report-resynced.ensures.answer c.in_default.not-Beyond,
  subst (λ top. IsNumbered top c.ask.result) (c.report-resynced.ensures.top c.args.sub) (numbered _ _ c.ask.result c.ask.ensures.answer),
)
