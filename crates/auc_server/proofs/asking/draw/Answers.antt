use Rattle.auc_server.proofs.AskingLemmas.{asked_once, numbered}
use Rattle.auc_server.proofs.asking.draw.Goals as goal

pub returns-clause-asked : goal.returns-clause-asked
returns-clause-asked g c =
    asked_once g.C.Centre.goes g.C.Centre.kept g.C.Centre.top _ _ c.args.sub c.ask.result c.ask.ensures.answer c.ask.ensures.goes c.ask.ensures.others
    c.ask.ensures.kept c.ask.ensures.still

pub returns-clause-number : goal.returns-clause-number
returns-clause-number g c = numbered _ _ c.ask.result c.ask.ensures.answer
