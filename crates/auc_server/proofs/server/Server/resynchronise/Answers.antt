use Rattle.std.proofs.Common.{false, Some, ap, ◌∙◌}
use Rattle.auc_server.specs.Server.{ServerEnd}
use Rattle.auc_server.specs.Table.{challenged, resynchronising}
use Rattle.auc_server.proofs.AskingLemmas.{challenged_again}
use Rattle.auc_server.proofs.server.Server.resynchronise.Goals as goal

pub returns-in-Again-clause-step : goal.returns-in-Again-clause-step
returns-in-Again-clause-step c =
    challenged_again c.args.set.now c.args.homes.now c.args.self.now _ c.challenge.result c.args.sub _ c.args.answered c.in-Again.resynced c.in-Again.number
    c.in-Again.is c.requires.own
    (c.challenge.ensures.step
    ∙ ap (λ (s : ServerEnd). challenged c.args.set.now c.args.homes.now (resynchronising s) c.args.sub false (Some c.in-Again.resynced) (Some c.in-Again.number))
    c.self.view_is)
