use Rattle.std.proofs.Common.{◌≡◌, ◌∙◌, Some, ap, subst, sym}
use Rattle.auc_server.specs.Server.{resumed_of}
use Rattle.auc_server.specs.State.{last_of}
use Rattle.auc_server.specs.Steps.{IsHeldToo}
use Rattle.auc_server.specs.declared.server.ServerState.{ServerState}
use Rattle.auc_server.proofs.server.Server.on_message.Goals as goal

pub returns-in-AwaitReauth-clause-held : goal.returns-in-AwaitReauth-clause-held
returns-in-AwaitReauth-clause-held c =
    let is : resumed_of c.args.self.now ≡ Some c.in-AwaitReauth.sent =
    ap resumed_of (sym c.self.view_is) ∙ ap (λ (now : ServerState). (last_of now).resumed) c.in-AwaitReauth.is in
    c.on_resumed.ensures.held c.args.set.now.rows c.args.homes.now (subst (IsHeldToo c.args.homes.now) is c.requires.resumed)
