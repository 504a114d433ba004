use Rattle.std.proofs.Common.{subst}
use Rattle.auc_server.specs.InnerRows.{IsHeldRow}
use Rattle.auc_server.specs.Server.{ServerEnd}
use Rattle.auc_server.proofs.server.Server.on_resumed.Goals as goal

pub returns-in-Reauthentication-clause-held : goal.returns-in-Reauthentication-clause-held
returns-in-Reauthentication-clause-held c = λ all homes held.
    subst (λ (s : ServerEnd). IsHeldRow s.options.method all homes c.on_reauth.result) c.self.view_is (c.on_reauth.ensures.held all homes held)
