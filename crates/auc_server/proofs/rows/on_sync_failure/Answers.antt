use Rattle.std.proofs.Common.{sym, subst}
use Rattle.auc_server.specs.InnerRows.{IsHeldRow}
use Rattle.auc_server.specs.Rows.{by_auts}
use Rattle.auc_subs.specs.Setting.{Setting}
use Rattle.auc_server.proofs.HomeLemmas.{auts_own}
use Rattle.auc_server.proofs.rows.on_sync_failure.Goals as goal

pub returns-clause-held : goal.returns-clause-held
returns-clause-held c = λ by homes held.
    let sub = c.args.sent.now.sub in
    subst (IsHeldRow by c.args.set.now.rows homes) (sym c.by_auts.ensures)
    (subst (λ (set : Setting). IsHeldRow by set.rows homes (by_auts sub c.read_auts.result)) c.set.view_is
    (auts_own by c.set.inside.subs.now homes sub c.row-home.result.now c.read_auts.result held c.row-home.ensures.place c.read_auts.ensures.bound))
