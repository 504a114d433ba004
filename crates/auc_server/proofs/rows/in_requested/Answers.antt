use Rattle.std.proofs.Common.{ℕ, List, ap, ◌∙◌}
use Rattle.auc_server.specs.Rows.{on_identity, on_requested}
use Rattle.auc_server.specs.declared.rows.Row.{Row}
use Rattle.auc_server.proofs.rows.in_requested.Goals as goal

pub returns-clause-row : goal.returns-clause-row
returns-clause-row c =
    c.on_identity.ensures.row
    ∙ ap (λ (r : Row). on_identity r c.args.subtype c.args.attrs.now)
    (c.on_requested-answered.ensures.row ∙ ap (λ (t : List ℕ). on_requested c.args.asked c.args.method c.args.set.now c.args.homes.now t) c.identity_in.ensures)

pub returns-clause-held : goal.returns-clause-held
returns-clause-held c = c.on_identity.ensures.held c.args.method c.args.set.now.rows c.on_requested-answered.ensures.held
