use Rattle.std.proofs.Common.{ℕ, ◌≤◌, subst, sym}
use Rattle.auc_subs.proofs.Facts.{top_at-row}
use Rattle.auc_subs.specs.Subscriber.{top_at}
use Rattle.auc_subs.specs.Setting.{Setting}
use Rattle.auc_server.proofs.challenge.vector_at.Goals as goal

pub vector-requires-clause-last : goal.vector-requires-clause-last
vector-requires-clause-last c =
    subst (λ (top : ℕ). c.args.n ≤ top) (top_at-row c.set.inside.subs.now c.args.sub c.row-home.result.now c.row-home.ensures.place)
    (subst (λ (set : Setting). c.args.n ≤ top_at set.rows c.args.sub) (sym c.set.view_is) c.requires.last)
