use Rattle.std.proofs.Common.{◌<◌, ◌≤◌, ℕ, List, [], ◌∙◌, ap, length, map, slice_index, subst, sym}
use Rattle.auc_named.specs.Named.{AreAt}
use Rattle.auc_subs.specs.Subscriber.{top_at}
use Rattle.auc_subs.specs.declared.row.Row.{Row}
use Rattle.auc_subs.specs.Setting.{Setting}
use Rattle.auc_run.proofs.NamedLemmas.{own_within}
use Rattle.auc_run.proofs.named.own_start.Goals as goal

pub returns-clause-stands : goal.returns-clause-stands
returns-clause-stands c = λ set is.
    c.open_at.ensures.stands set []
    (subst (λ (rows : List Row). (sub : ℕ) → sub < length rows → slice_index c.in_ok-words.words.items sub ≤ top_at rows sub) (sym is)
    (own_within c.args.set.now c.requires.stands.0 c.args.state.now c.in_ok-named.named.rows c.in_ok-named.named.places c.in_ok-words.words.items (subst (λ (rows : List Row). AreAt rows c.in_ok-named.named.places c.in_ok-named.named.rows) (ap (λ (s : Setting). s.rows) c.set.view_is) c.in_ok-named.ensures.at) c.requires.stands.1
    (c.in_ok-words.ensures ∙ ap (map (λ place. slice_index c.args.state.now.words place)) c.places.ensures)))
    (c.in_ok-own.ensures.stands set (is ∙ sym c.subs.ensures))
