use Rattle.std.proofs.Common.{length, ◌≤◌, ap, subst, sym, ◌∙◌}
use Rattle.std.specs.Prelude.{All}
use Rattle.auc_sqn.specs.Number.{max_seq}
use Rattle.auc_subs.proofs.Facts.{length-tops_of, tops_within}
use Rattle.auc_subs.specs.Setting.{Setting}
use Rattle.auc_jobs.specs.InnerSharing.{Shared}
use Rattle.auc_jobs.proofs.StateLemmas.{openings_fit}
use Rattle.auc_jobs.proofs.workers.open_book.Goals as goal

pub needed-requires-clause-tops : goal.needed-requires-clause-tops
needed-requires-clause-tops g c =
    let asked = c.round.inside.round.now in
    let inside : Shared = record { set = asked.set.now; jobs = asked.jobs.now; full = asked.full; workers = asked.workers; state = c.round.inside.state.now } in
    let fit = openings_fit inside c.args.round.now c.words-openings.result.now c.round.view_is c.words-openings.ensures c.requires.round in
    let is = c.as_slice.ensures ∙ c.in_ok-tops.ensures in (
      ap length is ∙ length-tops_of c.set.inside.subs.now ∙ ap (λ (set : Setting). length set.rows) c.set.view_is ∙ sym fit.0,
      subst (All (λ top. top ≤ max_seq)) (sym is) (tops_within c.set.inside.subs.now),
    )

pub open-requires-clause-tops : goal.open-requires-clause-tops
open-requires-clause-tops g c = subst (All (λ top. top ≤ max_seq)) (sym (c.as_slice-2.ensures ∙ c.in_ok-tops.ensures)) (tops_within c.set.inside.subs.now)
