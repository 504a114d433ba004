use Rattle.std.proofs.Common.{◌∙◌, ◌<◌, ◌≤◌, ℕ, List, [], ap, length, subst, sym}
use Rattle.std.specs.Prelude.{slice_index}
use Rattle.std.proofs.lemmas.List.{length-map}
use Rattle.auc_journal.specs.Journal.{limits_of}
use Rattle.auc_subs.specs.Subscriber.{top_at}
use Rattle.auc_subs.specs.declared.row.Row.{Row}
use Rattle.auc_world.proofs.Facts.{length-opened}
use Rattle.auc_run.proofs.rounds.first_state.Goals as goal

pub open_at-requires : goal.open_at-requires
open_at-requires g c =
    ap length c.in_ok-openings.ensures.words ∙ length-opened c.args.subs.now (limits_of c.args.journal.now)
    ∙ sym (ap length c.in_ok-state.ensures.words ∙ length-map c.args.subs.now (λ (row : Row). row.seq))

pub returns-clause-stands : goal.returns-clause-stands
returns-clause-stands g c = λ set is.
    c.open_at.ensures.stands set []
    (subst (λ (rows : List Row). (sub : ℕ) → sub < length rows → slice_index c.in_ok-openings.field-0.items sub ≤ top_at rows sub) (sym is) c.in_ok-openings.ensures.numbers)
    (c.in_ok-state.ensures.stands set is)
