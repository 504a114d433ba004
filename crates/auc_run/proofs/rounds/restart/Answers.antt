use Rattle.std.proofs.Common.{◌∙◌, ◌<◌, ◌≤◌, ℕ, List, ap, length, subst, sym}
use Rattle.std.specs.Prelude.{slice_index}
use Rattle.auc_journal.specs.Journal.{limits_of}
use Rattle.auc_subs.specs.Subscriber.{top_at}
use Rattle.auc_subs.specs.declared.row.Row.{Row}
use Rattle.auc_world.proofs.Facts.{length-opened}
use Rattle.auc_run.proofs.rounds.restart.Goals as goal

pub open_at-requires : goal.open_at-requires
open_at-requires g c =
    ap length c.in_ok-words.ensures.words ∙ length-opened c.args.subs.now (limits_of c.args.stand.now.journal) ∙ sym c.requires.size

pub returns-clause-stands : goal.returns-clause-stands
returns-clause-stands g c = λ set early same stands.
    c.open_at.ensures.stands set early
    (subst (λ (rows : List Row). (sub : ℕ) → sub < length rows → slice_index c.in_ok-words.words.items sub ≤ top_at rows sub) (sym same) c.in_ok-words.ensures.numbers) stands
