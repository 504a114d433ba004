-- In a full print the line is followed by the bytes of its vector, by AUTS and by what else is shown of it.
use Rattle.std.proofs.Common.{ap}
use Rattle.auc_subs.specs.Setting.{Setting}
use Rattle.auc_print.proofs.PieceLemmas.{answer_printed}
use Rattle.auc_print.proofs.round.print_answer.Goals as goal

pub returns-in_ok-print_auts-clause-text : goal.returns-in_ok-print_auts-clause-text
returns-in_ok-print_auts-clause-text c =
    rw c.if-full.true
    (answer_printed c.args.set.now c.args.job.now c.args.answer.now c.args.vectors.now _ _ _ _ _ _ _ (ap (λ (s : Setting). s.rows) c.set.view_is)
    c.in_ok-print_record.ensures.text.printed c.in_ok-print_shown.ensures.printed c.in_ok-print_auts.ensures.printed c.print_added.ensures)
