-- The text of the record at the place, with its vector's bytes, was appended.
use Rattle.std.proofs.Common.{◌∙◌, subst, All, arith}
use Rattle.std.proofs.lemmas.List.{take_all}
use Rattle.auc_print.specs.OneText.{AnswerFits}
use Rattle.auc_print.proofs.TextLemmas.{all_more, answers_step, front_more}
use Rattle.auc_print.proofs.round.print_answers.Goals as goal

pub loop-answer-preserved : goal.loop-answer-preserved
loop-answer-preserved c =
    let l = c.loop-answer in
    record {
      printed = answers_step c.args.set.now c.args.full c.args.job.now l.answer-index _ l.left.now _ l.out _ (omega arith) c.answer-item.is
          c.in_ok-print_answer.ensures.text.printed c.after-left.ensures ∙ l.invariant.printed;
      grows = front_more _ _ _ l.invariant.grows c.in_ok-print_answer.ensures.text.grows;
      fits = all_more AnswerFits c.args.job.now l.answer-index _ (omega arith) c.answer-item.is l.invariant.fits c.in_ok-print_answer.ensures.fits;
    }

pub returns-clause-fits : goal.returns-clause-fits
returns-clause-fits c =
    let l = c.loop-answer in
    subst (All AnswerFits) (take_all l.answer-index c.args.job.now (omega arith)) l.invariant.fits
