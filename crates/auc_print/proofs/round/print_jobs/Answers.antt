-- The text of the job at the place is that of its lines, with the bytes of its vectors in a full print.
use Rattle.std.proofs.Common.{◌∙◌, subst, All, arith}
use Rattle.auc_print.specs.OneText.{AnswerFits}
use Rattle.auc_print.proofs.TextLemmas.{all_more, front_more, job_printed, jobs_step}
use Rattle.auc_print.proofs.round.print_jobs.Goals as goal

pub loop-place-preserved : goal.loop-place-preserved
loop-place-preserved c =
    record {
      printed = jobs_step c.args.set.now c.args.full c.args.jobs.now c.args.vectors.now c.loop-place.place _ _ _ c.loop-place.out _
          c.requires.named c.requires.vectors (omega arith) c.index-jobs-place.is c.as_slice.ensures c.vectors_of-own.ensures
          (job_printed c.args.set.now c.args.full _ _ _ _ _ _ c.in_ok-print_line.ensures.printed c.in_ok-print_answers.ensures.text.printed)
          ∙ c.loop-place.invariant.printed;
      grows = front_more _ _ _ (front_more _ _ _ c.loop-place.invariant.grows c.in_ok-print_line.ensures.grows) c.in_ok-print_answers.ensures.text.grows;
      fits = all_more (All AnswerFits) c.args.jobs.now c.loop-place.place _ (omega arith) c.index-jobs-place.is c.loop-place.invariant.fits
          (subst (All AnswerFits) c.as_slice.ensures c.in_ok-print_answers.ensures.fits);
    }
