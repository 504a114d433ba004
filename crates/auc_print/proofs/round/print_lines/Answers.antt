-- The round's own line, the jobs' text and that of the lines that end it are the round's text.
use Rattle.std.proofs.Common.{ap}
use Rattle.std.proofs.lemmas.Result.{on_ok_weaker}
use Rattle.auc_subs.specs.Setting.{Setting}
use Rattle.auc_print.proofs.TextLemmas.{end_printed, front_more, round_printed}
use Rattle.auc_print.proofs.round.print_lines.Goals as goal

pub returns-clause-text : goal.returns-clause-text
returns-clause-text c = record {
  printed =
      on_ok_weaker c.print_premise.result
      (λ premise. round_printed c.args.set.now c.args.full c.args.round.now _ _ _ _ _ c.as_slice.ensures
      c.in_ok-print_line.ensures.printed c.in_ok-print_jobs.ensures.text.printed
      (end_printed c.args.set.now c.args.full _ c.args.round.now _ _ _ _ _ _ (ap (λ (s : Setting). s.rows) c.set.view_is)
      c.as_slice-2.ensures c.as_slice-3.ensures c.in_ok-print_closings.ensures.printed c.in_ok-print_sessions.ensures.printed premise))
      c.print_premise.ensures.printed;
  grows =
      front_more _ _ _
      (front_more _ _ _
      (front_more _ _ _ (front_more _ _ _ c.in_ok-print_line.ensures.grows c.in_ok-print_jobs.ensures.text.grows) c.in_ok-print_closings.ensures.grows)
      c.in_ok-print_sessions.ensures.grows)
      c.print_premise.ensures.grows;
}
