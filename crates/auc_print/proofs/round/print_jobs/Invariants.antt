-- The text with the lines of the remaining jobs is the text of all jobs.
use Rattle.std.proofs.Common.{◌≡◌, ◌+◌, ◌++◌, All, flat_map, drop, take}
use Rattle.auc_print.specs.Inner.{IsFrontOf}
use Rattle.auc_print.specs.OneText.{AnswerFits}
use Rattle.auc_print.specs.Text.{line_text, jobs_lines}
use Rattle.auc_print.proofs.round.print_jobs.Given as goal

abbrev pub invariant-loop-place : goal.invariant-loop-place
invariant-loop-place l = record {
  printed : l.out ++ flat_map (line_text l.set l.full) (jobs_lines (l.place + 1) (drop l.place l.jobs))
      ≡ l.initial.out ++ flat_map (line_text l.set l.full) (jobs_lines 1 l.jobs);
  grows : IsFrontOf l.initial.out l.out;
  fits : All (All AnswerFits) (take l.place l.jobs);
}
