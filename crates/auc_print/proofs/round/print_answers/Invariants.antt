-- The text with the remaining records and the vectors that are left is the text of all.
use Rattle.std.proofs.Common.{◌≡◌, ◌++◌, All, drop, take}
use Rattle.auc_print.specs.Inner.{IsFrontOf, answers_text}
use Rattle.auc_print.specs.OneText.{AnswerFits}
use Rattle.auc_print.proofs.round.print_answers.Given as goal

abbrev pub invariant-loop-answer : goal.invariant-loop-answer
invariant-loop-answer l = record {
  printed : l.out ++ answers_text l.set l.full l.job (drop l.answer-index l.job) l.left
      ≡ l.initial.out ++ answers_text l.set l.full l.job l.job l.vectors;
  grows : IsFrontOf l.initial.out l.out;
  fits : All AnswerFits (take l.answer-index l.job);
}
