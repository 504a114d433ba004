-- The words are those of the delivery that breaks the premise.
use Rattle.std.proofs.lemmas.Result.{on_ok_weaker}
use Rattle.auc_print.proofs.PieceLemmas.{broken_printed}
use Rattle.auc_print.proofs.line.print_broken.Goals as goal

pub returns : goal.returns
returns c = record {
  printed =
      on_ok_weaker c.print_line.result
      (λ last. broken_printed c.args.job c.args.breach _ _ _ _ _ _ c.decimal.ensures c.decimal-2.ensures c.word_of_end.ensures c.decimal-3.ensures last)
      c.print_line.ensures.printed;
  grows = c.print_line.ensures.grows;
}
