-- The words follow the first, and then the line ends.
use Rattle.std.proofs.lemmas.Result.{on_ok_weaker}
use Rattle.auc_print.proofs.PieceLemmas.{append_front, line_printed}
use Rattle.auc_print.proofs.TextLemmas.{front_more}
use Rattle.auc_print.proofs.writer.print_line.Goals as goal

pub returns : goal.returns
returns c = record {
  printed =
      on_ok_weaker c.append-2.result
      (λ last. line_printed c.args.first.now _ _ _ _ _ c.in_ok-append.ensures.appended c.in_ok-print_group.ensures.printed last)
      c.append-2.ensures.appended;
  grows =
      append_front c.append-2.result _ _ _ _
      (front_more _ _ _ (record { rest = _; is = c.in_ok-append.ensures.appended }) c.in_ok-print_group.ensures.grows)
      c.append-2.ensures.appended c.append-2.ensures.kept;
}
