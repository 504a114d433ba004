-- The words follow the IMSI, and then the line ends.
use Rattle.std.proofs.lemmas.Result.{on_ok_weaker}
use Rattle.auc_print.proofs.PieceLemmas.{append_front, named_printed}
use Rattle.auc_print.proofs.TextLemmas.{front_more}
use Rattle.auc_print.proofs.writer.print_named.Goals as goal

pub returns : goal.returns
returns c = record {
  printed =
      on_ok_weaker c.append.result
      (λ last. named_printed c.args.first.now _ _ _ _ _ _ c.in_ok-print_subject.ensures.printed c.in_ok-print_group.ensures.printed last)
      c.append.ensures.appended;
  grows =
      append_front c.append.result _ _ _ _ (front_more _ _ _ c.in_ok-print_subject.ensures.grows c.in_ok-print_group.ensures.grows)
      c.append.ensures.appended c.append.ensures.kept;
}
