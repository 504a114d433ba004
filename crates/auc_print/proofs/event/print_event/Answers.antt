-- The words of what came of an event follow those of the event.
use Rattle.std.proofs.lemmas.Result.{on_ok_weaker}
use Rattle.auc_print.proofs.PieceLemmas.{append_front, event_printed}
use Rattle.auc_print.proofs.TextLemmas.{front_more}
use Rattle.auc_print.proofs.event.print_event.Goals as goal

pub returns-clause-text : goal.returns-clause-text
returns-clause-text c = record {
  printed =
      on_ok_weaker c.append-2.result
      (λ last. event_printed c.args.event.now _ _ _ _ _ _ _ c.words_of_deed.ensures.words c.in_ok-append.ensures.appended c.in_ok-print_group.ensures.printed
      c.in_ok-print_came.ensures.text.printed last)
      c.append-2.ensures.appended;
  grows =
      append_front c.append-2.result _ _ _ _
      (front_more _ _ _ (front_more _ _ _ (record { rest = _; is = c.in_ok-append.ensures.appended }) c.in_ok-print_group.ensures.grows) c.in_ok-print_came.ensures.text.grows)
      c.append-2.ensures.appended c.append-2.ensures.kept;
}
