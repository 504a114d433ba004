-- The words of the notes come one after the other.
use Rattle.std.proofs.lemmas.Result.{on_ok_weaker}
use Rattle.auc_print.proofs.PieceLemmas.{notes_printed}
use Rattle.auc_print.proofs.TextLemmas.{front_more}
use Rattle.auc_print.proofs.notes.print_notes.Goals as goal

pub returns-clause-text : goal.returns-clause-text
returns-clause-text c = record {
  printed =
      on_ok_weaker c.print_group-5.result
      (λ last. notes_printed c.args.notes.now _ _ _ _ _ _ _ _ _ _ _ c.words_of_resync.ensures c.words_of_number.ensures c.words_of_resumed.ensures
      c.words_of_usim.ensures.words c.words_of_counter.ensures c.in_ok-print_group.ensures.printed c.in_ok-print_group-2.ensures.printed
      c.in_ok-print_group-3.ensures.printed c.in_ok-print_group-4.ensures.printed last)
      c.print_group-5.ensures.printed;
  grows =
      front_more _ _ _
      (front_more _ _ _
      (front_more _ _ _ (front_more _ _ _ c.in_ok-print_group.ensures.grows c.in_ok-print_group-2.ensures.grows) c.in_ok-print_group-3.ensures.grows)
      c.in_ok-print_group-4.ensures.grows)
      c.print_group-5.ensures.grows;
}
