-- The words of the notes, of the packet and of the step come one after the other.
use Rattle.std.proofs.lemmas.Result.{on_ok_weaker}
use Rattle.auc_print.proofs.PieceLemmas.{note_printed}
use Rattle.auc_print.proofs.TextLemmas.{front_more}
use Rattle.auc_print.proofs.event.print_came.Goals as goal

pub returns-in_ok-print_group-in-Ok-2-clause-text : goal.returns-in_ok-print_group-in-Ok-2-clause-text
returns-in_ok-print_group-in-Ok-2-clause-text c =
    rw c.in-Ok.is
    (record {
      printed =
          on_ok_weaker c.print_group-in-Ok-2.result
          (λ last. note_printed c.in-Ok.note _ _ _ _ _ _ _ _ c.words_of_sent.ensures c.words_of_step.ensures c.words_of_why.ensures
          c.in_ok-print_notes-in-Ok.ensures.text.printed c.in_ok-print_group-in-Ok.ensures.printed c.in_ok-print_group-in-Ok-2.ensures.printed last)
          c.print_group-in-Ok-2.ensures.printed;
      grows =
          front_more _ _ _
          (front_more _ _ _ (front_more _ _ _ c.in_ok-print_notes-in-Ok.ensures.text.grows c.in_ok-print_group-in-Ok.ensures.grows) c.in_ok-print_group-in-Ok-2.ensures.grows)
          c.print_group-in-Ok-2.ensures.grows;
    })
