-- The line is that of the packet alone.
use Rattle.std.proofs.lemmas.Result.{on_ok_weaker}
use Rattle.auc_print.proofs.PieceLemmas.{packet_printed}
use Rattle.auc_print.proofs.added.print_packet.Goals as goal

pub returns-in-Some : goal.returns-in-Some
returns-in-Some c =
    rw c.in-Some.is
    (record {
      printed = on_ok_weaker c.print_line.result (λ last. packet_printed c.in-Some.packet _ _ _ _ c.decimal.ensures last) c.print_line.ensures.printed;
      grows = c.print_line.ensures.grows;
    })
