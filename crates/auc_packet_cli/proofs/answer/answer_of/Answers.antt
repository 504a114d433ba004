use Rattle.std.proofs.Common.{arith}
use Rattle.auc_packet.proofs.Facts.{read_may_be_written}
use Rattle.auc_packet_cli.proofs.answer.answer_of.Goals as goal

pub write_packet-requires : goal.write_packet-requires
write_packet-requires c =
    let w = read_may_be_written c.args.bytes.now c.in-Ok.packet (λ i. omega (arith, c.type_inv.bytes i)) c.in-Ok.ensures.read in
    record { attrs = w.0; size = omega (arith, w.1, w.2, c.requires) }
