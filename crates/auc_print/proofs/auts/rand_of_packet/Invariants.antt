-- The remaining records have the packet, if the job has it.
use Rattle.std.proofs.Common.{◌≡◌, drop}
use Rattle.auc_print.specs.AutsText.{packet_among}
use Rattle.auc_print.proofs.auts.rand_of_packet.Given as goal

abbrev pub invariant-loop-answer : goal.invariant-loop-answer
invariant-loop-answer l = packet_among l.packet (drop l.answer-index l.job) ≡ packet_among l.packet l.job
