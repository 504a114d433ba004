-- What reading bytes as a packet gives.
use Rattle.std.specs.Prelude.{◌≡◌, ◌≢◌, ℕ, List}
use Rattle.auc_packet.specs.declared.refusal.PacketRefusal.TheVariants as refusal
use Rattle.auc_packet.specs.Packet.{ReadsPacket, FirstPacketFault}
use Rattle.auc_packet.specs.Spelling.{packet_text}
use Rattle.auc_packet_cli.specs.declared.answer.Answer.{Answer}
use Rattle.auc_packet_cli.specs.declared.answer.Answer.TheVariants as answer

-- a packet that they are, with its spelling, or their first fault
abbrev pub IsAnswer : List ℕ → Answer → Type 0
IsAnswer bytes (answer.Read packet written) = ReadsPacket bytes packet × (written ≡ packet_text packet)
IsAnswer bytes (answer.Refused fault) = (fault ≢ refusal.NoMemory) × FirstPacketFault bytes fault
