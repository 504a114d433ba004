-- Bytes and the packet that they are: EAP (RFC 3748 §4 and §5.1), EAP-AKA (RFC 4187 §8.1) and EAP-AKA'
-- (RFC 9048 §3). Reserved bytes, fill and the bytes after Length are free.
use Rattle.std.specs.Prelude.{ℕ, true, false, List}
pub use Rattle.auc_hmac.specs.Method.{method_type}
use Rattle.auc_attr.specs.declared.frame.FrameFault.TheVariants as faults
use Rattle.auc_attr.specs.Frame.{Ended, Named, Message, IsFramed}
use Rattle.auc_attr.specs.Grammar.{ReadsAttrs}
use Rattle.auc_attr.specs.PacketFault.{Before, Within, IsFirstFault}
use Rattle.auc_packet.specs.declared.packet.Packet.{Packet}
use Rattle.auc_packet.specs.declared.packet.Packet.TheVariants as packet
use Rattle.auc_packet.specs.declared.refusal.PacketRefusal.{PacketRefusal}
use Rattle.auc_packet.specs.declared.refusal.PacketRefusal.TheVariants as refusal
use Rattle.auc_packet.specs.declared.subtype.Subtype.{Subtype}
use Rattle.auc_packet.specs.declared.subtype.Subtype.TheVariants as subtype

-- the number of a Subtype (RFC 4187 §11)
abbrev pub subtype_number : Subtype → ℕ
subtype_number subtype.Challenge = 1
subtype_number subtype.AuthenticationReject = 2
subtype_number subtype.SynchronizationFailure = 4
subtype_number subtype.Identity = 5
subtype_number subtype.Notification = 12
subtype_number subtype.Reauthentication = 13
subtype_number subtype.ClientError = 14

-- the bytes are the packet
abbrev pub ReadsPacket : List ℕ → Packet → Type 0
ReadsPacket bytes (packet.Success id) = IsFramed (Ended true id) bytes
ReadsPacket bytes (packet.Failure id) = IsFramed (Ended false id) bytes
ReadsPacket bytes (packet.Identity request id text) = IsFramed (Named request id text) bytes
ReadsPacket bytes (packet.Aka request id m s list) =
    (attrs : List ℕ) × IsFramed (Message request id (method_type m) (subtype_number s) attrs) bytes × ReadsAttrs attrs list

-- the refusal names the first fault of the bytes; a lack of memory isn't a fault of theirs
abbrev pub FirstPacketFault : List ℕ → PacketRefusal → Type 0
FirstPacketFault bytes refusal.Short = IsFirstFault bytes (Before faults.Short)
FirstPacketFault bytes refusal.BadCode = IsFirstFault bytes (Before faults.BadCode)
FirstPacketFault bytes refusal.LengthDisagrees = IsFirstFault bytes (Before faults.LengthDisagrees)
FirstPacketFault bytes (refusal.OtherType kind) = IsFirstFault bytes (Before (faults.OtherType kind))
FirstPacketFault bytes (refusal.UnknownSubtype number) = IsFirstFault bytes (Before (faults.UnknownSubtype number))
FirstPacketFault bytes (refusal.Attr fault) = IsFirstFault bytes (Within fault)
FirstPacketFault bytes refusal.NoMemory = Unit {0}
