-- What holds of all bytes and all packets.
use Rattle.std.specs.Prelude.{◌≡◌, ◌≢◌, ◌≤◌, ℕ, Bool, true, List, ◌++◌, length}
use Rattle.std.specs.List.{list_all}
use Rattle.auc_attr.specs.Frame.{length_of}
use Rattle.auc_attr.specs.Laws.{AreBytes, is_value}
use Rattle.auc_packet.specs.declared.packet.Packet.{Packet}
use Rattle.auc_packet.specs.declared.packet.Packet.TheVariants as packet
use Rattle.auc_packet.specs.declared.refusal.PacketRefusal.{PacketRefusal}
use Rattle.auc_packet.specs.declared.refusal.PacketRefusal.TheVariants as refusal
use Rattle.auc_packet.specs.Packet.{ReadsPacket, FirstPacketFault}
use Rattle.auc_packet.specs.Spelling.{packet_text, writable_attrs, MayBeWritten}

-- each number in the attributes has 16 bits
abbrev pub has_values : Packet → Bool
has_values (packet.Aka request id m s list) = list_all is_value list
has_values _ = true

-- bytes are one packet
abbrev pub OnePacket : Type 0
OnePacket = (bytes : List ℕ) (p q : Packet) → has_values p ≡ true → has_values q ≡ true → ReadsPacket bytes p → ReadsPacket bytes q → p ≡ q

-- bytes have one first fault
abbrev pub OneFault : Type 0
OneFault = (bytes : List ℕ) (f g : PacketRefusal) → f ≢ refusal.NoMemory → g ≢ refusal.NoMemory → FirstPacketFault bytes f → FirstPacketFault bytes g → f ≡ g

-- bytes with a fault aren't a packet
abbrev pub RefusedIsNotRead : Type 0
RefusedIsNotRead = (bytes : List ℕ) (p : Packet) (f : PacketRefusal) → f ≢ refusal.NoMemory → FirstPacketFault bytes f → ReadsPacket bytes p → ⊥

-- a written packet is read as itself, whatever follows it
abbrev pub WrittenIsRead : Type 0
WrittenIsRead = (p : Packet) (past : List ℕ) → MayBeWritten p → ReadsPacket (packet_text p ++ past) p

-- a packet that was read has attributes that may be written, and takes as many bytes as Length says, no more than there
-- are
abbrev pub ReadIsWritable : Type 0
ReadIsWritable = (bytes : List ℕ) (p : Packet) → AreBytes bytes → ReadsPacket bytes p → (writable_attrs p ≡ true) × (length (packet_text p) ≡ length_of bytes) × (length_of bytes ≤ length bytes)
