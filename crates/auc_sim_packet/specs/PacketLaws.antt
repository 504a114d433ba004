-- What holds of all bytes and all packets.
use Rattle.std.specs.Prelude.{◌≡◌, ◌≢◌, ◌≤◌, ℕ, true, List, ◌++◌, length}
use Rattle.auc_attr.specs.Frame.{length_of}
use Rattle.auc_attr.specs.Laws.{AreBytes}
use Rattle.auc_sim_packet.specs.declared.packet.SimPacket.{SimPacket}
use Rattle.auc_sim_packet.specs.declared.refusal.SimRefusal.{SimRefusal}
use Rattle.auc_sim_packet.specs.declared.refusal.SimRefusal.TheVariants as refusal
use Rattle.auc_sim_packet.specs.Packet.{ReadsSim, FirstSimFault, has_values}
use Rattle.auc_sim_packet.specs.Spelling.{sim_text, writable_parts, MayBeWrittenSim}

-- bytes are one packet
abbrev pub OnePacket : Type 0
OnePacket = (bytes : List ℕ) (p q : SimPacket) → has_values p ≡ true → has_values q ≡ true → ReadsSim bytes p → ReadsSim bytes q → p ≡ q

-- bytes have one first fault
abbrev pub OneFault : Type 0
OneFault = (bytes : List ℕ) (f g : SimRefusal) → f ≢ refusal.NoMemory → g ≢ refusal.NoMemory → FirstSimFault bytes f → FirstSimFault bytes g → f ≡ g

-- bytes with a fault aren't a packet
abbrev pub RefusedIsNotRead : Type 0
RefusedIsNotRead = (bytes : List ℕ) (p : SimPacket) (f : SimRefusal) → f ≢ refusal.NoMemory → FirstSimFault bytes f → ReadsSim bytes p → ⊥

-- a written packet is read as itself, whatever follows it
abbrev pub WrittenIsRead : Type 0
WrittenIsRead = (p : SimPacket) (past : List ℕ) → MayBeWrittenSim p → ReadsSim (sim_text p ++ past) p

-- a packet that was read has a Subtype and attributes that may be written, and takes as many bytes as Length says, no more
-- than there are
abbrev pub ReadIsWritable : Type 0
ReadIsWritable = (bytes : List ℕ) (p : SimPacket) → AreBytes bytes → ReadsSim bytes p
    → (writable_parts p ≡ true) × (length (sim_text p) ≡ length_of bytes) × (length_of bytes ≤ length bytes)
