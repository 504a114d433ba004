-- Bytes and the packet that they are: EAP (RFC 3748 §4) and EAP-SIM (RFC 4186 §8.1). Reserved bytes, fill and the bytes
-- after Length are free.
use Rattle.std.specs.Prelude.{◌≡◌, ◌≢◌, ℕ, Bool, true, false, List, Err}
use Rattle.std.specs.List.{list_all}
use Rattle.auc_attr.specs.declared.frame.FrameFault.TheVariants as faults
use Rattle.auc_attr.specs.declared.refusal.AttrRefusal.{AttrRefusal}
use Rattle.auc_attr.specs.declared.refusal.AttrRefusal.TheVariants as attr_refusal
use Rattle.auc_attr.specs.declared.table.Table.TheVariants as tables
use Rattle.auc_attr.specs.Frame.{Ended, Message, frame_at_in, IsFramedIn}
use Rattle.auc_attr.specs.Grammar.{ReadsIn, FirstFaultIn}
use Rattle.auc_attr.specs.PacketFault.{PacketFault, Before, Within}
use Rattle.auc_sim_packet.specs.declared.attr.SimAttr.{SimAttr}
use Rattle.auc_sim_packet.specs.declared.packet.SimPacket.{SimPacket}
use Rattle.auc_sim_packet.specs.declared.packet.SimPacket.TheVariants as packet
use Rattle.auc_sim_packet.specs.declared.refusal.SimRefusal.{SimRefusal}
use Rattle.auc_sim_packet.specs.declared.refusal.SimRefusal.TheVariants as refusal
use Rattle.auc_sim_packet.specs.Attributes.{items, is_named, is_value}

-- the type of EAP-SIM (RFC 4186 §8.1)
abbrev pub sim_type : ℕ
sim_type = 18

-- the bytes are these attributes and nothing else
abbrev pub ReadsSimAttrs : List ℕ → List SimAttr → Type 0
ReadsSimAttrs bytes list = ReadsIn tables.Sim bytes (items list) × (list_all is_named list ≡ true)

-- the bytes are the packet
abbrev pub ReadsSim : List ℕ → SimPacket → Type 0
ReadsSim bytes (packet.Success id) = IsFramedIn tables.Sim (Ended true id) bytes
ReadsSim bytes (packet.Failure id) = IsFramedIn tables.Sim (Ended false id) bytes
ReadsSim bytes (packet.Sim request id subtype list) =
    (attrs : List ℕ) × IsFramedIn tables.Sim (Message request id sim_type subtype attrs) bytes × ReadsSimAttrs attrs list

-- each number in the attributes has 16 bits
abbrev pub has_values : SimPacket → Bool
has_values (packet.Sim request id subtype list) = list_all is_value list
has_values _ = true

-- the bytes are a message up to its attributes, and those have this first fault
pub record IsFaultWithinSim (bytes : List ℕ) (fault : AttrRefusal) : Type 0 where
  pub request : Bool
  pub id : ℕ
  pub kind : ℕ
  pub subtype : ℕ
  pub attrs : List ℕ
  pub framed : IsFramedIn tables.Sim (Message request id kind subtype attrs) bytes
  pub first : FirstFaultIn tables.Sim attrs fault

-- the fault is the first of the bytes: before the attributes, or in them
abbrev pub IsFirstSimFault : List ℕ → PacketFault → Type 0
IsFirstSimFault bytes (Before fault) = frame_at_in tables.Sim bytes ≡ Err fault
IsFirstSimFault bytes (Within fault) = (fault ≢ attr_refusal.NoMemory) × IsFaultWithinSim bytes fault

-- the refusal names the first fault of the bytes; a lack of memory isn't a fault of theirs
abbrev pub FirstSimFault : List ℕ → SimRefusal → Type 0
FirstSimFault bytes refusal.Short = IsFirstSimFault bytes (Before faults.Short)
FirstSimFault bytes refusal.BadCode = IsFirstSimFault bytes (Before faults.BadCode)
FirstSimFault bytes refusal.LengthDisagrees = IsFirstSimFault bytes (Before faults.LengthDisagrees)
FirstSimFault bytes (refusal.OtherType kind) = IsFirstSimFault bytes (Before (faults.OtherType kind))
FirstSimFault bytes (refusal.UnknownSubtype number) = IsFirstSimFault bytes (Before (faults.UnknownSubtype number))
FirstSimFault bytes (refusal.Attr fault) = IsFirstSimFault bytes (Within fault)
FirstSimFault bytes refusal.NoMemory = Unit {0}
