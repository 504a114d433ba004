-- The one spelling that is written of each packet, and which packets may be written.
use Rattle.std.specs.Prelude.{◌≡◌, ℕ, ◌+◌, ◌≤◌, Bool, true, false, ◌&&◌, List, [], ◌∷◌, ◌++◌, length}
use Rattle.std.specs.List.{list_all}
use Rattle.std.specs.Int.{w16, to_be_bytes}
use Rattle.auc_attr.specs.declared.table.Table.TheVariants as tables
use Rattle.auc_attr.specs.Frame.{end_code, message_code, is_subtype_in}
use Rattle.auc_attr.specs.Spelling.{texts_in, writable_in}
use Rattle.auc_sim_packet.specs.declared.attr.SimAttr.{SimAttr}
use Rattle.auc_sim_packet.specs.declared.packet.SimPacket.{SimPacket}
use Rattle.auc_sim_packet.specs.declared.packet.SimPacket.TheVariants as packet
use Rattle.auc_sim_packet.specs.Attributes.{items, is_named}
use Rattle.auc_sim_packet.specs.Packet.{sim_type}

-- whether a list has a spelling that can be read: each value has one, each attribute goes by its own name, and a type of
-- the table stands once
abbrev pub writable : List SimAttr → Bool
writable list = writable_in tables.Sim (items list) && list_all is_named list

-- the bytes that are written of a list of attributes
abbrev pub spelling : List SimAttr → List ℕ
spelling list = texts_in tables.Sim (items list)

-- code, Identifier and Length, and what follows them
abbrev pub whole : ℕ → ℕ → List ℕ → List ℕ
whole code id rest = code ∷ id ∷ (to_be_bytes w16 (4 + length rest) ++ rest)

abbrev pub sim_text : SimPacket → List ℕ
sim_text (packet.Success id) = whole (end_code true) id []
sim_text (packet.Failure id) = whole (end_code false) id []
sim_text (packet.Sim request id subtype list) = whole (message_code request) id (sim_type ∷ subtype ∷ 0 ∷ 0 ∷ spelling list)

-- whether a packet's Subtype is one of EAP-SIM's, and its attributes may be written
abbrev pub writable_parts : SimPacket → Bool
writable_parts (packet.Sim request id subtype list) = is_subtype_in tables.Sim subtype && writable list
writable_parts _ = true

-- its Subtype and its attributes may be written, and it has at most 4096 bytes
pub record MayBeWrittenSim (p : SimPacket) : Type 0 where
  pub parts : writable_parts p ≡ true
  pub size : length (sim_text p) ≤ 4096
