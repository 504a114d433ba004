-- The one spelling that is written of each packet, and which packets may be written.
use Rattle.std.specs.Prelude.{◌≡◌, ℕ, ◌+◌, ◌≤◌, Bool, true, false, List, [], ◌∷◌, ◌++◌, length}
use Rattle.std.specs.Int.{w16, to_be_bytes}
use Rattle.auc_attr.specs.Frame.{end_code, message_code}
use Rattle.auc_attr.specs.Spelling.{spelling, writable}
use Rattle.auc_packet.specs.declared.packet.Packet.{Packet}
use Rattle.auc_packet.specs.declared.packet.Packet.TheVariants as packet
use Rattle.auc_packet.specs.Packet.{method_type, subtype_number}

-- code, Identifier and Length, and what follows them
abbrev pub whole : ℕ → ℕ → List ℕ → List ℕ
whole code id rest = code ∷ id ∷ (to_be_bytes w16 (4 + length rest) ++ rest)

abbrev pub packet_text : Packet → List ℕ
packet_text (packet.Success id) = whole (end_code true) id []
packet_text (packet.Failure id) = whole (end_code false) id []
packet_text (packet.Identity request id text) = whole (message_code request) id (1 ∷ text)
packet_text (packet.Aka request id m s list) = whole (message_code request) id (method_type m ∷ subtype_number s ∷ 0 ∷ 0 ∷ spelling list)

abbrev pub writable_attrs : Packet → Bool
writable_attrs (packet.Aka request id m s list) = writable list
writable_attrs _ = true

-- its attributes may be written, and it has at most 4096 bytes
pub record MayBeWritten (p : Packet) : Type 0 where
  pub attrs : writable_attrs p ≡ true
  pub size : length (packet_text p) ≤ 4096
