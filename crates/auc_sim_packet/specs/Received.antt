-- Bytes as they were received: what they are, and whether the value of their AT_MAC is right (RFC 4186 §10.14).
use Rattle.std.specs.Prelude.{◌≡◌, ◌≢◌, ℕ, Bool, true, false, List, Option, Some, None}
use Rattle.std.specs.Str.{bytes_eq}
use Rattle.auc_attr.specs.declared.table.Table.TheVariants as tables
use Rattle.auc_attr.specs.Frame.{length_of}
use Rattle.auc_attr.specs.Mac.{IsMacPlaceIn}
use Rattle.auc_hmac.specs.Mac.{mac_value, mac_at}
use Rattle.auc_hmac.specs.declared.method.Method.TheVariants as method
use Rattle.auc_sim_packet.specs.declared.packet.SimPacket.{SimPacket}
use Rattle.auc_sim_packet.specs.declared.received.SimReceived.{SimReceived}
use Rattle.auc_sim_packet.specs.declared.refusal.SimRefusal.{SimRefusal}
use Rattle.auc_sim_packet.specs.declared.refusal.SimRefusal.TheVariants as refusal
use Rattle.auc_sim_packet.specs.Packet.{ReadsSim, FirstSimFault, has_values}

-- a packet whose numbers have 16 bits, or none if the bytes have a fault
abbrev pub IsSimReading : List ℕ → Option SimPacket → Type 0
IsSimReading bytes (Some p) = ReadsSim bytes p × (has_values p ≡ true)
IsSimReading bytes None = (f : SimRefusal) × FirstSimFault bytes f × (f ≢ refusal.NoMemory)

-- bytes, the packet that they are, and the place of the value of their AT_MAC
pub record SimSeen : Type 0 where
  pub bytes : List ℕ
  pub packet : Option SimPacket
  pub place : Option ℕ

abbrev pub sim_seen_of : SimReceived → SimSeen
sim_seen_of received = record { bytes = received.bytes.now; packet = received.packet; place = received.place }

pub record IsSimReceived (seen : SimSeen) : Type 0 where
  pub reads : IsSimReading seen.bytes seen.packet
  pub placed : IsMacPlaceIn tables.Sim seen.bytes seen.place

-- whether the value of AT_MAC that begins at a place is right; without a place it isn't. The code is that of EAP-AKA:
-- HMAC-SHA1-128 over the packet with the value zero, and what the message authenticates besides
abbrev pub is_sim_sealed_at : List ℕ → List ℕ → List ℕ → Option ℕ → Bool
is_sim_sealed_at k_aut extra bytes None = false
is_sim_sealed_at k_aut extra bytes (Some place) =
    bytes_eq (mac_value bytes place) (mac_at method.Aka k_aut (length_of bytes) bytes place extra)

-- whether received bytes have AT_MAC, and its value is right
unfoldable pub is_sim_sealed : List ℕ → List ℕ → SimSeen → Bool
is_sim_sealed k_aut extra seen = is_sim_sealed_at k_aut extra seen.bytes seen.place

-- equal bytes are received alike
abbrev pub OneReceived : Type 0
OneReceived = (seen other : SimSeen) → seen.bytes ≡ other.bytes → IsSimReceived seen → IsSimReceived other → seen ≡ other
