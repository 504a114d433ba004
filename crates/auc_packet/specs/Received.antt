-- Bytes as they were received: what they are, and whether the value of their AT_MAC is right.
use Rattle.std.specs.Prelude.{◌≡◌, ◌≢◌, ℕ, nat_lt, Bool, true, false, if◌then◌else◌, List, [], length, take, Option, Some, None}
use Rattle.std.specs.Str.{bytes_eq}
use Rattle.auc_attr.specs.Frame.{length_of}
use Rattle.auc_attr.specs.declared.attr.Attr.{Attr}
use Rattle.auc_attr.specs.Mac.{IsMacPlace}
use Rattle.auc_hmac.specs.Mac.{mac_value, mac_at}
use Rattle.auc_hmac.specs.declared.method.Method.{Method}
use Rattle.auc_packet.specs.declared.packet.Packet.TheVariants as packet
use Rattle.auc_packet.specs.declared.received.Reading.{Reading}
use Rattle.auc_packet.specs.declared.received.Reading.TheVariants as reading
use Rattle.auc_packet.specs.declared.received.Received.{Received}
use Rattle.auc_packet.specs.declared.refusal.PacketRefusal.TheVariants as refusal
use Rattle.auc_packet.specs.Laws.{has_values}
use Rattle.auc_packet.specs.Packet.{ReadsPacket, FirstPacketFault}

-- a packet whose numbers have 16 bits, or the first fault, which isn't a lack of memory
abbrev pub IsReading : List ℕ → Reading → Type 0
IsReading bytes (reading.Read p) = ReadsPacket bytes p × (has_values p ≡ true)
IsReading bytes (reading.Fault fault) = FirstPacketFault bytes fault × (fault ≢ refusal.NoMemory)

-- the attributes of a message; another packet has none
abbrev pub attrs_in : Reading → List Attr
attrs_in (reading.Read (packet.Aka request id m s list)) = list
attrs_in other = []

-- the packet at the front of received bytes, as long as Length says; a packet has at least 4 bytes
abbrev pub packet_in : List ℕ → List ℕ
packet_in bytes = if nat_lt (length bytes) 4 then bytes else take (length_of bytes) bytes

-- bytes, what they are, and the place of the value of their AT_MAC
pub record Seen : Type 0 where
  pub bytes : List ℕ
  pub reading : Reading
  pub place : Option ℕ

abbrev pub seen_of : Received → Seen
seen_of received = record { bytes = received.bytes.now; reading = received.reading; place = received.place }

pub record IsReceived (seen : Seen) : Type 0 where
  pub reads : IsReading seen.bytes seen.reading
  pub placed : IsMacPlace seen.bytes seen.place

-- whether the value of AT_MAC that begins at a place is right; without a place it isn't
abbrev pub is_sealed_at : Method → List ℕ → List ℕ → List ℕ → Option ℕ → Bool
is_sealed_at method k_aut extra bytes None = false
is_sealed_at method k_aut extra bytes (Some place) =
    bytes_eq (mac_value bytes place) (mac_at method k_aut (length_of bytes) bytes place extra)

-- whether received bytes have AT_MAC, and its value is right
unfoldable pub is_sealed : Method → List ℕ → List ℕ → Seen → Bool
is_sealed method k_aut extra seen = is_sealed_at method k_aut extra seen.bytes seen.place

-- equal bytes are received alike
abbrev pub OneReceived : Type 0
OneReceived = (seen other : Seen) → seen.bytes ≡ other.bytes → IsReceived seen → IsReceived other → seen ≡ other
