-- The AKA-Identity packets of a session in their order, which its checkcode covers (RFC 4187 §10.13, RFC 9048 §3.4.3).
use Rattle.std.specs.Prelude.{ℕ, List}
use Rattle.auc_hmac.specs.declared.method.Method.{Method}
use Rattle.auc_packet.specs.Received.{packet_in}
use Rattle.auc_packet.specs.declared.packet.Packet.TheVariants as packet
use Rattle.auc_packet.specs.declared.received.Reading.{Reading}
use Rattle.auc_packet.specs.declared.received.Reading.TheVariants as reading
use Rattle.auc_packet.specs.declared.subtype.Subtype.TheVariants as subtype
use Rattle.auc_seal.specs.Checkcode.{checkcode_of, counted, value_bytes}

-- the packets after bytes were received: one more, if they are an AKA-Identity message
abbrev pub heard : List (List ℕ) → List ℕ → Reading → List (List ℕ)
heard packets bytes (reading.Read (packet.Aka request id m subtype.Identity list)) = counted (packet_in bytes) packets
heard packets bytes other = packets

-- the value of AT_CHECKCODE, empty if there is no packet
unfoldable pub checkcode : Method → List (List ℕ) → List ℕ
checkcode by packets = value_bytes (checkcode_of by packets)
