-- A message with its message authentication code (RFC 4187 §10.15, RFC 9048 §3.4.2), which stands last.
use Rattle.std.specs.Prelude.{◌≡◌, ℕ, true, List, [], ◌∷◌, ◌++◌}
use Rattle.std.specs.List.{list_all}
use Rattle.auc_attr.specs.declared.attr.Attr.TheVariants as attr
use Rattle.auc_attr.specs.Laws.{is_value}
use Rattle.auc_hmac.specs.Mac.{no_mac, mac_of}
use Rattle.auc_packet.specs.declared.packet.Packet.{Packet}
use Rattle.auc_packet.specs.declared.packet.Packet.TheVariants as packet
use Rattle.auc_packet.specs.declared.received.Reading.TheVariants as reading
use Rattle.auc_packet.specs.declared.sealing.Draft.{Draft}
use Rattle.auc_packet.specs.Received.{Seen, IsReceived, is_sealed}
use Rattle.auc_packet.specs.Spelling.{packet_text, MayBeWritten}

-- the message with a value of AT_MAC
abbrev pub with_mac : Draft → List ℕ → Packet
with_mac draft mac = packet.Aka draft.request draft.id draft.method draft.subtype (draft.attrs ++ attr.Mac mac ∷ [])

-- the right value: over the message with the value zero, and what it authenticates besides
abbrev pub draft_mac : List ℕ → List ℕ → Draft → List ℕ
draft_mac k_aut extra draft = mac_of draft.method k_aut (packet_text (with_mac draft no_mac) ++ extra)

-- the bytes of the message with the right value
abbrev pub sealed : List ℕ → List ℕ → Draft → List ℕ
sealed k_aut extra draft = packet_text (with_mac draft (draft_mac k_aut extra draft))

-- the message may be written with AT_MAC after its attributes
abbrev pub MayBeSealed : Draft → Type 0
MayBeSealed draft = MayBeWritten (with_mac draft no_mac)

-- a sealed message whose numbers have 16 bits is received as itself, whatever follows it
abbrev pub SealedIsRead : Type 0
SealedIsRead = (k_aut extra past : List ℕ) (draft : Draft) (seen : Seen) → MayBeSealed draft → list_all is_value draft.attrs ≡ true → IsReceived seen
    → seen.bytes ≡ sealed k_aut extra draft ++ past → seen.reading ≡ reading.Read (with_mac draft (draft_mac k_aut extra draft))

-- a sealed message is received with a right MAC, whatever follows it
abbrev pub SealedIsRight : Type 0
SealedIsRight = (k_aut extra past : List ℕ) (draft : Draft) (seen : Seen) → MayBeSealed draft → IsReceived seen → seen.bytes ≡ sealed k_aut extra draft ++ past
    → is_sealed draft.method k_aut extra seen ≡ true
