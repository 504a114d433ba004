-- A message with its message authentication code (RFC 4186 §10.14), which stands last.
use Rattle.std.specs.Prelude.{◌≡◌, ℕ, true, List, [], ◌∷◌, ◌++◌, Some}
use Rattle.std.specs.List.{list_all}
use Rattle.auc_hmac.specs.Mac.{no_mac, mac_of}
use Rattle.auc_hmac.specs.declared.method.Method.TheVariants as method
use Rattle.auc_sim_packet.specs.declared.attr.SimAttr.TheVariants as attr
use Rattle.auc_sim_packet.specs.declared.packet.SimPacket.{SimPacket}
use Rattle.auc_sim_packet.specs.declared.packet.SimPacket.TheVariants as packet
use Rattle.auc_sim_packet.specs.declared.sealing.SimDraft.{SimDraft}
use Rattle.auc_sim_packet.specs.Attributes.{is_value}
use Rattle.auc_sim_packet.specs.Received.{SimSeen, IsSimReceived, is_sim_sealed}
use Rattle.auc_sim_packet.specs.Packet.{has_values}
use Rattle.auc_sim_packet.specs.Spelling.{sim_text, MayBeWrittenSim}

-- the message with a value of AT_MAC
abbrev pub with_mac : SimDraft → List ℕ → SimPacket
with_mac draft mac = packet.Sim draft.request draft.id draft.subtype (draft.attrs ++ attr.Mac mac ∷ [])

-- the right value: over the message with the value zero, and what it authenticates besides
abbrev pub draft_mac : List ℕ → List ℕ → SimDraft → List ℕ
draft_mac k_aut extra draft = mac_of method.Aka k_aut (sim_text (with_mac draft no_mac) ++ extra)

-- the message with the right value
abbrev pub sealed_packet : List ℕ → List ℕ → SimDraft → SimPacket
sealed_packet k_aut extra draft = with_mac draft (draft_mac k_aut extra draft)

-- its bytes
abbrev pub sim_sealed : List ℕ → List ℕ → SimDraft → List ℕ
sim_sealed k_aut extra draft = sim_text (sealed_packet k_aut extra draft)

-- the message may be written with AT_MAC after its attributes
abbrev pub MayBeSealedSim : SimDraft → Type 0
MayBeSealedSim draft = MayBeWrittenSim (with_mac draft no_mac)

-- a written packet whose numbers have 16 bits is received as itself, whatever follows it
abbrev pub WrittenIsReceived : Type 0
WrittenIsReceived = (p : SimPacket) (past : List ℕ) (seen : SimSeen) → MayBeWrittenSim p → has_values p ≡ true → IsSimReceived seen
    → seen.bytes ≡ sim_text p ++ past → seen.packet ≡ Some p

-- a sealed message whose numbers have 16 bits is received as itself, whatever follows it
abbrev pub SealedIsRead : Type 0
SealedIsRead = (k_aut extra past : List ℕ) (draft : SimDraft) (seen : SimSeen) → MayBeSealedSim draft → list_all is_value draft.attrs ≡ true
    → IsSimReceived seen → seen.bytes ≡ sim_sealed k_aut extra draft ++ past → seen.packet ≡ Some (sealed_packet k_aut extra draft)

-- a sealed message is received with a right MAC, whatever follows it
abbrev pub SealedIsRight : Type 0
SealedIsRight = (k_aut extra past : List ℕ) (draft : SimDraft) (seen : SimSeen) → MayBeSealedSim draft → IsSimReceived seen
    → seen.bytes ≡ sim_sealed k_aut extra draft ++ past → is_sim_sealed k_aut extra seen ≡ true
