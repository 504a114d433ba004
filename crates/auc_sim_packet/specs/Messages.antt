-- The messages that both ends send (RFC 4186 §9). A message with AT_MAC is a draft, which is sealed.
use Rattle.std.specs.Prelude.{ℕ, true, false, List, [], ◌∷◌, flat_map}
use Rattle.auc_sim_packet.specs.Keys.{all_sres, rand_in}
use Rattle.auc_sim_packet.specs.Sealed.{sim_sealed}
use Rattle.auc_sim_packet.specs.declared.attr.SimAttr.TheVariants as attr
use Rattle.auc_sim_packet.specs.declared.packet.SimPacket.{SimPacket}
use Rattle.auc_sim_packet.specs.declared.packet.SimPacket.TheVariants as packet
use Rattle.auc_sim_packet.specs.declared.sealing.SimDraft.{SimDraft}
use Rattle.auc_sim_packet.specs.declared.parts.Triplet.{Triplet}

-- the numbers of the Subtypes (§11)
abbrev pub START : ℕ
START = 10

abbrev pub CHALLENGE : ℕ
CHALLENGE = 11

abbrev pub CLIENT_ERROR : ℕ
CLIENT_ERROR = 14

-- a list of versions that has version 1 alone (§10.2)
abbrev pub version_one : List ℕ
version_one = 0 ∷ 1 ∷ []

-- the Start request asks for the permanent identity and lists version 1 (§9.1); it is the first request
abbrev pub start_request : SimPacket
start_request = packet.Sim true 1 START (attr.PermanentIdReq ∷ attr.VersionList version_one ∷ [])

-- the Start response selects version 1 (§9.2)
abbrev pub start_response : ℕ → List ℕ → List ℕ → SimPacket
start_response id nonce identity = packet.Sim false id START (attr.NonceMt nonce ∷ attr.SelectedVersion 1 ∷ attr.Identity identity ∷ [])

-- the Challenge request has the RANDs (§9.3); it is the second request
abbrev pub challenge_request : List Triplet → SimDraft
challenge_request triplets = record { request = true; id = 2; subtype = CHALLENGE; attrs = attr.Rand (flat_map rand_in triplets) ∷ [] }

-- its bytes: AT_MAC authenticates NONCE_MT besides
abbrev pub request_bytes : List ℕ → List ℕ → List Triplet → List ℕ
request_bytes k_aut nonce triplets = sim_sealed k_aut nonce (challenge_request triplets)

-- the Challenge response has AT_MAC alone (§9.4)
abbrev pub challenge_response : ℕ → SimDraft
challenge_response id = record { request = false; id = id; subtype = CHALLENGE; attrs = [] }

-- its bytes: AT_MAC authenticates the SRES values besides
abbrev pub response_bytes : ℕ → List ℕ → List Triplet → List ℕ
response_bytes id k_aut triplets = sim_sealed k_aut (all_sres triplets) (challenge_response id)

-- Client-Error has a code (§9.7)
abbrev pub client_error : ℕ → ℕ → SimPacket
client_error id code = packet.Sim false id CLIENT_ERROR (attr.ClientErrorCode code ∷ [])
