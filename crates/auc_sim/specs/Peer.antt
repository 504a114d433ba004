-- The peer of a session (RFC 4186 §3 and §4): its states, and what it does with what it receives.
use Rattle.std.specs.Prelude.{◌≡◌, ℕ, ◌==◌, ◌&&◌, ◌||◌, Bool, false, not, if◌then◌else◌, List, [], ◌∷◌, length, map, Option, Some, None}
use Rattle.std.specs.List.{list_any}
use Rattle.std.specs.Str.{bytes_eq}
use Rattle.auc_hmac.specs.Piece.{piece}
use Rattle.auc_hmac.specs.declared.keys.KeySet.{KeySet}
use Rattle.auc_milenage.specs.declared.secret.Secret.{Secret}
use Rattle.auc_sim.specs.Triplets.{card_of}
use Rattle.auc_sim.specs.declared.peer.SimLast.{SimLast}
use Rattle.auc_sim.specs.declared.peer.SimWait.{SimWait}
use Rattle.auc_sim.specs.declared.peer.SimWait.TheVariants as wait
use Rattle.auc_vector.specs.declared.why.SimWhy.{SimWhy}
use Rattle.auc_vector.specs.declared.why.SimWhy.TheVariants as why
use Rattle.auc_sim_packet.specs.Attributes.{first_value, has, rands_of, versions_of}
use Rattle.auc_sim_packet.specs.Keys.{sim_key_set}
use Rattle.auc_sim_packet.specs.Messages.{CHALLENGE, START, client_error, response_bytes, start_response}
use Rattle.auc_sim_packet.specs.Received.{IsSimReceived, SimSeen, is_sim_sealed}
use Rattle.auc_sim_packet.specs.Spelling.{sim_text}
use Rattle.auc_sim_packet.specs.declared.attr.SimAttr.{SimAttr}
use Rattle.auc_sim_packet.specs.declared.packet.SimPacket.{SimPacket}
use Rattle.auc_sim_packet.specs.declared.packet.SimPacket.TheVariants as packet
use Rattle.auc_sim_packet.specs.declared.parts.Triplet.{Triplet}
use Rattle.auc_vector.specs.declared.turn.Outcome.{Outcome}
use Rattle.auc_vector.specs.declared.turn.Outcome.TheVariants as outcome
use Rattle.auc_vector.specs.declared.turn.Reason.{Reason}
use Rattle.auc_vector.specs.declared.turn.Reason.TheVariants as reason
use Rattle.auc_vector.specs.declared.turn.Step.{Step}
use Rattle.auc_vector.specs.declared.turn.Step.TheVariants as step

-- the secret of its USIM, the identity and the NONCE_MT that it sends, the request that it answered last, and where it
-- stands
pub record SimPeerState : Type 0 where
  pub secret : Secret
  pub identity : List ℕ
  pub nonce : List ℕ
  pub last : Option SimLast
  pub at : SimWait

-- a peer that has received nothing
abbrev pub new_peer : Secret → List ℕ → List ℕ → SimPeerState
new_peer s identity nonce = record { secret = s; identity = identity; nonce = nonce; last = None; at = wait.WaitStart }

-- ---- what it does

-- a packet is ignored
abbrev pub ignored : SimPeerState → Reason → SimPeerState × Step SimWhy
ignored p cause = (p, step.Ignored cause)

-- the session ends, and nothing is sent
abbrev pub ended : SimPeerState → Outcome SimWhy → SimPeerState × Step SimWhy
ended p end = (record p { at = wait.Ended end }, step.Ended end [])

-- a request of an Identifier, with its answer
abbrev pub last_of : ℕ → List ℕ → List ℕ → SimLast
last_of id request answer = record { id = id; request = request; answer = answer }

-- a request is answered, and both are kept
abbrev pub answered : SimPeerState → SimSeen → ℕ → SimWait → List ℕ → SimPeerState × Step SimWhy
answered p seen id next bytes = (
  record p { last = Some (last_of id seen.bytes bytes); at = next },
  step.Sent bytes,
)

-- a request is refused by Client-Error with a code (§6.3.1 and §10.19)
abbrev pub refused : SimPeerState → SimSeen → ℕ → SimWhy → ℕ → SimPeerState × Step SimWhy
refused p seen id cause code = answered p seen id (wait.Refusing cause) (sim_text (client_error id code))

-- ---- the Start request

-- whether version 1 is among versions of 2 bytes each
abbrev pub offers_one : List ℕ → Bool
offers_one (high ∷ low ∷ versions) = (high == 0 && low == 1) || offers_one versions
offers_one other = false

-- a Start request has AT_VERSION_LIST (§9.1); without version 1 it is refused with code 1
abbrev pub on_versions : SimPeerState → SimSeen → ℕ → Option (List ℕ) → SimPeerState × Step SimWhy
on_versions p seen id None = ignored p reason.Unexpected
on_versions p seen id (Some versions) =
    if offers_one versions then answered p seen id (wait.WaitChallenge versions) (sim_text (start_response id p.nonce p.identity))
    else refused p seen id why.Version 1

-- ---- the Challenge request

-- the two or three RANDs of an AT_RAND, 16 bytes each (§10.9)
abbrev pub rands_in : List ℕ → List (List ℕ)
rands_in value =
    if length value == 48 then piece 0 16 value ∷ piece 16 16 value ∷ piece 32 16 value ∷ []
    else piece 0 16 value ∷ piece 16 16 value ∷ []

-- whether two of some RANDs are equal
abbrev pub has_equal : List (List ℕ) → Bool
has_equal [] = false
has_equal (rand ∷ rands) = list_any (λ other. bytes_eq other rand) rands || has_equal rands

-- the triplets that a USIM makes of RANDs
abbrev pub cards : Secret → List (List ℕ) → List Triplet
cards s rands = map (card_of s) rands

-- the value of AT_MAC has to be right under some keys, else the request is refused with code 0
abbrev pub on_keys : SimPeerState → SimSeen → ℕ → List Triplet → KeySet → SimPeerState × Step SimWhy
on_keys p seen id triplets keys =
    if is_sim_sealed keys.k_aut p.nonce seen then answered p seen id (wait.Answered keys) (response_bytes id keys.k_aut triplets)
    else refused p seen id why.WrongMac 0

-- the keys are those of the versions that the server listed
abbrev pub on_triplets : SimPeerState → SimSeen → ℕ → List ℕ → List Triplet → SimPeerState × Step SimWhy
on_triplets p seen id versions triplets = on_keys p seen id triplets (sim_key_set p.identity triplets p.nonce versions)

-- two equal RANDs aren't fresh: the request is refused with code 3, before AT_MAC is tested
abbrev pub on_rands : SimPeerState → SimSeen → ℕ → List ℕ → List (List ℕ) → SimPeerState × Step SimWhy
on_rands p seen id versions rands =
    if has_equal rands then refused p seen id why.NotFresh 3 else on_triplets p seen id versions (cards p.secret rands)

abbrev pub on_value : SimPeerState → SimSeen → ℕ → List ℕ → Option (List ℕ) → SimPeerState × Step SimWhy
on_value p seen id versions None = ignored p reason.Unexpected
on_value p seen id versions (Some value) = on_rands p seen id versions (rands_in value)

-- a Challenge request has AT_RAND and AT_MAC (§9.3)
abbrev pub on_challenge : SimPeerState → SimSeen → ℕ → List ℕ → List SimAttr → SimPeerState × Step SimWhy
on_challenge p seen id versions list =
    if not (has list 11) then ignored p reason.Unexpected else on_value p seen id versions (first_value rands_of list)

-- ---- Success and Failure (RFC 3748 §4.2)

-- whether an Identifier is that of the request that was answered last
abbrev pub is_last : Option SimLast → ℕ → Bool
is_last None id = false
is_last (Some last) id = id == last.id

abbrev pub on_success : SimPeerState → SimWait → SimPeerState × Step SimWhy
on_success p (wait.Answered keys) = ended p (outcome.Success keys)
on_success p other = ignored p reason.Unexpected

abbrev pub on_failure : SimPeerState → SimWait → SimPeerState × Step SimWhy
on_failure p (wait.Refusing cause) = ended p (outcome.Failure cause)
on_failure p other = ended p (outcome.Failure why.FailureReceived)

-- ---- packets

-- a request, by what the peer waits for
abbrev pub on_request : SimPeerState → SimWait → SimSeen → ℕ → ℕ → List SimAttr → SimPeerState × Step SimWhy
on_request p wait.WaitStart seen id subtype list =
    if subtype == START then on_versions p seen id (first_value versions_of list) else ignored p reason.Unexpected
on_request p (wait.WaitChallenge versions) seen id subtype list =
    if subtype == CHALLENGE then on_challenge p seen id versions list else ignored p reason.Unexpected
on_request p other seen id subtype list = ignored p reason.Unexpected

abbrev pub on_packet : SimPeerState → SimSeen → SimPacket → SimPeerState × Step SimWhy
on_packet p seen (packet.Success id) = if is_last p.last id then on_success p p.at else ignored p reason.Unexpected
on_packet p seen (packet.Failure id) = if is_last p.last id then on_failure p p.at else ignored p reason.Unexpected
on_packet p seen (packet.Sim is_request id subtype list) = on_request p p.at seen id subtype list

-- the bytes of the request that was answered last are answered by the same bytes
abbrev pub unless_repeated : SimPeerState → SimSeen → Option SimLast → SimPacket → SimPeerState × Step SimWhy
unless_repeated p seen None received = on_packet p seen received
unless_repeated p seen (Some last) received =
    if bytes_eq seen.bytes last.request then (p, step.Sent last.answer) else on_packet p seen received

-- a response isn't for the peer
abbrev pub on_reading : SimPeerState → SimSeen → Option SimPacket → SimPeerState × Step SimWhy
on_reading p seen None = ignored p reason.NotForMe
on_reading p seen (Some (packet.Sim false id subtype list)) = ignored p reason.NotForMe
on_reading p seen (Some other) = unless_repeated p seen p.last other

abbrev pub turn_at : SimPeerState → SimWait → SimSeen → SimPeerState × Step SimWhy
turn_at p (wait.Ended end) seen = ignored p reason.Closed
turn_at p other seen = on_reading p seen seen.packet

-- what a peer does with what it receives
abbrev pub peer_turn : SimPeerState → SimSeen → SimPeerState × Step SimWhy
peer_turn p seen = turn_at p p.at seen

-- a peer that receives bytes does a step
pub record PeerTurns (old : SimPeerState) (bytes : List ℕ) (did : Step SimWhy) (new : SimPeerState) : Type 0 where
  pub seen : SimSeen
  pub received : IsSimReceived seen
  pub of : seen.bytes ≡ bytes
  pub same : (new, did) ≡ peer_turn old seen
