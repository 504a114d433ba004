-- The server of a session (RFC 4186 §3 and §4): its states, and what it does with what it receives.
use Rattle.std.specs.Prelude.{◌≡◌, ℕ, ◌==◌, false, not, if◌then◌else◌, List, Option, Some, None}
use Rattle.auc_hmac.specs.declared.keys.KeySet.{KeySet}
use Rattle.auc_sim.specs.declared.server.SimAwait.{SimAwait}
use Rattle.auc_sim.specs.declared.server.SimAwait.TheVariants as await
use Rattle.auc_vector.specs.declared.why.SimWhy.{SimWhy}
use Rattle.auc_vector.specs.declared.why.SimWhy.TheVariants as why
use Rattle.auc_sim_packet.specs.Attributes.{code_of, first_value, has, identity_of, nonce_of, selected_of}
use Rattle.auc_sim_packet.specs.Keys.{all_sres, sim_key_set}
use Rattle.auc_sim_packet.specs.Messages.{CHALLENGE, CLIENT_ERROR, START, request_bytes, version_one}
use Rattle.auc_sim_packet.specs.Received.{IsSimReceived, SimSeen, is_sim_sealed}
use Rattle.auc_sim_packet.specs.Spelling.{sim_text}
use Rattle.auc_sim_packet.specs.declared.attr.SimAttr.{SimAttr}
use Rattle.auc_sim_packet.specs.declared.packet.SimPacket.{SimPacket}
use Rattle.auc_sim_packet.specs.declared.packet.SimPacket.TheVariants as packet
use Rattle.auc_sim_packet.specs.declared.parts.Triplet.{Triplet}
use Rattle.auc_vector.specs.declared.turn.Outcome.{Outcome}
use Rattle.auc_vector.specs.declared.turn.Outcome.TheVariants as outcome
use Rattle.auc_vector.specs.declared.turn.Reason.{Reason}
use Rattle.auc_vector.specs.declared.turn.Reason.TheVariants as reason
use Rattle.auc_vector.specs.declared.turn.Step.{Step}
use Rattle.auc_vector.specs.declared.turn.Step.TheVariants as step

-- the identity of its session, the triplets of its Challenge, and where it stands
pub record SimServerState : Type 0 where
  pub identity : List ℕ
  pub triplets : List Triplet
  pub at : SimAwait

-- a server that has sent its Start request
abbrev pub new_server : List ℕ → List Triplet → SimServerState
new_server identity triplets = record { identity = identity; triplets = triplets; at = await.AwaitStart }

-- the Identifier of its last request: Start has 1, Challenge 2
abbrev pub current_id : SimAwait → ℕ
current_id await.AwaitStart = 1
current_id other = 2

-- how many packets it may send yet
abbrev pub left_of : SimAwait → ℕ
left_of await.AwaitStart = 2
left_of (await.AwaitChallenge keys) = 1
left_of (await.Ended end) = 0

-- ---- what it does

-- a packet is ignored
abbrev pub ignored : SimServerState → Reason → SimServerState × Step SimWhy
ignored s cause = (s, step.Ignored cause)

-- the packet that ends a session: it has the Identifier of the last request (RFC 3748 §4.2)
abbrev pub last_packet : ℕ → Outcome SimWhy → SimPacket
last_packet id (outcome.Success keys) = packet.Success id
last_packet id (outcome.Failure cause) = packet.Failure id

-- the session ends
abbrev pub ended : SimServerState → Outcome SimWhy → SimServerState × Step SimWhy
ended s end = (record s { at = await.Ended end }, step.Ended end (sim_text (last_packet (current_id s.at) end)))

-- the Challenge is sent under some keys
abbrev pub challenging : SimServerState → List ℕ → KeySet → SimServerState × Step SimWhy
challenging s nonce keys = (record s { at = await.AwaitChallenge keys }, step.Sent (request_bytes keys.k_aut nonce s.triplets))

-- the keys are those of the peer's NONCE_MT; the server lists version 1 alone
abbrev pub challenged : SimServerState → List ℕ → SimServerState × Step SimWhy
challenged s nonce = challenging s nonce (sim_key_set s.identity s.triplets nonce version_one)

-- ---- the responses

-- a Start response has AT_NONCE_MT, AT_IDENTITY, and AT_SELECTED_VERSION of version 1 (§9.2)
abbrev pub on_parts : SimServerState → Option (List ℕ) → Option (List ℕ) → Option ℕ → SimServerState × Step SimWhy
on_parts s (Some nonce) (Some identity) (Some version) = if version == 1 then challenged s nonce else ignored s reason.Unexpected
on_parts s _ _ _ = ignored s reason.Unexpected

abbrev pub on_start : SimServerState → List SimAttr → SimServerState × Step SimWhy
on_start s list = on_parts s (first_value nonce_of list) (first_value identity_of list) (first_value selected_of list)

-- a Challenge response has AT_MAC (§9.4)
abbrev pub on_challenge : SimServerState → KeySet → SimSeen → List SimAttr → SimServerState × Step SimWhy
on_challenge s keys seen list =
    if not (has list 11) then ignored s reason.Unexpected
    else if is_sim_sealed keys.k_aut (all_sres s.triplets) seen then ended s (outcome.Success keys)
    else ended s (outcome.Failure why.WrongMac)

-- a Client-Error has AT_CLIENT_ERROR_CODE (§9.7)
abbrev pub on_code : SimServerState → Option ℕ → SimServerState × Step SimWhy
on_code s None = ignored s reason.Unexpected
on_code s (Some code) = ended s (outcome.Failure (why.ClientError code))

-- a response to the last request, by what the server waits for
abbrev pub on_awaited : SimServerState → SimAwait → SimSeen → ℕ → List SimAttr → SimServerState × Step SimWhy
on_awaited s await.AwaitStart seen subtype list = if subtype == START then on_start s list else ignored s reason.Unexpected
on_awaited s (await.AwaitChallenge keys) seen subtype list =
    if subtype == CHALLENGE then on_challenge s keys seen list else ignored s reason.Unexpected
on_awaited s other seen subtype list = ignored s reason.Unexpected

abbrev pub on_response : SimServerState → SimSeen → ℕ → List SimAttr → SimServerState × Step SimWhy
on_response s seen subtype list =
    if subtype == CLIENT_ERROR then on_code s (first_value code_of list) else on_awaited s s.at seen subtype list

-- only a response to the last request is for the server
abbrev pub on_packet : SimServerState → SimSeen → Option SimPacket → SimServerState × Step SimWhy
on_packet s seen (Some (packet.Sim false id subtype list)) =
    if id == current_id s.at then on_response s seen subtype list else ignored s reason.NotForMe
on_packet s seen other = ignored s reason.NotForMe

abbrev pub turn_at : SimServerState → SimAwait → SimSeen → SimServerState × Step SimWhy
turn_at s (await.Ended end) seen = ignored s reason.Closed
turn_at s other seen = on_packet s seen seen.packet

-- what a server does with what it receives
abbrev pub server_turn : SimServerState → SimSeen → SimServerState × Step SimWhy
server_turn s seen = turn_at s s.at seen

-- a server that receives bytes does a step
pub record ServerTurns (old : SimServerState) (bytes : List ℕ) (did : Step SimWhy) (new : SimServerState) : Type 0 where
  pub seen : SimSeen
  pub received : IsSimReceived seen
  pub of : seen.bytes ≡ bytes
  pub same : (new, did) ≡ server_turn old seen
