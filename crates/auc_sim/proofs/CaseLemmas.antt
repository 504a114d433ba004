-- What holds of a turn, case by case, for the laws of sessions.
use Rattle.std.proofs.Common.{◌≡◌, ℕ, ◌<◌, Bool, true, false, not, nat_lt, if◌then◌else◌, ◌==◌, List, Option, Some, None, arith, refl}
use Rattle.std.specs.Str.{bytes_eq}
use Rattle.auc_hmac.specs.declared.keys.KeySet.{KeySet}
use Rattle.auc_sim.specs.Peer as peer
use Rattle.auc_sim.specs.Peer.{SimPeerState, peer_turn}
use Rattle.auc_sim.specs.Server as server
use Rattle.auc_sim.specs.Server.{SimServerState, left_of, server_turn}
use Rattle.auc_sim.specs.declared.peer.SimLast.{SimLast}
use Rattle.auc_sim.specs.declared.peer.SimWait.{SimWait}
use Rattle.auc_sim.specs.declared.peer.SimWait.TheVariants as wait
use Rattle.auc_sim.specs.declared.server.SimAwait.{SimAwait}
use Rattle.auc_sim.specs.declared.server.SimAwait.TheVariants as await
use Rattle.auc_vector.specs.declared.why.SimWhy.{SimWhy}
use Rattle.auc_vector.specs.declared.why.SimWhy.TheVariants as why
use Rattle.auc_sim_packet.specs.Attributes.{code_of, first_value, has, identity_of, nonce_of, rands_of, selected_of, versions_of}
use Rattle.auc_sim_packet.specs.Keys.{all_sres, sim_key_set}
use Rattle.auc_sim_packet.specs.Messages.{CHALLENGE, CLIENT_ERROR, START, response_bytes, start_response}
use Rattle.auc_sim_packet.specs.Received.{SimSeen, is_sim_sealed}
use Rattle.auc_sim_packet.specs.Spelling.{sim_text}
use Rattle.auc_sim_packet.specs.declared.attr.SimAttr.{SimAttr}
use Rattle.auc_sim_packet.specs.declared.packet.SimPacket.{SimPacket}
use Rattle.auc_sim_packet.specs.declared.packet.SimPacket.TheVariants as packet
use Rattle.auc_vector.specs.declared.turn.Outcome.TheVariants as outcome
use Rattle.auc_vector.specs.declared.turn.Reason.{Reason}
use Rattle.auc_vector.specs.declared.turn.Reason.TheVariants as reason
use Rattle.auc_vector.specs.declared.turn.Step.{Step}
use Rattle.auc_vector.specs.declared.turn.Step.TheVariants as step

-- what holds of both answers to a test holds
either : {X : Type 0} (P : X → Type 0) (b : Bool) (x y : X) → P x → P y → P (if b then x else y)
either P true x y px py = px
either P false x y px py = py

-- ---- the server

-- what a server's turn does, by its cases
pub record ServerCases (s : SimServerState) (seen : SimSeen) (P : SimServerState × Step SimWhy → Type 0) : Type 0 where
  pub ignores : (cause : Reason) → P (server.ignored s cause)
  pub fails : (cause : SimWhy) → 0 < left_of s.at → P (server.ended s (outcome.Failure cause))
  pub challenges : (id subtype : ℕ) (list : List SimAttr) (nonce : List ℕ) → seen.packet ≡ Some (packet.Sim false id subtype list)
      → first_value nonce_of list ≡ Some nonce → s.at ≡ await.AwaitStart → P (server.challenged s nonce)
  pub succeeds : (keys : KeySet) → s.at ≡ await.AwaitChallenge keys → P (server.ended s (outcome.Success keys))

pub server_case : (s : SimServerState) (seen : SimSeen) (P : SimServerState × Step SimWhy → Type 0) → ServerCases s seen P → P (server_turn s seen)
server_case s seen P c = at_case s.at refl
  where
    parts_case : (id subtype : ℕ) (list : List SimAttr) → seen.packet ≡ Some (packet.Sim false id subtype list) → s.at ≡ await.AwaitStart
        → (n i : Option (List ℕ)) (v : Option ℕ) → first_value nonce_of list ≡ n → P (server.on_parts s n i v)
    parts_case id subtype list is at None i v has_nonce = c.ignores reason.Unexpected
    parts_case id subtype list is at (Some nonce) None v has_nonce = c.ignores reason.Unexpected
    parts_case id subtype list is at (Some nonce) (Some identity) None has_nonce = c.ignores reason.Unexpected
    parts_case id subtype list is at (Some nonce) (Some identity) (Some version) has_nonce =
        either P (version == 1) (server.challenged s nonce) (server.ignored s reason.Unexpected)
        (c.challenges id subtype list nonce is has_nonce at) (c.ignores reason.Unexpected)

    code_case : 0 < left_of s.at → (code : Option ℕ) → P (server.on_code s code)
    code_case waits None = c.ignores reason.Unexpected
    code_case waits (Some code) = c.fails (why.ClientError code) waits

    awaited_case : (id subtype : ℕ) (list : List SimAttr) → seen.packet ≡ Some (packet.Sim false id subtype list) → 0 < left_of s.at
        → (at : SimAwait) → s.at ≡ at → P (server.on_awaited s at seen subtype list)
    awaited_case id subtype list is waits await.AwaitStart at =
        either P (subtype == START) (server.on_start s list) (server.ignored s reason.Unexpected)
        (parts_case id subtype list is at (first_value nonce_of list) (first_value identity_of list) (first_value selected_of list) refl)
        (c.ignores reason.Unexpected)
    awaited_case id subtype list is waits (await.AwaitChallenge keys) at =
        either P (subtype == CHALLENGE) (server.on_challenge s keys seen list) (server.ignored s reason.Unexpected)
        (either P (not (has list 11)) (server.ignored s reason.Unexpected)
        (if is_sim_sealed keys.k_aut (all_sres s.triplets) seen then server.ended s (outcome.Success keys) else server.ended s (outcome.Failure why.WrongMac))
        (c.ignores reason.Unexpected)
        (either P (is_sim_sealed keys.k_aut (all_sres s.triplets) seen) (server.ended s (outcome.Success keys)) (server.ended s (outcome.Failure why.WrongMac))
        (c.succeeds keys at) (c.fails why.WrongMac waits)))
        (c.ignores reason.Unexpected)
    awaited_case id subtype list is waits (await.Ended end) at = c.ignores reason.Unexpected

    packet_case : 0 < left_of s.at → (p : Option SimPacket) → seen.packet ≡ p → P (server.on_packet s seen p)
    packet_case waits None is = c.ignores reason.NotForMe
    packet_case waits (Some (packet.Success id)) is = c.ignores reason.NotForMe
    packet_case waits (Some (packet.Failure id)) is = c.ignores reason.NotForMe
    packet_case waits (Some (packet.Sim true id subtype list)) is = c.ignores reason.NotForMe
    packet_case waits (Some (packet.Sim false id subtype list)) is =
        either P (id == server.current_id s.at) (server.on_response s seen subtype list) (server.ignored s reason.NotForMe)
        (either P (subtype == CLIENT_ERROR) (server.on_code s (first_value code_of list)) (server.on_awaited s s.at seen subtype list)
        (code_case waits (first_value code_of list)) (awaited_case id subtype list is waits s.at refl))
        (c.ignores reason.NotForMe)

    some_left : (at : SimAwait) → s.at ≡ at → 0 < left_of at → 0 < left_of s.at
    some_left at is waits = rw is waits

    at_case : (at : SimAwait) → s.at ≡ at → P (server.turn_at s at seen)
    at_case await.AwaitStart is = packet_case (some_left await.AwaitStart is (omega arith)) seen.packet refl
    at_case (await.AwaitChallenge keys) is = packet_case (some_left (await.AwaitChallenge keys) is (omega arith)) seen.packet refl
    at_case (await.Ended end) is = c.ignores reason.Closed

-- ---- the peer

-- what a peer's turn does, by its cases
pub record PeerCases (p : SimPeerState) (seen : SimSeen) (P : SimPeerState × Step SimWhy → Type 0) : Type 0 where
  pub ignores : (cause : Reason) → P (peer.ignored p cause)
  pub repeats : (last : SimLast) → p.last ≡ Some last → P (p, step.Sent last.answer)
  pub starts : (is_request : Bool) (id subtype : ℕ) (list : List SimAttr) (versions : List ℕ) → seen.packet ≡ Some (packet.Sim is_request id subtype list)
      → first_value versions_of list ≡ Some versions
      → P (peer.answered p seen id (wait.WaitChallenge versions) (sim_text (start_response id p.nonce p.identity)))
  pub refuses : (is_request : Bool) (id subtype : ℕ) (list : List SimAttr) (cause : SimWhy) (code : ℕ)
      → seen.packet ≡ Some (packet.Sim is_request id subtype list) → nat_lt code 65536 ≡ true → P (peer.refused p seen id cause code)
  pub responds : (is_request : Bool) (id subtype : ℕ) (list : List SimAttr) (versions value : List ℕ) → seen.packet ≡ Some (packet.Sim is_request id subtype list)
      → first_value rands_of list ≡ Some value → p.at ≡ wait.WaitChallenge versions
      → P (peer.answered p seen id (wait.Answered (sim_key_set p.identity (peer.cards p.secret (peer.rands_in value)) p.nonce versions))
      (response_bytes id (sim_key_set p.identity (peer.cards p.secret (peer.rands_in value)) p.nonce versions).k_aut (peer.cards p.secret (peer.rands_in value))))
  pub wins : (keys : KeySet) → p.at ≡ wait.Answered keys → P (peer.ended p (outcome.Success keys))
  pub loses : (cause : SimWhy) → P (peer.ended p (outcome.Failure cause))

pub peer_case : (p : SimPeerState) (seen : SimSeen) (P : SimPeerState × Step SimWhy → Type 0) → PeerCases p seen P → P (peer_turn p seen)
peer_case p seen P c = at_case p.at
  where
    versions_case : (r : Bool) (id subtype : ℕ) (list : List SimAttr) → seen.packet ≡ Some (packet.Sim r id subtype list)
        → (v : Option (List ℕ)) → first_value versions_of list ≡ v → P (peer.on_versions p seen id v)
    versions_case r id subtype list is None has_versions = c.ignores reason.Unexpected
    versions_case r id subtype list is (Some versions) has_versions =
        either P (peer.offers_one versions) (peer.answered p seen id (wait.WaitChallenge versions) (sim_text (start_response id p.nonce p.identity)))
        (peer.refused p seen id why.Version 1) (c.starts r id subtype list versions is has_versions) (c.refuses r id subtype list why.Version 1 is refl)

    value_case : (r : Bool) (id subtype : ℕ) (list : List SimAttr) (versions : List ℕ) → seen.packet ≡ Some (packet.Sim r id subtype list) → p.at ≡ wait.WaitChallenge versions
        → (v : Option (List ℕ)) → first_value rands_of list ≡ v → P (peer.on_value p seen id versions v)
    value_case r id subtype list versions is at None has_rands = c.ignores reason.Unexpected
    value_case r id subtype list versions is at (Some value) has_rands =
        let triplets = peer.cards p.secret (peer.rands_in value) in
        let keys = sim_key_set p.identity triplets p.nonce versions in
        either P (peer.has_equal (peer.rands_in value)) (peer.refused p seen id why.NotFresh 3) (peer.on_triplets p seen id versions triplets)
        (c.refuses r id subtype list why.NotFresh 3 is refl)
        (either P (is_sim_sealed keys.k_aut p.nonce seen) (peer.answered p seen id (wait.Answered keys) (response_bytes id keys.k_aut triplets))
        (peer.refused p seen id why.WrongMac 0)
        (c.responds r id subtype list versions value is has_rands at) (c.refuses r id subtype list why.WrongMac 0 is refl))

    request_case : (r : Bool) (id subtype : ℕ) (list : List SimAttr) → seen.packet ≡ Some (packet.Sim r id subtype list)
        → (at : SimWait) → p.at ≡ at → P (peer.on_request p at seen id subtype list)
    request_case r id subtype list is wait.WaitStart at =
        either P (subtype == START) (peer.on_versions p seen id (first_value versions_of list)) (peer.ignored p reason.Unexpected)
        (versions_case r id subtype list is (first_value versions_of list) refl) (c.ignores reason.Unexpected)
    request_case r id subtype list is (wait.WaitChallenge versions) at =
        either P (subtype == CHALLENGE) (peer.on_challenge p seen id versions list) (peer.ignored p reason.Unexpected)
        (either P (not (has list 11)) (peer.ignored p reason.Unexpected) (peer.on_value p seen id versions (first_value rands_of list))
        (c.ignores reason.Unexpected) (value_case r id subtype list versions is at (first_value rands_of list) refl))
        (c.ignores reason.Unexpected)
    request_case r id subtype list is (wait.Answered keys) at = c.ignores reason.Unexpected
    request_case r id subtype list is (wait.Refusing cause) at = c.ignores reason.Unexpected
    request_case r id subtype list is (wait.Ended end) at = c.ignores reason.Unexpected

    success_case : (at : SimWait) → p.at ≡ at → P (peer.on_success p at)
    success_case wait.WaitStart at = c.ignores reason.Unexpected
    success_case (wait.WaitChallenge versions) at = c.ignores reason.Unexpected
    success_case (wait.Answered keys) at = c.wins keys at
    success_case (wait.Refusing cause) at = c.ignores reason.Unexpected
    success_case (wait.Ended end) at = c.ignores reason.Unexpected

    failure_case : (at : SimWait) → P (peer.on_failure p at)
    failure_case wait.WaitStart = c.loses why.FailureReceived
    failure_case (wait.WaitChallenge versions) = c.loses why.FailureReceived
    failure_case (wait.Answered keys) = c.loses why.FailureReceived
    failure_case (wait.Refusing cause) = c.loses cause
    failure_case (wait.Ended end) = c.loses why.FailureReceived

    packet_case : (received : SimPacket) → seen.packet ≡ Some received → P (peer.on_packet p seen received)
    packet_case (packet.Success id) is =
        either P (peer.is_last p.last id) (peer.on_success p p.at) (peer.ignored p reason.Unexpected) (success_case p.at refl) (c.ignores reason.Unexpected)
    packet_case (packet.Failure id) is =
        either P (peer.is_last p.last id) (peer.on_failure p p.at) (peer.ignored p reason.Unexpected) (failure_case p.at) (c.ignores reason.Unexpected)
    packet_case (packet.Sim r id subtype list) is = request_case r id subtype list is p.at refl

    last_case : (received : SimPacket) → seen.packet ≡ Some received → (last : Option SimLast) → p.last ≡ last → P (peer.unless_repeated p seen last received)
    last_case received is None last_is = packet_case received is
    last_case received is (Some last) last_is =
        either P (bytes_eq seen.bytes last.request) (p, step.Sent last.answer) (peer.on_packet p seen received) (c.repeats last last_is) (packet_case received is)

    reading_case : (reading : Option SimPacket) → seen.packet ≡ reading → P (peer.on_reading p seen reading)
    reading_case None is = c.ignores reason.NotForMe
    reading_case (Some (packet.Sim false id subtype list)) is = c.ignores reason.NotForMe
    reading_case (Some (packet.Sim true id subtype list)) is = last_case (packet.Sim true id subtype list) is p.last refl
    reading_case (Some (packet.Success id)) is = last_case (packet.Success id) is p.last refl
    reading_case (Some (packet.Failure id)) is = last_case (packet.Failure id) is p.last refl

    at_case : (at : SimWait) → P (peer.turn_at p at seen)
    at_case wait.WaitStart = reading_case seen.packet refl
    at_case (wait.WaitChallenge versions) = reading_case seen.packet refl
    at_case (wait.Answered keys) = reading_case seen.packet refl
    at_case (wait.Refusing cause) = reading_case seen.packet refl
    at_case (wait.Ended end) = c.ignores reason.Closed
