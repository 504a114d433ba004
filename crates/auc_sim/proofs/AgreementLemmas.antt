-- Both ends that succeed have equal keys: they make them of one identity, one NONCE_MT, one list of versions and triplets of one
-- secret, since what an end sends is received as what it is.
use Rattle.std.proofs.Common.{◌≡◌, ◌≢◌, ℕ, zero, suc, nat_lt, Bool, true, false, IsTrue, List, [], ◌∷◌, ◌++◌, All, flat_map, slice_get, Option, Some, None, refl, sym, ◌∙◌, subst}
use Rattle.std.specs.List.{list_all}
use Rattle.std.proofs.lemmas.List.{append-nil}
use Rattle.std.proofs.lemmas.List.Elements.{All-append, All-cons, All-nil, All-push, All-head, All-tail, All-same}
use Rattle.auc_hmac.specs.declared.keys.KeySet.{KeySet}
use Rattle.auc_lines.specs.declared.part.End.{End}
use Rattle.auc_lines.specs.declared.part.End.TheVariants as end
use Rattle.auc_lines.specs.declared.sim.SimDelivery.{SimDelivery}
use Rattle.auc_sim.specs.Peer.{SimPeerState, cards, peer_turn, rands_in}
use Rattle.auc_sim.specs.Server.{SimServerState, challenged, server_turn}
use Rattle.auc_sim.specs.Session.{Becomes, DeliversAll, EndsWith, SimInputs, SimNet, Starts, packet_numbered, peer_keys, sent_in, server_keys, with_sent}
use Rattle.auc_sim.specs.SessionLaws.{AreMatched, EachSessionAgrees}
use Rattle.auc_vector.specs.declared.sim_note.SimBecame.{SimBecame}
use Rattle.auc_vector.specs.declared.sim_note.SimNote.{SimNote}
use Rattle.auc_vector.specs.declared.sim_note.SimNote.TheVariants as note
use Rattle.auc_sim.specs.declared.peer.SimLast.{SimLast}
use Rattle.auc_sim.specs.declared.peer.SimWait.{SimWait}
use Rattle.auc_sim.specs.declared.peer.SimWait.TheVariants as wait
use Rattle.auc_sim.specs.declared.server.SimAwait.{SimAwait}
use Rattle.auc_sim.specs.declared.server.SimAwait.TheVariants as await
use Rattle.auc_vector.specs.declared.why.SimWhy.{SimWhy}
use Rattle.auc_sim_packet.specs.Attributes.{first_value, is_value, nonce_of, rands_of, versions_of}
use Rattle.auc_sim_packet.specs.Keys.{rand_in, sim_key_set}
use Rattle.auc_sim_packet.specs.Messages.{challenge_request, challenge_response, client_error, start_request, start_response, version_one}
use Rattle.auc_sim_packet.specs.Packet.{has_values}
use Rattle.auc_sim_packet.specs.Received.{IsSimReceived, SimSeen}
use Rattle.auc_sim_packet.specs.Sealed.{MayBeSealedSim, sealed_packet, sim_sealed}
use Rattle.auc_sim_packet.specs.Spelling.{MayBeWrittenSim, sim_text}
use Rattle.auc_sim_packet.specs.declared.attr.SimAttr.{SimAttr}
use Rattle.auc_sim_packet.specs.declared.packet.SimPacket.{SimPacket}
use Rattle.auc_sim_packet.specs.declared.packet.SimPacket.TheVariants as packet
use Rattle.auc_sim_packet.specs.declared.sealing.SimDraft.{SimDraft}
use Rattle.auc_vector.specs.declared.turn.Outcome.{Outcome}
use Rattle.auc_vector.specs.declared.turn.Outcome.TheVariants as outcome
use Rattle.auc_vector.specs.declared.turn.Step.{Step}
use Rattle.auc_vector.specs.declared.turn.Step.TheVariants as step
use Rattle.auc_sim.proofs.CardLemmas.{cards_are}
use Rattle.auc_sim.proofs.CaseLemmas.{peer_case, server_case}
use Rattle.auc_sim.proofs.SentLemmas.{success_may, failure_may, start_request_may, start_response_may, client_error_may, challenge_request_may, challenge_response_may}
use Rattle.auc_sim_packet.proofs.Facts.{sealed_is_read, written_is_received}

-- ---- packets of the session

-- the versions, RANDs and NONCE_MT in a list of attributes, if it has any, are those of the session
pub record OwnList (inputs : SimInputs) (list : List SimAttr) : Type 0 where
  pub versions : (v : List ℕ) → first_value versions_of list ≡ Some v → v ≡ version_one
  pub rands : (v : List ℕ) → first_value rands_of list ≡ Some v → v ≡ flat_map rand_in inputs.triplets
  pub nonce : (v : List ℕ) → first_value nonce_of list ≡ Some v → v ≡ inputs.nonce

abbrev pub OwnReading : SimInputs → Option SimPacket → Type 0
OwnReading inputs None = Unit {0}
OwnReading inputs (Some (packet.Success id)) = Unit {0}
OwnReading inputs (Some (packet.Failure id)) = Unit {0}
OwnReading inputs (Some (packet.Sim r id subtype list)) = OwnList inputs list

-- bytes are received as a packet of the session, or as none
abbrev pub IsOwn : SimInputs → List ℕ → Type 0
IsOwn inputs bytes = (seen : SimSeen) → IsSimReceived seen → seen.bytes ≡ bytes → OwnReading inputs seen.packet

-- so are the bytes that are written of a packet
own_written : (inputs : SimInputs) (p : SimPacket) → MayBeWrittenSim p → has_values p ≡ true → OwnReading inputs (Some p) → IsOwn inputs (sim_text p)
own_written inputs p may values own seen received is =
    subst (OwnReading inputs) (sym (written_is_received p [] seen may values received (is ∙ sym (append-nil (sim_text p))))) own

-- and those of a sealed message
own_sealed : (inputs : SimInputs) (k_aut extra : List ℕ) (draft : SimDraft) → MayBeSealedSim draft → list_all is_value draft.attrs ≡ true
    → OwnReading inputs (Some (sealed_packet k_aut extra draft)) → IsOwn inputs (sim_sealed k_aut extra draft)
own_sealed inputs k_aut extra draft may values own seen received is =
    subst (OwnReading inputs) (sym (sealed_is_read k_aut extra [] draft seen may values received (is ∙ sym (append-nil (sim_sealed k_aut extra draft))))) own

-- a list without a value has none
no_value : (v w : List ℕ) → None ≡ Some v → v ≡ w
no_value v w e = cc

own_value : (v w : List ℕ) → Some w ≡ Some v → v ≡ w
own_value v w e = cc

success_own : (inputs : SimInputs) (id : ℕ) → IsOwn inputs (sim_text (packet.Success id))
success_own inputs id = own_written inputs (packet.Success id) (success_may id) refl tt

failure_own : (inputs : SimInputs) (id : ℕ) → IsOwn inputs (sim_text (packet.Failure id))
failure_own inputs id = own_written inputs (packet.Failure id) (failure_may id) refl tt

start_request_own : (inputs : SimInputs) → IsOwn inputs (sim_text start_request)
start_request_own inputs = own_written inputs start_request start_request_may refl (record {
  versions = λ v e. own_value v version_one e;
  rands = λ v e. no_value v (flat_map rand_in inputs.triplets) e;
  nonce = λ v e. no_value v inputs.nonce e;
})

start_response_own : (inputs : SimInputs) → AreMatched inputs → (id : ℕ) → IsOwn inputs (sim_text (start_response id inputs.nonce inputs.identity))
start_response_own inputs matched id =
    own_written inputs (start_response id inputs.nonce inputs.identity) (start_response_may id inputs.nonce inputs.identity matched.nonce matched.short) refl (record {
      versions = λ v e. no_value v version_one e;
      rands = λ v e. no_value v (flat_map rand_in inputs.triplets) e;
      nonce = λ v e. own_value v inputs.nonce e;
    })

client_error_own : (inputs : SimInputs) (id code : ℕ) → nat_lt code 65536 ≡ true → IsOwn inputs (sim_text (client_error id code))
client_error_own inputs id code small =
    own_written inputs (client_error id code) (client_error_may id code) (rw small refl) (record {
      versions = λ v e. no_value v version_one e;
      rands = λ v e. no_value v (flat_map rand_in inputs.triplets) e;
      nonce = λ v e. no_value v inputs.nonce e;
    })

challenge_request_own : (inputs : SimInputs) → AreMatched inputs → (k_aut extra : List ℕ) → IsOwn inputs (sim_sealed k_aut extra (challenge_request inputs.triplets))
challenge_request_own inputs matched k_aut extra =
    own_sealed inputs k_aut extra (challenge_request inputs.triplets) (challenge_request_may inputs matched) refl (record {
      versions = λ v e. no_value v version_one e;
      rands = λ v e. own_value v (flat_map rand_in inputs.triplets) e;
      nonce = λ v e. no_value v inputs.nonce e;
    })

challenge_response_own : (inputs : SimInputs) (id : ℕ) (k_aut extra : List ℕ) → IsOwn inputs (sim_sealed k_aut extra (challenge_response id))
challenge_response_own inputs id k_aut extra =
    own_sealed inputs k_aut extra (challenge_response id) (challenge_response_may id) refl (record {
      versions = λ v e. no_value v version_one e;
      rands = λ v e. no_value v (flat_map rand_in inputs.triplets) e;
      nonce = λ v e. no_value v inputs.nonce e;
    })

-- ---- the server

-- the keys of the session
abbrev pub session_keys : SimInputs → KeySet
session_keys inputs = sim_key_set inputs.identity inputs.triplets inputs.nonce version_one

-- the server has the session's inputs, and its keys if it has any
pub record ServerKnows (inputs : SimInputs) (s : SimServerState) : Type 0 where
  pub identity : s.identity ≡ inputs.identity
  pub triplets : s.triplets ≡ inputs.triplets
  pub keys : (k : KeySet) → s.at ≡ await.AwaitChallenge k → k ≡ session_keys inputs
  pub won : (k : KeySet) → s.at ≡ await.Ended (outcome.Success k) → k ≡ session_keys inputs

-- after a turn it is so, and what it sent is a packet of the session
record ServerKeeps (inputs : SimInputs) (did : SimServerState × Step SimWhy) : Type 0 where
  knows : ServerKnows inputs did.0
  sends : sent_in did.1 ≢ [] → IsOwn inputs (sent_in did.1)

server_keeps : (inputs : SimInputs) (s : SimServerState) (seen : SimSeen) → AreMatched inputs → ServerKnows inputs s → OwnReading inputs seen.packet
    → ServerKeeps inputs (server_turn s seen)
server_keeps inputs s seen matched knows own = server_case s seen (ServerKeeps inputs) (record {
  ignores = λ cause. record { knows = knows; sends = λ some. absurd (some refl) };
  fails = λ cause waits. record {
    knows = record {
      identity = knows.identity;
      triplets = knows.triplets;
      keys = λ k is. absurd (not_waiting (outcome.Failure cause) k is);
      won = λ k is. absurd (not_won cause k is);
    };
    sends = λ some. failure_own inputs _;
  };
  challenges = λ id subtype list nonce is has_nonce at. challenge id subtype list nonce is has_nonce;
  succeeds = λ keys at. record {
    knows = record {
      identity = knows.identity;
      triplets = knows.triplets;
      keys = λ k is. absurd (not_waiting (outcome.Success keys) k is);
      won = λ k is. same_success keys k is ∙ knows.keys keys at;
    };
    sends = λ some. success_own inputs _;
  };
})
  where
    not_waiting : (end : Outcome SimWhy) (k : KeySet) → await.Ended end ≡ await.AwaitChallenge k → ⊥
    not_waiting end k e = cc

    not_won : (cause : SimWhy) (k : KeySet) → await.Ended (outcome.Failure cause) ≡ await.Ended (outcome.Success k) → ⊥
    not_won cause k e = cc

    same_success : (keys k : KeySet) → await.Ended (outcome.Success keys) ≡ await.Ended (outcome.Success k) → k ≡ keys
    same_success keys k e = cc

    same_waiting : (keys k : KeySet) → await.AwaitChallenge keys ≡ await.AwaitChallenge k → k ≡ keys
    same_waiting keys k e = cc

    waiting_not_won : (keys k : KeySet) → await.AwaitChallenge keys ≡ await.Ended (outcome.Success k) → ⊥
    waiting_not_won keys k e = cc

    challenge : (id subtype : ℕ) (list : List SimAttr) (nonce : List ℕ) → seen.packet ≡ Some (packet.Sim false id subtype list)
        → first_value nonce_of list ≡ Some nonce → ServerKeeps inputs (challenged s nonce)
    challenge id subtype list nonce is has_nonce =
        let own_list : OwnList inputs list = subst (OwnReading inputs) is own in
        let nonce_is : nonce ≡ inputs.nonce = own_list.nonce nonce has_nonce in
        let keys = sim_key_set s.identity s.triplets nonce version_one in
        let keys_are : keys ≡ session_keys inputs = rw (knows.identity, knows.triplets, nonce_is) refl in
        record {
          knows = record {
            identity = knows.identity;
            triplets = knows.triplets;
            keys = λ k is. same_waiting keys k is ∙ keys_are;
            won = λ k is. absurd (waiting_not_won keys k is);
          };
          sends = λ some. rw knows.triplets (challenge_request_own inputs matched _ _);
        }

-- ---- the peer

-- the peer has the session's inputs, its versions and its keys if it has any, and its last answer is a packet of the session
pub record PeerKnows (inputs : SimInputs) (p : SimPeerState) : Type 0 where
  pub secret : p.secret ≡ inputs.secret
  pub identity : p.identity ≡ inputs.identity
  pub nonce : p.nonce ≡ inputs.nonce
  pub versions : (v : List ℕ) → p.at ≡ wait.WaitChallenge v → v ≡ version_one
  pub keys : (k : KeySet) → p.at ≡ wait.Answered k → k ≡ session_keys inputs
  pub won : (k : KeySet) → p.at ≡ wait.Ended (outcome.Success k) → k ≡ session_keys inputs
  pub last : (l : SimLast) → p.last ≡ Some l → IsOwn inputs l.answer

record PeerKeeps (inputs : SimInputs) (did : SimPeerState × Step SimWhy) : Type 0 where
  knows : PeerKnows inputs did.0
  sends : sent_in did.1 ≢ [] → IsOwn inputs (sent_in did.1)

-- what a state says of versions and keys
record AtKnows (inputs : SimInputs) (at : SimWait) : Type 0 where
  versions : (v : List ℕ) → at ≡ wait.WaitChallenge v → v ≡ version_one
  keys : (k : KeySet) → at ≡ wait.Answered k → k ≡ session_keys inputs
  won : (k : KeySet) → at ≡ wait.Ended (outcome.Success k) → k ≡ session_keys inputs

at_versions : (inputs : SimInputs) (v : List ℕ) → v ≡ version_one → AtKnows inputs (wait.WaitChallenge v)
at_versions inputs v is = record { versions = λ w e. other w e; keys = λ k e. absurd (no_keys k e); won = λ k e. absurd (no_win k e) }
  where
    other : (w : List ℕ) → wait.WaitChallenge v ≡ wait.WaitChallenge w → w ≡ version_one
    other w e = cc

    no_keys : (k : KeySet) → wait.WaitChallenge v ≡ wait.Answered k → ⊥
    no_keys k e = cc

    no_win : (k : KeySet) → wait.WaitChallenge v ≡ wait.Ended (outcome.Success k) → ⊥
    no_win k e = cc

at_keys : (inputs : SimInputs) (keys : KeySet) → keys ≡ session_keys inputs → AtKnows inputs (wait.Answered keys)
at_keys inputs keys is = record { versions = λ w e. absurd (no_versions w e); keys = λ k e. other k e ∙ is; won = λ k e. absurd (no_win k e) }
  where
    no_versions : (w : List ℕ) → wait.Answered keys ≡ wait.WaitChallenge w → ⊥
    no_versions w e = cc

    other : (k : KeySet) → wait.Answered keys ≡ wait.Answered k → k ≡ keys
    other k e = cc

    no_win : (k : KeySet) → wait.Answered keys ≡ wait.Ended (outcome.Success k) → ⊥
    no_win k e = cc

at_refusal : (inputs : SimInputs) (cause : SimWhy) → AtKnows inputs (wait.Refusing cause)
at_refusal inputs cause = record { versions = λ w e. absurd (no_versions w e); keys = λ k e. absurd (no_keys k e); won = λ k e. absurd (no_win k e) }
  where
    no_versions : (w : List ℕ) → wait.Refusing cause ≡ wait.WaitChallenge w → ⊥
    no_versions w e = cc

    no_keys : (k : KeySet) → wait.Refusing cause ≡ wait.Answered k → ⊥
    no_keys k e = cc

    no_win : (k : KeySet) → wait.Refusing cause ≡ wait.Ended (outcome.Success k) → ⊥
    no_win k e = cc

at_failure : (inputs : SimInputs) (cause : SimWhy) → AtKnows inputs (wait.Ended (outcome.Failure cause))
at_failure inputs cause = record { versions = λ w e. absurd (no_versions w e); keys = λ k e. absurd (no_keys k e); won = λ k e. absurd (no_win k e) }
  where
    no_versions : (w : List ℕ) → wait.Ended (outcome.Failure cause) ≡ wait.WaitChallenge w → ⊥
    no_versions w e = cc

    no_keys : (k : KeySet) → wait.Ended (outcome.Failure cause) ≡ wait.Answered k → ⊥
    no_keys k e = cc

    no_win : (k : KeySet) → wait.Ended (outcome.Failure cause) ≡ wait.Ended (outcome.Success k) → ⊥
    no_win k e = cc

at_success : (inputs : SimInputs) (keys : KeySet) → keys ≡ session_keys inputs → AtKnows inputs (wait.Ended (outcome.Success keys))
at_success inputs keys is = record { versions = λ w e. absurd (no_versions w e); keys = λ k e. absurd (no_keys k e); won = λ k e. other k e ∙ is }
  where
    no_versions : (w : List ℕ) → wait.Ended (outcome.Success keys) ≡ wait.WaitChallenge w → ⊥
    no_versions w e = cc

    no_keys : (k : KeySet) → wait.Ended (outcome.Success keys) ≡ wait.Answered k → ⊥
    no_keys k e = cc

    other : (k : KeySet) → wait.Ended (outcome.Success keys) ≡ wait.Ended (outcome.Success k) → k ≡ keys
    other k e = cc

-- a peer that answers with a packet of the session
answers : (inputs : SimInputs) (p : SimPeerState) (l : SimLast) (at : SimWait) → PeerKnows inputs p → AtKnows inputs at → IsOwn inputs l.answer
    → PeerKeeps inputs (record p { last = Some l; at = at }, step.Sent l.answer)
answers inputs p l at knows state own = record {
  knows = record {
    secret = knows.secret;
    identity = knows.identity;
    nonce = knows.nonce;
    versions = state.versions;
    keys = state.keys;
    won = state.won;
    last = λ other is. subst (λ (x : SimLast). IsOwn inputs x.answer) (same other is) own;
  };
  sends = λ some. own;
}
  where
    same : (other : SimLast) → Some l ≡ Some other → l ≡ other
    same other e = cc

-- a peer that ends
ends : (inputs : SimInputs) (p : SimPeerState) (result : Outcome SimWhy) → PeerKnows inputs p → AtKnows inputs (wait.Ended result)
    → PeerKeeps inputs (record p { at = wait.Ended result }, step.Ended result [])
ends inputs p result knows state = record {
  knows = record {
    secret = knows.secret;
    identity = knows.identity;
    nonce = knows.nonce;
    versions = state.versions;
    keys = state.keys;
    won = state.won;
    last = knows.last;
  };
  sends = λ some. absurd (some refl);
}

peer_keeps : (inputs : SimInputs) (p : SimPeerState) (seen : SimSeen) → AreMatched inputs → PeerKnows inputs p → OwnReading inputs seen.packet
    → PeerKeeps inputs (peer_turn p seen)
peer_keeps inputs p seen matched knows own = peer_case p seen (PeerKeeps inputs) (record {
  ignores = λ cause. record { knows = knows; sends = λ some. absurd (some refl) };
  repeats = λ l is. record { knows = knows; sends = λ some. knows.last l is };
  starts = λ r id subtype list versions is has_versions.
      answers inputs p _ (wait.WaitChallenge versions) knows (at_versions inputs versions ((own_list r id subtype list is).versions versions has_versions))
      (rw (knows.nonce, knows.identity) (start_response_own inputs matched id));
  refuses = λ r id subtype list cause code is small. answers inputs p _ (wait.Refusing cause) knows (at_refusal inputs cause) (client_error_own inputs id code small);
  responds = λ r id subtype list versions value is has_rands at.
      answers inputs p _ _ knows (at_keys inputs _ (keys_are r id subtype list versions value is has_rands at)) (challenge_response_own inputs id _ _);
  wins = λ keys at. ends inputs p (outcome.Success keys) knows (at_success inputs keys (knows.keys keys at));
  loses = λ cause. ends inputs p (outcome.Failure cause) knows (at_failure inputs cause);
})
  where
    own_list : (r : Bool) (id subtype : ℕ) (list : List SimAttr) → seen.packet ≡ Some (packet.Sim r id subtype list) → OwnList inputs list
    own_list r id subtype list is = subst (OwnReading inputs) is own

    keys_are : (r : Bool) (id subtype : ℕ) (list : List SimAttr) (versions value : List ℕ) → seen.packet ≡ Some (packet.Sim r id subtype list)
        → first_value rands_of list ≡ Some value → p.at ≡ wait.WaitChallenge versions
        → sim_key_set p.identity (cards p.secret (rands_in value)) p.nonce versions ≡ session_keys inputs
    keys_are r id subtype list versions value is has_rands at =
        let value_is : value ≡ flat_map rand_in inputs.triplets = (own_list r id subtype list is).rands value has_rands in
        let versions_are : versions ≡ version_one = knows.versions versions at in
        let triplets : cards inputs.secret (rands_in (flat_map rand_in inputs.triplets)) ≡ inputs.triplets = cards_are inputs matched in
        rw (knows.identity, knows.secret, knows.nonce, value_is, versions_are, triplets) refl

-- ---- all deliveries

pub record NetKnows (inputs : SimInputs) (net : SimNet) : Type 0 where
  pub server : ServerKnows inputs net.server
  pub peer : PeerKnows inputs net.peer
  pub packets : All (IsOwn inputs) net.packets

-- a packet that is there is one of them
found_own : (P : List ℕ → Type 0) (packets : List (List ℕ)) (place : ℕ) (bytes : List ℕ) → All P packets → slice_get packets place ≡ Some bytes → P bytes
found_own P [] place bytes all is = absurd (none is)
  where
    none : None ≡ Some bytes → ⊥
    none e = cc
found_own P (x ∷ xs) zero bytes all is = subst P (same is) (All-head P x xs all)
  where
    same : Some x ≡ Some bytes → x ≡ bytes
    same e = cc
found_own P (x ∷ xs) (suc place) bytes all is = found_own P xs place bytes (All-tail P x xs all) is

numbered_own : (P : List ℕ → Type 0) (packets : List (List ℕ)) (packet : ℕ) (bytes : List ℕ) → All P packets → packet_numbered packets packet ≡ Some bytes → P bytes
numbered_own P packets zero bytes all is = absurd (none is)
  where
    none : None ≡ Some bytes → ⊥
    none e = cc
numbered_own P packets (suc place) bytes all is = found_own P packets place bytes all is

-- what is sent is one of them
sent_own : (P : List ℕ → Type 0) (packets : List (List ℕ)) (bytes : List ℕ) → All P packets → (bytes ≢ [] → P bytes) → All P (with_sent packets bytes)
sent_own P packets [] all own = all
sent_own P packets (byte ∷ bytes) all own = All-push P packets (byte ∷ bytes) all (own some)
  where
    some : byte ∷ bytes ≡ [] → ⊥
    some e = cc

becomes_keeps : (inputs : SimInputs) (to : End) (old new : SimNet) (found : Option (List ℕ)) (became : SimBecame) → AreMatched inputs → NetKnows inputs old
    → ((bytes : List ℕ) → found ≡ Some bytes → IsOwn inputs bytes) → Becomes to old found became new → NetKnows inputs new
becomes_keeps inputs to old new None became matched knows own (became_is, same) = subst (NetKnows inputs) (sym same) knows
becomes_keeps inputs end.Server old new (Some bytes) became matched knows own r =
    let turns = r.turns.0 in
    let reading : OwnReading inputs turns.seen.packet = own bytes refl turns.seen turns.received turns.of in
    let kept : ServerKeeps inputs (new.server, r.step) = subst (ServerKeeps inputs) (sym turns.same) (server_keeps inputs old.server turns.seen matched knows.server reading) in
    record {
      server = kept.knows;
      peer = subst (PeerKnows inputs) (sym r.turns.1) knows.peer;
      packets = rw r.packets (sent_own (IsOwn inputs) old.packets (sent_in r.step) knows.packets kept.sends);
    }
becomes_keeps inputs end.Peer old new (Some bytes) became matched knows own r =
    let turns = r.turns.0 in
    let reading : OwnReading inputs turns.seen.packet = own bytes refl turns.seen turns.received turns.of in
    let kept : PeerKeeps inputs (new.peer, r.step) = subst (PeerKeeps inputs) (sym turns.same) (peer_keeps inputs old.peer turns.seen matched knows.peer reading) in
    record {
      server = subst (ServerKnows inputs) (sym r.turns.1) knows.server;
      peer = kept.knows;
      packets = rw r.packets (sent_own (IsOwn inputs) old.packets (sent_in r.step) knows.packets kept.sends);
    }

-- no note of a delivery says that the ends disagree
abbrev IsNoQuarrel : SimNote → Type 0
IsNoQuarrel said = said ≢ note.Ended false

delivered_is : (to : End) (packet : ℕ) (became : SimBecame) → IsNoQuarrel (note.Delivered to packet became)
delivered_is to packet became e = cc

record AllKeep (inputs : SimInputs) (new : SimNet) (notes : List SimNote) : Type 0 where
  knows : NetKnows inputs new
  notes_are : All IsNoQuarrel notes

all_keep : (inputs : SimInputs) (old new : SimNet) (ds : List SimDelivery) (notes : List SimNote) → AreMatched inputs → NetKnows inputs old
    → DeliversAll old ds notes new → AllKeep inputs new notes
all_keep inputs old new [] notes matched knows (none, same) =
    record { knows = subst (NetKnows inputs) (sym same) knows; notes_are = All-same IsNoQuarrel notes [] none (All-nil IsNoQuarrel) }
all_keep inputs old new (d ∷ ds) notes matched knows (became, mid, rest, is, here, others) =
    let after : NetKnows inputs mid = becomes_keeps inputs d.end old mid (packet_numbered old.packets d.packet) became matched knows
    (λ bytes found. numbered_own (IsOwn inputs) old.packets d.packet bytes knows.packets found) here in
    let kept : AllKeep inputs new rest = all_keep inputs mid new ds rest matched after others in
    record {
      knows = kept.knows;
      notes_are = All-same IsNoQuarrel notes (note.Delivered d.end d.packet became ∷ rest) is
          (All-cons IsNoQuarrel (note.Delivered d.end d.packet became) rest (delivered_is d.end d.packet became) kept.notes_are);
    }

-- ---- the whole session

start_knows : (inputs : SimInputs) (first : List ℕ) (net : SimNet) → Starts inputs first net → NetKnows inputs net
start_knows inputs first net starts = record {
  server = subst (ServerKnows inputs) (sym starts.server) (record {
    identity = refl;
    triplets = refl;
    keys = λ k is. absurd (no_keys k is);
    won = λ k is. absurd (no_win k is);
  });
  peer = subst (PeerKnows inputs) (sym starts.peer) (record {
    secret = refl;
    identity = refl;
    nonce = refl;
    versions = λ v is. absurd (no_versions v is);
    keys = λ k is. absurd (no_answer k is);
    won = λ k is. absurd (no_end k is);
    last = λ l is. absurd (no_last l is);
  });
  packets = rw (starts.packets, starts.first_is) (All-cons (IsOwn inputs) (sim_text start_request) [] (start_request_own inputs) (All-nil (IsOwn inputs)));
}
  where
    no_keys : (k : KeySet) → await.AwaitStart ≡ await.AwaitChallenge k → ⊥
    no_keys k e = cc

    no_win : (k : KeySet) → await.AwaitStart ≡ await.Ended (outcome.Success k) → ⊥
    no_win k e = cc

    no_versions : (v : List ℕ) → wait.WaitStart ≡ wait.WaitChallenge v → ⊥
    no_versions v e = cc

    no_answer : (k : KeySet) → wait.WaitStart ≡ wait.Answered k → ⊥
    no_answer k e = cc

    no_end : (k : KeySet) → wait.WaitStart ≡ wait.Ended (outcome.Success k) → ⊥
    no_end k e = cc

    no_last : (l : SimLast) → None ≡ Some l → ⊥
    no_last l e = cc

-- keys of an end that ended in Success are the session's
server_won : (inputs : SimInputs) (s : SimServerState) (k : KeySet) → ServerKnows inputs s → server_keys s.at ≡ Some k → k ≡ session_keys inputs
server_won inputs s k knows is = by s.at refl is
  where
    none : None ≡ Some k → ⊥
    none e = cc

    same : (keys : KeySet) → Some keys ≡ Some k → keys ≡ k
    same keys e = cc

    by : (at : SimAwait) → s.at ≡ at → server_keys at ≡ Some k → k ≡ session_keys inputs
    by await.AwaitStart at e = absurd (none e)
    by (await.AwaitChallenge keys) at e = absurd (none e)
    by (await.Ended (outcome.Failure cause)) at e = absurd (none e)
    by (await.Ended (outcome.Success keys)) at e = sym (same keys e) ∙ knows.won keys at

peer_won : (inputs : SimInputs) (p : SimPeerState) (k : KeySet) → PeerKnows inputs p → peer_keys p.at ≡ Some k → k ≡ session_keys inputs
peer_won inputs p k knows is = by p.at refl is
  where
    none : None ≡ Some k → ⊥
    none e = cc

    same : (keys : KeySet) → Some keys ≡ Some k → keys ≡ k
    same keys e = cc

    by : (at : SimWait) → p.at ≡ at → peer_keys at ≡ Some k → k ≡ session_keys inputs
    by wait.WaitStart at e = absurd (none e)
    by (wait.WaitChallenge versions) at e = absurd (none e)
    by (wait.Answered keys) at e = absurd (none e)
    by (wait.Refusing cause) at e = absurd (none e)
    by (wait.Ended (outcome.Failure cause)) at e = absurd (none e)
    by (wait.Ended (outcome.Success keys)) at e = sym (same keys e) ∙ knows.won keys at

-- so they are equal, if both have some
ending_is : (inputs : SimInputs) (a b : Option KeySet) (ending : List SimNote) → ((k : KeySet) → a ≡ Some k → k ≡ session_keys inputs)
    → ((k : KeySet) → b ≡ Some k → k ≡ session_keys inputs) → EndsWith a b ending → All IsNoQuarrel ending
ending_is inputs None b ending server peer none = All-same IsNoQuarrel ending [] none (All-nil IsNoQuarrel)
ending_is inputs (Some a) None ending server peer none = All-same IsNoQuarrel ending [] none (All-nil IsNoQuarrel)
ending_is inputs (Some a) (Some b) ending server peer (agree, is, tells) =
    let equal : a ≡ b = server a refl ∙ sym (peer b refl) in
    All-same IsNoQuarrel ending (note.Ended agree ∷ []) is (All-cons IsNoQuarrel (note.Ended agree) [] (by agree (tells.1 equal)) (All-nil IsNoQuarrel))
  where
    by : (said : Bool) → IsTrue said → IsNoQuarrel (note.Ended said)
    by true holds e = cc
    by false holds e = cc

pub session_agrees : EachSessionAgrees
session_agrees inputs schedule notes matched runs =
    let kept = all_keep inputs runs.start runs.end runs.deliveries runs.delivered matched (start_knows inputs runs.first runs.start runs.starts) runs.delivers in
    let ended : All IsNoQuarrel runs.ending = ending_is inputs (server_keys runs.end.server.at) (peer_keys runs.end.peer.at) runs.ending
    (λ k is. server_won inputs runs.end.server k kept.knows.server is) (λ k is. peer_won inputs runs.end.peer k kept.knows.peer is) runs.ends in
    All-same IsNoQuarrel notes (note.Started runs.first ∷ (runs.delivered ++ runs.ending)) runs.notes_are
    (All-cons IsNoQuarrel (note.Started runs.first) (runs.delivered ++ runs.ending) (started runs.first)
    (All-append IsNoQuarrel runs.delivered runs.ending kept.notes_are ended))
  where
    started : (first : List ℕ) → IsNoQuarrel (note.Started first)
    started first e = cc
