-- The plain session of two ends with one secret, delivery by delivery: what is sent is received as what it is, and its AT_MAC is
-- right, since both ends calculate it with the same keys.
use Rattle.std.proofs.Common.{◌≡◌, ◌≢◌, ℕ, ◌≤◌, Bool, true, false, if◌then◌else◌, List, [], ◌∷◌, ◌++◌, AllPairs, length, map, flat_map, Some, None, arith, refl, sym, ap, ◌∙◌, subst}
use Rattle.std.specs.Str.{bytes_eq}
use Rattle.std.proofs.lemmas.List.{append-nil, length-map}
use Rattle.std.proofs.lemmas.Slice.Eq.{bytes_eq-Decides}
use Rattle.auc_hmac.specs.declared.keys.KeySet.{KeySet}
use Rattle.auc_lines.specs.declared.part.End.{End}
use Rattle.auc_lines.specs.declared.part.End.TheVariants as end
use Rattle.auc_lines.specs.declared.sim.SimDelivery.{SimDelivery}
use Rattle.auc_lines.specs.declared.sim.SimSchedule.TheVariants.{Plain}
use Rattle.auc_sim.specs.Peer as peer
use Rattle.auc_sim.specs.Peer.{SimPeerState, cards, has_equal, new_peer, peer_turn, rands_in}
use Rattle.auc_sim.specs.Server as server
use Rattle.auc_sim.specs.Server.{SimServerState, new_server, server_turn}
use Rattle.auc_sim.specs.Session.{Alternates, Becomes, Delivers, DeliversAll, EndsWith, Receives, SimInputs, SimNet, SimRuns, Starts, made_in, number_sent, other, packet_numbered, peer_keys, sent_in, server_keys, with_sent}
use Rattle.auc_sim.specs.SessionLaws.{AreMatched, EachPlainSessionSucceeds, Succeeds}
use Rattle.auc_vector.specs.declared.sim_note.SimBecame.{SimBecame}
use Rattle.auc_vector.specs.declared.sim_note.SimBecame.TheVariants.{Did}
use Rattle.auc_vector.specs.declared.sim_note.SimNote.{SimNote}
use Rattle.auc_vector.specs.declared.sim_note.SimNote.TheVariants as note
use Rattle.auc_sim.specs.declared.peer.SimWait.TheVariants as wait
use Rattle.auc_sim.specs.declared.server.SimAwait.TheVariants as await
use Rattle.auc_vector.specs.declared.why.SimWhy.{SimWhy}
use Rattle.auc_vector.specs.declared.why.SimWhy.TheVariants as why
use Rattle.auc_sim_packet.specs.Keys.{all_sres, rand_in}
use Rattle.auc_sim_packet.specs.Messages.{challenge_request, challenge_response, request_bytes, response_bytes, start_request, start_response, version_one}
use Rattle.auc_sim_packet.specs.Received.{IsSimReceived, SimSeen, is_sim_sealed}
use Rattle.auc_sim_packet.specs.Sealed.{sealed_packet}
use Rattle.auc_sim_packet.specs.Spelling.{sim_text}
use Rattle.auc_sim_packet.specs.declared.packet.SimPacket.TheVariants as packet
use Rattle.auc_vector.specs.declared.turn.Outcome.TheVariants as outcome
use Rattle.auc_vector.specs.declared.turn.Step.{Step}
use Rattle.auc_vector.specs.declared.turn.Step.TheVariants as step
use Rattle.auc_sim.proofs.AgreementLemmas.{session_keys}
use Rattle.auc_sim.proofs.CardLemmas.{cards_of_rands, rands_are}
use Rattle.auc_sim.proofs.SentLemmas.{success_may, start_request_may, start_response_may, challenge_request_may, challenge_response_may}
use Rattle.auc_sim_packet.proofs.Facts.{sealed_is_read, sealed_is_right, written_is_received}

-- ---- RANDs that differ

not_equal : (a b : List ℕ) → (a ≡ b → ⊥) → bytes_eq a b ≡ false
not_equal a b differ = by (bytes_eq a b) refl
  where
    by : (t : Bool) → bytes_eq a b ≡ t → bytes_eq a b ≡ false
    by true same = absurd (differ ((bytes_eq-Decides a b).0 same))
    by false same = same

two_differ : (a b : List ℕ) → a ≢ b → has_equal (a ∷ b ∷ []) ≡ false
two_differ a b ab = rw (not_equal b a (λ e. ab (sym e))) refl

three_differ : (a b c : List ℕ) → a ≢ b → a ≢ c → b ≢ c → has_equal (a ∷ b ∷ c ∷ []) ≡ false
three_differ a b c ab ac bc = rw (not_equal b a (λ e. ab (sym e)), not_equal c a (λ e. ac (sym e)), not_equal c b (λ e. bc (sym e))) refl

-- two or three RANDs of which no two are equal
fresh : (rands : List (List ℕ)) → 2 ≤ length rands → length rands ≤ 3 → AllPairs ◌≢◌ rands → has_equal rands ≡ false
fresh [] least most differ = absurd (omega arith)
fresh (a ∷ []) least most differ = absurd (omega arith)
fresh (a ∷ b ∷ []) least most differ = two_differ a b (differ 0 1 [] (omega arith) (omega arith))
fresh (a ∷ b ∷ c ∷ []) least most differ =
    three_differ a b c (differ 0 1 [] (omega arith) (omega arith)) (differ 0 2 [] (omega arith) (omega arith)) (differ 1 2 [] (omega arith) (omega arith))
fresh (a ∷ b ∷ c ∷ d ∷ more) least most differ = absurd (omega arith)

-- ---- one delivery of the plain schedule

-- a delivery came to this, and left this; the rest goes on from there
record Known (last : SimNet) (to : End) (number : ℕ) (notes : List SimNote) (became : SimBecame) (mid : SimNet) : Type 0 where
  deliveries : List SimDelivery
  rest : List SimNote
  notes_are : notes ≡ note.Delivered to number became ∷ rest
  others : DeliversAll mid deliveries rest last
  goes_on : Alternates deliveries rest (other to) (made_in became)

abbrev after_server : SimNet → SimServerState × Step SimWhy → SimNet
after_server net did = record { server = did.0; peer = net.peer; packets = with_sent net.packets (sent_in did.1) }

abbrev after_peer : SimNet → SimPeerState × Step SimWhy → SimNet
after_peer net did = record { server = net.server; peer = did.0; packets = with_sent net.packets (sent_in did.1) }

abbrev became_of : SimNet → Step SimWhy → SimBecame
became_of net did = Did did (number_sent net.packets (sent_in did))

record IsThis (became : SimBecame) (mid : SimNet) (what : SimBecame) (then' : SimNet) : Type 0 where
  became_is : became ≡ what
  mid_is : mid ≡ then'

-- a network is its parts
net_is : (net : SimNet) (s : SimServerState) (p : SimPeerState) (packets : List (List ℕ)) → net.server ≡ s → net.peer ≡ p → net.packets ≡ packets
    → net ≡ record { server = s; peer = p; packets = packets }
net_is net s p packets es ep ek =
    ap (λ (x : SimServerState). made x net.peer net.packets) es ∙ ap (λ (x : SimPeerState). made s x net.packets) ep ∙ ap (λ (x : List (List ℕ)). made s p x) ek
  where
    made : SimServerState → SimPeerState → List (List ℕ) → SimNet
    made s p packets = record { server = s; peer = p; packets = packets }

server_is : (net mid : SimNet) (bytes : List ℕ) (became : SimBecame) (did : SimServerState × Step SimWhy)
    → ((seen : SimSeen) → IsSimReceived seen → seen.bytes ≡ bytes → server_turn net.server seen ≡ did)
    → Receives end.Server net bytes became mid → IsThis became mid (became_of net did.1) (after_server net did)
server_is net mid bytes became did turn r =
    let t = r.turns.0 in
    let same : (mid.server, r.step) ≡ did = t.same ∙ turn t.seen t.received t.of in
    let step_is : r.step ≡ did.1 = ap (λ (d : SimServerState × Step SimWhy). d.1) same in
    let server_is : mid.server ≡ did.0 = ap (λ (d : SimServerState × Step SimWhy). d.0) same in
    let packets_are : mid.packets ≡ with_sent net.packets (sent_in did.1) = r.packets ∙ ap (λ (s : Step SimWhy). with_sent net.packets (sent_in s)) step_is in
    record {
      became_is = r.became_is ∙ ap (became_of net) step_is;
      mid_is = net_is mid did.0 net.peer (with_sent net.packets (sent_in did.1)) server_is r.turns.1 packets_are;
    }

peer_is : (net mid : SimNet) (bytes : List ℕ) (became : SimBecame) (did : SimPeerState × Step SimWhy)
    → ((seen : SimSeen) → IsSimReceived seen → seen.bytes ≡ bytes → peer_turn net.peer seen ≡ did)
    → Receives end.Peer net bytes became mid → IsThis became mid (became_of net did.1) (after_peer net did)
peer_is net mid bytes became did turn r =
    let t = r.turns.0 in
    let same : (mid.peer, r.step) ≡ did = t.same ∙ turn t.seen t.received t.of in
    let step_is : r.step ≡ did.1 = ap (λ (d : SimPeerState × Step SimWhy). d.1) same in
    let peer_is : mid.peer ≡ did.0 = ap (λ (d : SimPeerState × Step SimWhy). d.0) same in
    let packets_are : mid.packets ≡ with_sent net.packets (sent_in did.1) = r.packets ∙ ap (λ (s : Step SimWhy). with_sent net.packets (sent_in s)) step_is in
    record {
      became_is = r.became_is ∙ ap (became_of net) step_is;
      mid_is = net_is mid net.server did.0 (with_sent net.packets (sent_in did.1)) r.turns.1 peer_is packets_are;
    }

-- the first delivery of the plain schedule, by what became of it
first_known : (net last : SimNet) (ds : List SimDelivery) (notes : List SimNote) (to : End) (number : ℕ) (what : SimBecame) (then' : SimNet)
    → ((became : SimBecame) (mid : SimNet) → Becomes to net (packet_numbered net.packets number) became mid → IsThis became mid what then')
    → DeliversAll net ds notes last → Alternates ds notes to (Some number) → Known last to number notes what then'
first_known net last [] notes to number what then' is all plain = absurd plain
first_known net last (d ∷ ds) notes to number what then' is (became, mid, rest, notes_are, here, others) (said, told, d_is, notes_too, more) =
    let here_to : Delivers net (record { end = to; packet = number }) became mid = subst (λ (x : SimDelivery). Delivers net x became mid) d_is here in
    let this : IsThis became mid what then' = is became mid here_to in
    let one : note.Delivered d.end d.packet became ∷ rest ≡ note.Delivered to number said ∷ told = sym notes_are ∙ notes_too in
    let said_is : said ≡ what = sym (same_became one) ∙ this.became_is in
    record {
      deliveries = ds;
      rest = rest;
      notes_are = notes_too ∙ ap (λ (b : SimBecame). note.Delivered to number b ∷ told) said_is ∙ ap (λ (r : List SimNote). note.Delivered to number what ∷ r) (sym (same_rest one));
      others = subst (λ (n : SimNet). DeliversAll n ds rest last) this.mid_is others;
      goes_on = subst (λ (b : SimBecame). Alternates ds rest (other to) (made_in b)) said_is
          (subst (λ (r : List SimNote). Alternates ds r (other to) (made_in said)) (sym (same_rest one)) more);
    }
  where
    same_became : note.Delivered d.end d.packet became ∷ rest ≡ note.Delivered to number said ∷ told → became ≡ said
    same_became e = cc

    same_rest : note.Delivered d.end d.packet became ∷ rest ≡ note.Delivered to number said ∷ told → rest ≡ told
    same_rest e = cc

-- if no packet is to be delivered, nothing follows
record IsLast (net last : SimNet) (notes : List SimNote) : Type 0 where
  notes_are : notes ≡ []
  last_is : last ≡ net

last_known : (net last : SimNet) (ds : List SimDelivery) (notes : List SimNote) (to : End) → DeliversAll net ds notes last → Alternates ds notes to None → IsLast net last notes
last_known net last [] notes to (none, same) plain = record { notes_are = none; last_is = same }
last_known net last (d ∷ ds) notes to all plain = absurd plain

-- ---- how it ends

-- the ends agree
agreed : (keys : KeySet) (ending : List SimNote) → EndsWith (Some keys) (Some keys) ending → ending ≡ note.Ended true ∷ []
agreed keys ending (agree, is, tells) = is ∙ ap (λ (b : Bool). note.Ended b ∷ []) (tells.1 refl)

-- ---- the states and the packets of the session

module _ (inputs : SimInputs) (matched : AreMatched inputs) (differ : AllPairs ◌≢◌ (map rand_in inputs.triplets)) where
  abbrev keys : KeySet
  keys = session_keys inputs

  abbrev start : List ℕ
  start = sim_text start_request

  abbrev response : List ℕ
  response = sim_text (start_response 1 inputs.nonce inputs.identity)

  abbrev challenge : List ℕ
  challenge = request_bytes keys.k_aut inputs.nonce inputs.triplets

  abbrev proof : List ℕ
  proof = response_bytes 2 keys.k_aut inputs.triplets

  abbrev success : List ℕ
  success = sim_text (packet.Success 2)

  abbrev server_0 : SimServerState
  server_0 = new_server inputs.identity inputs.triplets

  abbrev server_1 : SimServerState
  server_1 = record { identity = inputs.identity; triplets = inputs.triplets; at = await.AwaitChallenge keys }

  abbrev server_2 : SimServerState
  server_2 = record { identity = inputs.identity; triplets = inputs.triplets; at = await.Ended (outcome.Success keys) }

  abbrev peer_0 : SimPeerState
  peer_0 = new_peer inputs.secret inputs.identity inputs.nonce

  abbrev peer_1 : SimPeerState
  peer_1 = record { secret = inputs.secret; identity = inputs.identity; nonce = inputs.nonce; last = Some (record { id = 1; request = start; answer = response }); at = wait.WaitChallenge version_one }

  abbrev peer_2 : SimPeerState
  peer_2 = record { secret = inputs.secret; identity = inputs.identity; nonce = inputs.nonce; last = Some (record { id = 2; request = challenge; answer = proof }); at = wait.Answered keys }

  abbrev peer_3 : SimPeerState
  peer_3 = record { secret = inputs.secret; identity = inputs.identity; nonce = inputs.nonce; last = Some (record { id = 2; request = challenge; answer = proof }); at = wait.Ended (outcome.Success keys) }

  -- ---- the turns

  -- the peer answers the Start request
  turn_1 : (seen : SimSeen) → IsSimReceived seen → seen.bytes ≡ start → peer_turn peer_0 seen ≡ (peer_1, step.Sent response)
  turn_1 seen received of =
      let is : seen.packet ≡ Some start_request = written_is_received start_request [] seen start_request_may refl received (of ∙ sym (append-nil start)) in
      ap (peer.on_reading peer_0 seen) is ∙ ap (λ (request : List ℕ). answered request) of
    where
      answered : List ℕ → SimPeerState × Step SimWhy
      answered request = (record { secret = inputs.secret; identity = inputs.identity; nonce = inputs.nonce; last = Some (record { id = 1; request = request; answer = response }); at = wait.WaitChallenge version_one }, step.Sent response)

  -- the server answers the Start response by the Challenge
  turn_2 : (seen : SimSeen) → IsSimReceived seen → seen.bytes ≡ response → server_turn server_0 seen ≡ (server_1, step.Sent challenge)
  turn_2 seen received of =
      let is : seen.packet ≡ Some (start_response 1 inputs.nonce inputs.identity) =
      written_is_received (start_response 1 inputs.nonce inputs.identity) [] seen (start_response_may 1 inputs.nonce inputs.identity matched.nonce matched.short)
      refl received (of ∙ sym (append-nil response)) in
      ap (server.on_packet server_0 seen) is

  -- the server recognises the answer, and ends in Success
  turn_4 : (seen : SimSeen) → IsSimReceived seen → seen.bytes ≡ proof → server_turn server_1 seen ≡ (server_2, step.Ended (outcome.Success keys) success)
  turn_4 seen received of =
      let whole : seen.bytes ≡ proof ++ [] = of ∙ sym (append-nil proof) in
      let is : seen.packet ≡ Some (sealed_packet keys.k_aut (all_sres inputs.triplets) (challenge_response 2)) =
      sealed_is_read keys.k_aut (all_sres inputs.triplets) [] (challenge_response 2) seen (challenge_response_may 2) refl received whole in
      let right : is_sim_sealed keys.k_aut (all_sres inputs.triplets) seen ≡ true =
      sealed_is_right keys.k_aut (all_sres inputs.triplets) [] (challenge_response 2) seen (challenge_response_may 2) received whole in
      ap (server.on_packet server_1 seen) is
      ∙ ap (λ (b : Bool). if b then server.ended server_1 (outcome.Success keys) else server.ended server_1 (outcome.Failure why.WrongMac)) right

  -- the peer ends in Success too
  turn_5 : (seen : SimSeen) → IsSimReceived seen → seen.bytes ≡ success → peer_turn peer_2 seen ≡ (peer_3, step.Ended (outcome.Success keys) [])
  turn_5 seen received of =
      let is : seen.packet ≡ Some (packet.Success 2) = written_is_received (packet.Success 2) [] seen (success_may 2) refl received (of ∙ sym (append-nil success)) in
      let new : bytes_eq seen.bytes challenge ≡ false = ap (λ (b : List ℕ). bytes_eq b challenge) of ∙ not_equal success challenge other_code in
      ap (peer.on_reading peer_2 seen) is
      ∙ ap (λ (b : Bool). if b then (peer_2, step.Sent proof) else (peer_3, step.Ended (outcome.Success keys) [])) new
    where
      other_code : success ≡ challenge → ⊥
      other_code e = cc

  -- the peer takes the Challenge, whose AT_MAC is right under the keys of its own triplets, and answers it
  turn_3 : (seen : SimSeen) → IsSimReceived seen → seen.bytes ≡ challenge → peer_turn peer_1 seen ≡ (peer_2, step.Sent proof)
  turn_3 seen received of =
      let whole : seen.bytes ≡ challenge ++ [] = of ∙ sym (append-nil challenge) in
      let is : seen.packet ≡ Some (sealed_packet keys.k_aut inputs.nonce (challenge_request inputs.triplets)) =
      sealed_is_read keys.k_aut inputs.nonce [] (challenge_request inputs.triplets) seen (challenge_request_may inputs matched) refl received whole in
      let right : is_sim_sealed keys.k_aut inputs.nonce seen ≡ true =
      sealed_is_right keys.k_aut inputs.nonce [] (challenge_request inputs.triplets) seen (challenge_request_may inputs matched) received whole in
      let new : bytes_eq seen.bytes start ≡ false = ap (λ (b : List ℕ). bytes_eq b start) of ∙ not_equal challenge start other_id in
      let sizes : length (map rand_in inputs.triplets) ≡ length inputs.triplets = length-map inputs.triplets rand_in in
      let all_fresh : has_equal (map rand_in inputs.triplets) ≡ false = fresh (map rand_in inputs.triplets) (rw sizes matched.least) (rw sizes matched.most) differ in
      ap (peer.on_reading peer_1 seen) is
      ∙ ap (λ (b : Bool). if b then (peer_1, step.Sent response) else peer.on_rands peer_1 seen 2 version_one (rands_in (flat_map rand_in inputs.triplets))) new
      ∙ ap (λ (rands : List (List ℕ)). peer.on_rands peer_1 seen 2 version_one rands) (rands_are inputs matched)
      ∙ ap (λ (b : Bool). if b then peer.refused peer_1 seen 2 why.NotFresh 3 else peer.on_triplets peer_1 seen 2 version_one (cards inputs.secret (map rand_in inputs.triplets))) all_fresh
      ∙ ap (peer.on_triplets peer_1 seen 2 version_one) (cards_of_rands inputs matched)
      ∙ ap (λ (b : Bool). if b then peer.answered peer_1 seen 2 (wait.Answered keys) proof else peer.refused peer_1 seen 2 why.WrongMac 0) right
      ∙ ap (λ (request : List ℕ). answered request) of
    where
      other_id : challenge ≡ start → ⊥
      other_id e = cc

      answered : List ℕ → SimPeerState × Step SimWhy
      answered request = (record { secret = inputs.secret; identity = inputs.identity; nonce = inputs.nonce; last = Some (record { id = 2; request = request; answer = proof }); at = wait.Answered keys }, step.Sent proof)

  -- ---- the whole session

  abbrev net_0 : SimNet
  net_0 = record { server = server_0; peer = peer_0; packets = start ∷ [] }

  abbrev net_1 : SimNet
  net_1 = record { server = server_0; peer = peer_1; packets = start ∷ response ∷ [] }

  abbrev net_2 : SimNet
  net_2 = record { server = server_1; peer = peer_1; packets = start ∷ response ∷ challenge ∷ [] }

  abbrev net_3 : SimNet
  net_3 = record { server = server_1; peer = peer_2; packets = start ∷ response ∷ challenge ∷ proof ∷ [] }

  abbrev net_4 : SimNet
  net_4 = record { server = server_2; peer = peer_2; packets = start ∷ response ∷ challenge ∷ proof ∷ success ∷ [] }

  abbrev net_5 : SimNet
  net_5 = record { server = server_2; peer = peer_3; packets = start ∷ response ∷ challenge ∷ proof ∷ success ∷ [] }

  abbrev became_1 : SimBecame
  became_1 = Did (step.Sent response) (Some 2)

  abbrev became_2 : SimBecame
  became_2 = Did (step.Sent challenge) (Some 3)

  abbrev became_3 : SimBecame
  became_3 = Did (step.Sent proof) (Some 4)

  abbrev became_4 : SimBecame
  became_4 = Did (step.Ended (outcome.Success keys) success) (Some 5)

  abbrev became_5 : SimBecame
  became_5 = Did (step.Ended (outcome.Success keys) []) None

  begins : (first : List ℕ) (net : SimNet) → Starts inputs first net → net ≡ net_0
  begins first net starts = net_is net server_0 peer_0 (start ∷ []) starts.server starts.peer (starts.packets ∙ ap (λ (f : List ℕ). f ∷ []) starts.first_is)

  does_1 : (became : SimBecame) (mid : SimNet) → Receives end.Peer net_0 start became mid → IsThis became mid became_1 net_1
  does_1 became mid here = peer_is net_0 mid start became (peer_1, step.Sent response) turn_1 here

  does_2 : (became : SimBecame) (mid : SimNet) → Receives end.Server net_1 response became mid → IsThis became mid became_2 net_2
  does_2 became mid here = server_is net_1 mid response became (server_1, step.Sent challenge) turn_2 here

  does_3 : (became : SimBecame) (mid : SimNet) → Receives end.Peer net_2 challenge became mid → IsThis became mid became_3 net_3
  does_3 became mid here = peer_is net_2 mid challenge became (peer_2, step.Sent proof) turn_3 here

  does_4 : (became : SimBecame) (mid : SimNet) → Receives end.Server net_3 proof became mid → IsThis became mid became_4 net_4
  does_4 became mid here = server_is net_3 mid proof became (server_2, step.Ended (outcome.Success keys) success) turn_4 here

  does_5 : (became : SimBecame) (mid : SimNet) → Receives end.Peer net_4 success became mid → IsThis became mid became_5 net_5
  does_5 became mid here = peer_is net_4 mid success became (peer_3, step.Ended (outcome.Success keys) []) turn_5 here

  abbrev worked : List SimNote
  worked = note.Delivered end.Peer 1 became_1 ∷ note.Delivered end.Server 2 became_2 ∷ note.Delivered end.Peer 3 became_3
      ∷ note.Delivered end.Server 4 became_4 ∷ note.Delivered end.Peer 5 became_5 ∷ []

  -- the five deliveries
  record Works (last : SimNet) (delivered : List SimNote) : Type 0 where
    delivered_are : delivered ≡ worked
    last_is : last ≡ net_5

  works : (last : SimNet) (ds : List SimDelivery) (delivered : List SimNote) → DeliversAll net_0 ds delivered last → Alternates ds delivered end.Peer (Some 1) → Works last delivered
  works last ds delivered all plain =
      let one : Known last end.Peer 1 delivered became_1 net_1 = first_known net_0 last ds delivered end.Peer 1 became_1 net_1 does_1 all plain in
      let two : Known last end.Server 2 one.rest became_2 net_2 = first_known net_1 last one.deliveries one.rest end.Server 2 became_2 net_2 does_2 one.others one.goes_on in
      let three : Known last end.Peer 3 two.rest became_3 net_3 = first_known net_2 last two.deliveries two.rest end.Peer 3 became_3 net_3 does_3 two.others two.goes_on in
      let four : Known last end.Server 4 three.rest became_4 net_4 = first_known net_3 last three.deliveries three.rest end.Server 4 became_4 net_4 does_4 three.others three.goes_on in
      let five : Known last end.Peer 5 four.rest became_5 net_5 = first_known net_4 last four.deliveries four.rest end.Peer 5 became_5 net_5 does_5 four.others four.goes_on in
      let none : IsLast net_5 last five.rest = last_known net_5 last five.deliveries five.rest end.Server five.others five.goes_on in
      let after_4 : four.rest ≡ note.Delivered end.Peer 5 became_5 ∷ [] = five.notes_are ∙ ap (λ (r : List SimNote). note.Delivered end.Peer 5 became_5 ∷ r) none.notes_are in
      let after_3 : three.rest ≡ note.Delivered end.Server 4 became_4 ∷ note.Delivered end.Peer 5 became_5 ∷ [] =
      four.notes_are ∙ ap (λ (r : List SimNote). note.Delivered end.Server 4 became_4 ∷ r) after_4 in
      let after_2 : two.rest ≡ note.Delivered end.Peer 3 became_3 ∷ note.Delivered end.Server 4 became_4 ∷ note.Delivered end.Peer 5 became_5 ∷ [] =
      three.notes_are ∙ ap (λ (r : List SimNote). note.Delivered end.Peer 3 became_3 ∷ r) after_3 in
      record {
        delivered_are = one.notes_are ∙ ap (λ (r : List SimNote). note.Delivered end.Peer 1 became_1 ∷ r) (two.notes_are ∙ ap (λ (r : List SimNote). note.Delivered end.Server 2 became_2 ∷ r) after_2);
        last_is = none.last_is;
      }

  succeeds : (notes : List SimNote) → SimRuns inputs Plain notes → Succeeds notes
  succeeds notes runs =
      let all : DeliversAll net_0 runs.deliveries runs.delivered runs.end =
      subst (λ (n : SimNet). DeliversAll n runs.deliveries runs.delivered runs.end) (begins runs.first runs.start runs.starts) runs.delivers in
      let done : Works runs.end runs.delivered = works runs.end runs.deliveries runs.delivered all runs.scheduled in
      let ends : EndsWith (Some keys) (Some keys) runs.ending =
      subst (λ (n : SimNet). EndsWith (server_keys n.server.at) (peer_keys n.peer.at) runs.ending) done.last_is runs.ends in
      record {
        start = runs.first;
        start_response = response;
        challenge = challenge;
        challenge_response = proof;
        success = success;
        keys = keys;
        notes_are = runs.notes_are ∙ ap (λ (d : List SimNote). note.Started runs.first ∷ (d ++ runs.ending)) done.delivered_are
            ∙ ap (λ (e : List SimNote). note.Started runs.first ∷ (worked ++ e)) (agreed keys runs.ending ends);
      }

pub plain_succeeds : EachPlainSessionSucceeds
plain_succeeds inputs notes matched differ runs = succeeds inputs matched differ notes runs
