-- For plain sessions: the turns of a peer that answers a Challenge, and Success.
use Rattle.std.proofs.Common.{◌≡◌, ℕ, ◌≤◌, Bool, true, false, not, if◌then◌else◌, List, [], length, Option, Some, None, refl, sym, ap, ◌∙◌, subst, arith, eq-eqb}
use Rattle.std.specs.Prelude.{slice_index}
use Rattle.std.proofs.lemmas.Slice.Eq.{bytes_eq-Decides}
use Rattle.auc_aes.specs.Bytes.{IsBlock, IsBytes}
use Rattle.auc_hmac.specs.declared.keys.KeySet.{KeySet}
use Rattle.auc_hmac.specs.declared.method.Method.{Method}
use Rattle.auc_lines.specs.declared.part.SessionLine.{SessionLine}
use Rattle.auc_milenage.specs.Milenage.{auts, f2, f3, f4}
use Rattle.auc_packet.specs.Head.{head_as, head_at}
use Rattle.auc_packet.specs.Received.{Seen, attrs_in, is_sealed}
use Rattle.auc_packet.specs.Sealed.{with_mac}
use Rattle.auc_packet.specs.Spelling.{packet_text}
use Rattle.auc_packet.specs.declared.packet.Packet.TheVariants as packet
use Rattle.auc_packet.specs.Packet.{method_type}
use Rattle.auc_packet.specs.declared.received.Reading.{Reading}
use Rattle.auc_peer.specs.Attributes.{checkcode, id_in, is_there}
use Rattle.auc_peer.specs.Messages.{response_bytes, sync_failure}
use Rattle.auc_peer.specs.Rows.{ended_by, is_last, peer_row, repeats, row_headed, row_in}
use Rattle.auc_peer.specs.Subscription.{Subscription}
use Rattle.auc_peer.specs.Table.{accepted, accepting, by_answer, client, context_from, genuine, in_state, keys_at, keys_for, master_at, network_of, noted, opened, own_code, peer_does, peer_step, succeeded, text_or_none, with_inner, with_next}
use Rattle.auc_peer.specs.Told.{ToldSession}
use Rattle.auc_peer.specs.Turn.{Decrypts, Decryption, decryption_by, decryption_noted, decryption_under}
use Rattle.auc_peer.specs.declared.decrypted.Decrypted.{Decrypted}
use Rattle.auc_peer.specs.declared.decrypted.Decrypted.TheVariants as decrypted
use Rattle.auc_peer.specs.declared.peer.Peer.{Peer}
use Rattle.auc_peer.specs.declared.peer.PeerState.{PeerState}
use Rattle.auc_peer.specs.declared.peer.PeerState.TheVariants as state
use Rattle.auc_peer.specs.declared.rows.Row.{Row}
use Rattle.auc_peer.specs.declared.rows.Row.TheVariants as row
use Rattle.auc_vector.specs.declared.why.PeerWhy.{PeerWhy}
use Rattle.auc_vector.specs.declared.why.PeerWhy.TheVariants as why
use Rattle.auc_reauth.specs.Device.{Keeps}
use Rattle.auc_request.specs.Request.{checkcode_of, first_value}
use Rattle.auc_request.specs.declared.enclosed.Enclosed.{Enclosed}
use Rattle.auc_seal.specs.Checkcode.{checkcode_of as code_of, differs, value_bytes}
use Rattle.auc_server.specs.Messages.{attrs_given, challenge_draft}
use Rattle.auc_server.specs.Rounds.{checkcode as server_code}
use Rattle.auc_server.specs.declared.naming.GivenNames.{GivenNames}
use Rattle.auc_usim.specs.Usim.{sqn_in}
use Rattle.auc_usim.specs.declared.answer.Answer.{Answer}
use Rattle.auc_vector.specs.Keys.{ck_by, ik_by, keys_of}
use Rattle.auc_vector.specs.declared.notes.UsimNote.{UsimNote}
use Rattle.auc_vector.specs.declared.notes.UsimNote.TheVariants as usim
use Rattle.auc_vector.specs.declared.turn.Outcome.TheVariants as outcome
use Rattle.auc_vector.specs.declared.turn.Reason.TheVariants as reason
use Rattle.auc_vector.specs.declared.turn.Step.TheVariants as step
use Rattle.auc_vector.specs.declared.turn.Turn.{Turn}
use Rattle.auc_world.proofs.PlainHiddenLemmas.{has_checkcode, keys_taken, list_with, reads_inner}
use Rattle.auc_world.proofs.PlainPeerLemmas.{Passes, Waits, WaitsOn, challenge_row, of_vector, other_id}
use Rattle.auc_world.proofs.PlainUsimLemmas.{acceptance_is}
use Rattle.auc_world.proofs.PlainKeyLemmas.{AreNewNames, checkcode_is}
use Rattle.auc_world.proofs.PlainPacketLemmas.{Is, Laws, unlike}
use Rattle.auc_world.specs.Happened.{server_options}

-- ---- the USIM reported a synchronisation failure

pub record SendsSync (opening : SessionLine) (device : Subscription) (text : List ℕ) (packets : List (List ℕ)) (id : ℕ) (rand sqn : List ℕ) (turn : Peer × Turn PeerWhy) : Type 0 where
  pub z : Peer
  pub turn_is : turn ≡ (
    z,
    record { notes = noted (Some (usim.Sync sqn)); step = step.Sent (packet_text (sync_failure opening.method id (auts device.secret.k device.secret.opc rand sqn))); checked = false },
  )
  pub waits : WaitsOn opening z text packets id

pub sends_sync : (key : List ℕ) (opening : SessionLine) (device : Subscription) (keeps : Keeps) (p : Peer) (seen : Seen) (text : List ℕ) (packets : List (List ℕ)) (id : ℕ) (rand autn sqn : List ℕ) (inner : Decrypted)
    → Waits opening p text packets id → peer_row p seen ≡ row.Challenged (of_vector rand autn) → head_at seen.bytes ≡ Some (head_as 1 id (Some (method_type opening.method))) → slice_index seen.bytes 1 ≡ id
    → SendsSync opening device text packets id rand sqn (peer_step key device keeps p seen (Some (usim.Sync sqn)) inner)
sends_sync key opening device keeps p seen text packets id rand autn sqn inner w row_is head second =
    let note = Some (usim.Sync sqn) in
    let sends : ℕ → Method → Peer × Turn PeerWhy = λ i m. (
      record p {
        state = state.Waiting;
        last = Some (record { id = i; request = seen.bytes; answer = packet_text (sync_failure m i (auts device.secret.k device.secret.opc rand sqn)) });
      },
      record { notes = noted note; step = step.Sent (packet_text (sync_failure m i (auts device.secret.k device.secret.opc rand sqn))); checked = false },
    ) in
    record {
      z = (sends id opening.method).0;
      turn_is = ap (λ (r : Row). peer_does key device keeps p seen r note inner) row_is ∙ ap (λ (i : ℕ). sends i p.options.method) (ap id_in head) ∙ ap (λ (x : ToldSession). sends id x.method) w.options_are;
      waits = λ later differ. record {
        options_are = w.options_are;
        waiting_is = refl;
        identity_is = w.identity_is;
        packets_are = w.packets_are;
        new = λ bytes new. other_id bytes seen.bytes later id new second differ;
      };
    }

-- ---- the USIM accepted

pub record Responds (opening : SessionLine) (device : Subscription) (packets : List (List ℕ)) (id : ℕ) (rand : List ℕ) (keys : KeySet) (turn : Peer × Turn PeerWhy) : Type 0 where
  pub z : Peer
  pub accepted_sqn : List ℕ
  pub turn_is : turn ≡ (
    z,
    record {
      notes = noted (Some (usim.Accepted accepted_sqn));
      step = step.Sent (response_bytes opening.method id keys.k_aut (f2 device.secret.k device.secret.opc rand) true (server_code opening.method packets));
      checked = true;
    },
  )
  pub answered_is : z.state ≡ state.Answered keys
  pub last_id : is_last z.last id ≡ true
  pub new : (bytes : List ℕ) → slice_index bytes 0 ≡ 3 → repeats z.last bytes ≡ false

-- a Challenge of a session, and what a peer finds in it
pub record IsChallenged (opening : SessionLine) (device : Subscription) (p : Peer) (seen : Seen) (text : List ℕ) (packets : List (List ℕ)) (id : ℕ) (realm rand autn : List ℕ) (given : Option GivenNames) (mac : List ℕ) (keys : KeySet) : Type 0 where
  pub waits : Waits opening p text packets id
  pub passes : Passes autn opening
  pub is : Is seen (with_mac (challenge_draft (server_options opening) realm id rand autn keys.k_encr given (server_code opening.method packets)) mac)
  pub first : slice_index seen.bytes 0 ≡ 1
  pub second : slice_index seen.bytes 1 ≡ id
  pub keys_are : keys_of opening.method text (ik_by opening.method opening.name autn (f3 device.secret.k device.secret.opc rand) (f4 device.secret.k device.secret.opc rand))
      (ck_by opening.method opening.name autn (f3 device.secret.k device.secret.opc rand) (f4 device.secret.k device.secret.opc rand)) ≡ keys
  pub right : is_sealed opening.method keys.k_aut [] seen ≡ true
  pub block : IsBlock keys.k_encr
  pub names : AreNewNames given
  pub short : length realm ≤ 255
  pub also : IsBytes realm

pub challenged_row : (opening : SessionLine) (device : Subscription) (p : Peer) (seen : Seen) (text : List ℕ) (packets : List (List ℕ)) (id : ℕ) (realm rand autn : List ℕ) (given : Option GivenNames) (mac : List ℕ) (keys : KeySet)
    → IsChallenged opening device p seen text packets id realm rand autn given mac keys → peer_row p seen ≡ row.Challenged (of_vector rand autn)
challenged_row opening device p seen text packets id realm rand autn given mac keys c =
    challenge_row opening p seen text packets id realm rand autn keys.k_encr given (server_code opening.method packets) mac c.waits c.passes c.is c.second

-- its keys are the session's
keys_found : (opening : SessionLine) (device : Subscription) (p : Peer) (seen : Seen) (text : List ℕ) (packets : List (List ℕ)) (id : ℕ) (realm rand autn : List ℕ) (given : Option GivenNames) (mac : List ℕ) (keys : KeySet)
    → IsChallenged opening device p seen text packets id realm rand autn given mac keys
    → keys_at p seen (of_vector rand autn) (f4 device.secret.k device.secret.opc rand) (f3 device.secret.k device.secret.opc rand) ≡ keys
keys_found opening device p seen text packets id realm rand autn given mac keys h =
    let m = opening.method in
    let ck = f3 device.secret.k device.secret.opc rand in
    let ik = f4 device.secret.k device.secret.opc rand in
    let c = of_vector rand autn in
    let code = server_code m packets in
    let hidden = attrs_given realm keys.k_encr given in
    let list = list_with m opening.name opening.bidding rand autn hidden code mac in
    ap (λ (x : ToldSession). keys_for x.method (network_of x.method (attrs_in seen.reading)) c (text_or_none p.identity) ik ck) h.waits.options_are
    ∙ ap (λ (r : Reading). keys_for m (network_of m (attrs_in r)) c (text_or_none p.identity) ik ck) h.is.packet_is
    ∙ ap (λ (o : Option (List ℕ)). keys_for m (network_of m list) c (text_or_none o) ik ck) h.waits.identity_is
    ∙ keys_taken m opening.name opening.bidding hidden code mac c text ik ck ∙ h.keys_are

-- its AT_CHECKCODE is the peer's own value
code_found : (opening : SessionLine) (device : Subscription) (p : Peer) (seen : Seen) (text : List ℕ) (packets : List (List ℕ)) (id : ℕ) (realm rand autn : List ℕ) (given : Option GivenNames) (mac : List ℕ) (keys : KeySet)
    → IsChallenged opening device p seen text packets id realm rand autn given mac keys → checkcode seen ≡ Some (server_code opening.method packets)
code_found opening device p seen text packets id realm rand autn given mac keys h =
    ap (λ (r : Reading). first_value checkcode_of (attrs_in r)) h.is.packet_is
    ∙ has_checkcode opening.method opening.name opening.bidding realm rand autn keys.k_encr given (server_code opening.method packets) mac

pub own_is : (opening : SessionLine) (p : Peer) (text : List ℕ) (packets : List (List ℕ)) (id : ℕ) → Waits opening p text packets id → own_code p ≡ server_code opening.method packets
own_is opening p text packets id w =
    ap (λ (x : ToldSession). value_bytes (code_of x.method p.packets)) w.options_are ∙ ap (λ (l : List (List ℕ)). value_bytes (code_of opening.method l)) w.packets_are
    ∙ checkcode_is opening.method packets

pub same_code : (code : List ℕ) → differs code (Some code) ≡ false
same_code code = ap (λ (b : Bool). not b) ((bytes_eq-Decides code code).1 refl)

-- what is encrypted in it is decrypted
opens : Laws → (opening : SessionLine) (device : Subscription) (p : Peer) (seen : Seen) (text : List ℕ) (packets : List (List ℕ)) (id : ℕ) (realm rand autn : List ℕ) (given : Option GivenNames) (mac : List ℕ) (keys : KeySet) (sqn : List ℕ) (inner : Decrypted)
    → IsChallenged opening device p seen text packets id realm rand autn given mac keys
    → Decrypts (decryption_noted device p seen (Some (of_vector rand autn)) (Some (usim.Accepted sqn))) inner → (e : Enclosed) × (inner ≡ decrypted.Attributes e)
opens laws opening device p seen text packets id realm rand autn given mac keys sqn inner h decrypts =
    let m = opening.method in
    let c = of_vector rand autn in
    let code = server_code m packets in
    let own = keys_found opening device p seen text packets id realm rand autn given mac keys h in
    let list = list_with m opening.name opening.bidding rand autn (attrs_given realm keys.k_encr given) code mac in
    let by : Bool → Option Decryption = λ b. if b then None else Some (record { k_encr = keys.k_encr; list = attrs_in seen.reading }) in
    let decryption : decryption_noted device p seen (Some c) (Some (usim.Accepted sqn)) ≡ Some (record { k_encr = keys.k_encr; list = list }) =
    ap (decryption_by p seen c) (acceptance_is device.secret rand autn) ∙ ap (decryption_under p seen) own
    ∙ ap (λ (x : ToldSession). if not (is_sealed x.method keys.k_aut [] seen) then None else by (differs (own_code p) (checkcode seen))) h.waits.options_are
    ∙ ap (λ (b : Bool). if not b then None else by (differs (own_code p) (checkcode seen))) h.right
    ∙ ap (λ (l : List ℕ). by (differs l (checkcode seen))) (own_is opening p text packets id h.waits)
    ∙ ap (λ (o : Option (List ℕ)). by (differs code o)) (code_found opening device p seen text packets id realm rand autn given mac keys h)
    ∙ ap by (same_code code)
    ∙ ap (λ (r : Reading). Some (record { k_encr = keys.k_encr; list = attrs_in r })) h.is.packet_is in
    reads_inner laws m opening.name opening.bidding realm keys.k_encr rand autn given code mac inner h.short h.also h.block h.names (subst (λ (d : Option Decryption). Decrypts d inner) decryption decrypts)

-- the peer answers with RES, under the keys of its identity
pub responds : Laws → (key : List ℕ) (opening : SessionLine) (device : Subscription) (keeps : Keeps) (p : Peer) (seen : Seen) (text : List ℕ) (packets : List (List ℕ)) (id : ℕ) (realm rand autn : List ℕ) (given : Option GivenNames) (mac : List ℕ) (keys : KeySet) (sqn : List ℕ) (inner : Decrypted)
    → IsChallenged opening device p seen text packets id realm rand autn given mac keys
    → Decrypts (decryption_noted device p seen (Some (of_vector rand autn)) (Some (usim.Accepted sqn))) inner
    → Responds opening device packets id rand keys (peer_step key device keeps p seen (Some (usim.Accepted sqn)) inner)
responds laws key opening device keeps p seen text packets id realm rand autn given mac keys sqn inner h decrypts =
    let m = opening.method in
    let c = of_vector rand autn in
    let code = server_code m packets in
    let res = f2 device.secret.k device.secret.opc rand in
    let taken_sqn = sqn_in device.secret rand autn in
    let note : Option UsimNote = Some (usim.Accepted taken_sqn) in
    let accepts = acceptance_is device.secret rand autn in
    let own = keys_found opening device p seen text packets id realm rand autn given mac keys h in
    let mine = own_is opening p text packets id h.waits in
    let found = code_found opening device p seen text packets id realm rand autn given mac keys h in
    let inside = opens laws opening device p seen text packets id realm rand autn given mac keys sqn inner h decrypts in
    let taking = accepting p seen c in
    let master = master_at p seen c (f4 device.secret.k device.secret.opc rand) (f3 device.secret.k device.secret.opc rand) in
    let tested : Bool → Peer × Turn PeerWhy = λ b. if b then client taking seen why.WrongCheckcode note true else opened taking seen res taken_sqn keys master inner in
    let sends : ℕ → Option (List ℕ) → List ℕ → Method → Peer × Turn PeerWhy = λ i o l x. (
      record (with_next (with_inner taking (decrypted.Attributes inside.0)) (context_from keys master taken_sqn inside.0.identity)) {
        state = state.Answered keys;
        last = Some (record { id = i; request = seen.bytes; answer = response_bytes x i keys.k_aut res (is_there o) l });
      },
      record { notes = noted note; step = step.Sent (response_bytes x i keys.k_aut res (is_there o) l); checked = true },
    ) in
    record {
      z = (sends id (Some code) code m).0;
      accepted_sqn = taken_sqn;
      turn_is = ap (λ (r : Row). peer_does key device keeps p seen r (Some (usim.Accepted sqn)) inner) (challenged_row opening device p seen text packets id realm rand autn given mac keys h)
          ∙ ap (λ (a : Answer). by_answer p seen c a inner) accepts
          ∙ ap (λ (x : KeySet). accepted p seen c res taken_sqn x master inner) own
          ∙ ap (λ (x : ToldSession). if not (is_sealed x.method keys.k_aut [] seen) then client p seen why.WrongMac note false else genuine taking seen res taken_sqn keys master inner) h.waits.options_are
          ∙ ap (λ (b : Bool). if not b then client p seen why.WrongMac note false else genuine taking seen res taken_sqn keys master inner) h.right
          ∙ ap (λ (l : List ℕ). tested (differs l (checkcode seen))) mine
          ∙ ap (λ (o : Option (List ℕ)). tested (differs code o)) found
          ∙ ap tested (same_code code)
          ∙ ap (opened taking seen res taken_sqn keys master) inside.1
          ∙ ap (λ (i : ℕ). sends i (checkcode seen) (own_code p) p.options.method) (ap id_in h.is.head)
          ∙ ap (λ (o : Option (List ℕ)). sends id o (own_code p) p.options.method) found
          ∙ ap (λ (l : List ℕ). sends id (Some code) l p.options.method) mine
          ∙ ap (λ (x : ToldSession). sends id (Some code) code x.method) h.waits.options_are;
      answered_is = refl;
      last_id = eq-eqb id id refl;
      new = λ bytes success. unlike bytes seen.bytes 0 (λ same. no_request (sym success ∙ same ∙ h.first));
    }
  where
    no_request : ◌≡◌ {A = ℕ} 3 1 → ⊥
    no_request e = omega (arith, e)

-- ---- Success

pub record Ends (keys : KeySet) (turn : Peer × Turn PeerWhy) : Type 0 where
  pub z : Peer
  pub turn_is : turn ≡ (z, record { notes = noted None; step = step.Ended (outcome.Success keys) []; checked = false })

-- the keys of the answered Challenge are those of Success
pub ends : (key : List ℕ) (device : Subscription) (keeps : Keeps) (p : Peer) (seen : Seen) (n : Option UsimNote) (id : ℕ) (keys : KeySet) (inner : Decrypted) → p.state ≡ state.Answered keys → is_last p.last id ≡ true
    → repeats p.last seen.bytes ≡ false → Is seen (packet.Success id) → Ends keys (peer_step key device keeps p seen n inner)
ends key device keeps p seen n id keys inner answered_is last_id new is =
    let at' : PeerState = state.Answered keys in
    let row_is : peer_row p seen ≡ row.Success =
    ap (λ (s : PeerState). row_in p.options s p.last seen) answered_is ∙ ap (row_headed p.options at' p.last seen) is.head
    ∙ ap (λ (b : Bool). if b then row.Again else ended_by at' p.last (head_as 3 id None)) new
    ∙ ap (λ (b : Bool). if not b then row.Ignore reason.Unexpected else row.Success) last_id in
    record {
      z = in_state p state.Ended;
      turn_is = ap (λ (r : Row). peer_does key device keeps p seen r n inner) row_is ∙ ap (succeeded p) answered_is;
    }
