-- For plain sessions: a peer whose device has the context of a re-authentication takes the request, and answers it (RFC 4187 §5).
use Rattle.std.proofs.Common.{◌≡◌, ℕ, ◌-◌, ◌==◌, nat_le, Bool, true, false, not, if◌then◌else◌, List, [], length, Option, Some, None, refl, sym, ap, ◌∙◌, subst, arith, eq-eqb}
use Rattle.std.proofs.lemmas.Bool.Decides.{nat_tests}
use Rattle.std.proofs.lemmas.Slice.Eq.{bytes_eq-Decides}
use Rattle.std.specs.Prelude.{slice_index}
use Rattle.auc_aes.specs.Bytes.{IsBlock}
use Rattle.auc_hmac.specs.declared.keys.KeySet.{KeySet}
use Rattle.auc_hmac.specs.declared.keys.Master.{Master}
use Rattle.auc_hmac.specs.declared.method.Method.{Method}
use Rattle.auc_ident.specs.Permanent.{username}
use Rattle.auc_lines.specs.declared.part.SessionLine.{SessionLine}
use Rattle.auc_lines.specs.declared.part.End.TheVariants as end
use Rattle.auc_packet.specs.Messages.{is_missing}
use Rattle.auc_packet.specs.Received.{Seen, attrs_in, is_sealed}
use Rattle.auc_packet.specs.Sealed.{draft_mac, with_mac}
use Rattle.auc_packet.specs.declared.received.Reading.{Reading}
use Rattle.auc_packet.specs.declared.subtype.Subtype.TheVariants as subtype
use Rattle.auc_peer.specs.Attributes.{checkcode as code_in, id_in, id_of, is_there}
use Rattle.auc_peer.specs.Messages.{reauth_bytes as reply_bytes}
use Rattle.auc_peer.specs.Rows.{is_last, peer_row, repeats}
use Rattle.auc_peer.specs.Subscription.{Subscription}
use Rattle.auc_peer.specs.Table.{by_counter, client, context_named, context_of, counter_bytes, disclosed, own_code, peer_does, peer_step, reauthenticated, resumed_by, resuming, small, sound, taken, text_or_none, with_inner}
use Rattle.auc_peer.specs.Told.{ToldSession}
use Rattle.auc_peer.specs.Turn.{Decryption, Decrypts, IsInner, decryption_made, decryption_resumed}
use Rattle.auc_peer.specs.declared.decrypted.Decrypted.{Decrypted}
use Rattle.auc_peer.specs.declared.decrypted.Decrypted.TheVariants as decrypted
use Rattle.auc_peer.specs.declared.peer.Peer.{Peer}
use Rattle.auc_peer.specs.declared.peer.PeerState.TheVariants as state
use Rattle.auc_peer.specs.declared.rows.Row.{Row}
use Rattle.auc_peer.specs.declared.rows.Row.TheVariants as row
use Rattle.auc_seal.specs.Checkcode.{differs}
use Rattle.auc_vector.specs.declared.why.PeerWhy.{PeerWhy}
use Rattle.auc_vector.specs.declared.why.PeerWhy.TheVariants as why
use Rattle.auc_random.specs.Random.{nonce_of}
use Rattle.auc_reauth.specs.Device.{Keeps, is_open}
use Rattle.auc_reauth.specs.Server.{if_named}
use Rattle.auc_reauth.specs.Store.{entry}
use Rattle.auc_reauth.specs.declared.context.Context.{Context}
use Rattle.auc_request.specs.Request.{checkcode_of, first_value}
use Rattle.auc_server.specs.InnerMessages.{IsName}
use Rattle.auc_server.specs.Messages.{reauth_bytes, reauth_draft, reauth_in}
use Rattle.auc_server.specs.Rounds.{checkcode}
use Rattle.auc_server.specs.Server.{ServerEnd}
use Rattle.auc_subs.specs.Setting.{Setting}
use Rattle.auc_server.specs.declared.server.Resumed.{Resumed}
use Rattle.auc_vector.specs.Keys.{reauth_keys_of}
use Rattle.auc_vector.specs.declared.turn.Turn.{Turn}
use Rattle.auc_world.proofs.PlainAgainLemmas.{again_row, bytes_are, reauth_values, request_may, second_is}
use Rattle.auc_world.proofs.PlainAnswerLemmas.{own_is, same_code}
use Rattle.auc_world.proofs.PlainKeyLemmas.{nonce_block}
use Rattle.auc_world.proofs.PlainNetLemmas.{OnWay, loosen, peer_takes}
use Rattle.auc_world.proofs.PlainPacketLemmas.{Is, Laws, reads_sealed, unlike}
use Rattle.auc_world.proofs.PlainPeerLemmas.{Waits}
use Rattle.auc_world.proofs.PlainReplyLemmas.{Discloses, discloses, list_hiding}
use Rattle.auc_world.proofs.PlainServerLemmas.{AwaitsReply}
use Rattle.auc_world.proofs.PlainStageLemmas.{with_ends}
use Rattle.auc_world.proofs.PlainToldLemmas.{Free}
use Rattle.auc_world.specs.Agreement.{IsRealm, IsSized}
use Rattle.auc_world.specs.Happened.{kept_after, server_options}
use Rattle.auc_world.specs.Net.{Net}
use Rattle.auc_world.specs.Plain.{HasSameContext, sqn_reported}
use Rattle.auc_world.specs.declared.net.Session.{Session}

-- a re-authentication of a context is on its way to the peer, and nothing is known of the lines
pub record Renews (set : Setting) (opening : SessionLine) (number : ℕ) (s : Session) (device : Subscription) (keeps : Keeps) (r : Resumed) (id : ℕ) (next : Net) : Type 0 where
  pub q : ServerEnd
  pub p : Peer
  pub text : List ℕ
  pub packets : List (List ℕ)
  pub nonce : IsBlock r.nonce
  pub name : IsName r.next
  pub iv : List ℕ
  pub block : IsBlock iv
  pub named : r.context.identity ≡ username text
  pub awaits : AwaitsReply q (server_options opening) text id r packets
  pub waits : Waits opening p text packets id
  pub way : OnWay set Free number end.Peer (with_ends s q p) device keeps (reauth_bytes opening.method set.realm id iv r (checkcode opening.method packets)) 1 next

-- its keys under an identity
abbrev pub keys_again : Resumed → List ℕ → KeySet
keys_again r text = reauth_keys_of r.context.k_encr r.context.k_aut r.context.master text r.context.counter r.nonce

-- ---- the request

-- a Reauthentication of a session is received by its peer, whose device has the context
record IsRenewal (opening : SessionLine) (keeps : Keeps) (p : Peer) (seen : Seen) (text : List ℕ) (packets : List (List ℕ)) (id : ℕ) (realm iv : List ℕ) (r : Resumed) (mac : List ℕ) : Type 0 where
  waits : Waits opening p text packets id
  named : r.context.identity ≡ username text
  same : HasSameContext opening.method keeps r.context
  is : Is seen (with_mac (reauth_draft opening.method realm id iv r (checkcode opening.method packets)) mac)
  right : is_sealed opening.method r.context.k_aut [] seen ≡ true
  first : slice_index seen.bytes 0 ≡ 1
  second : slice_index seen.bytes 1 ≡ id

itself_open : (n : ℕ) → nat_le n n ≡ true
itself_open n = grind (arith, nat_tests)

module _ (opening : SessionLine) (keeps : Keeps) (p : Peer) (seen : Seen) (text : List ℕ) (packets : List (List ℕ)) (id : ℕ) (realm iv : List ℕ) (r : Resumed) (mac : List ℕ)
    (h : IsRenewal opening keeps p seen text packets id realm iv r mac) where
  abbrev own : Context
  own = h.same.own

  abbrev code : List ℕ
  code = checkcode opening.method packets

  renewal_row : peer_row p seen ≡ row.Reauthentication
  renewal_row = again_row opening p seen text packets id realm iv r code mac h.waits h.is h.second

  -- the device's context is that of the identity
  context_is : context_of keeps p ≡ Some own
  context_is =
      ap (λ (o : Option (List ℕ)). context_named o (entry p.options.method keeps.contexts)) h.waits.identity_is
      ∙ ap (λ (x : ToldSession). if_named (username text) (entry x.method keeps.contexts)) h.waits.options_are
      ∙ ap (if_named (username text)) h.same.has
      ∙ ap (λ (b : Bool). if b then Some own else None) ((bytes_eq-Decides own.identity (username text)).1 (h.same.identity ∙ h.named))

  complete : is_missing subtype.Reauthentication true (attrs_in seen.reading) ≡ false
  complete = ap (λ (x : Reading). is_missing subtype.Reauthentication true (attrs_in x)) h.is.packet_is

  sealed_is : is_sealed p.options.method own.k_aut [] seen ≡ true
  sealed_is =
      ap (λ (x : ToldSession). is_sealed x.method own.k_aut [] seen) h.waits.options_are ∙ ap (λ (k : List ℕ). is_sealed opening.method k [] seen) h.same.k_aut ∙ h.right

  code_is : own_code p ≡ code
  code_is = own_is opening p text packets id h.waits

  code_found : code_in seen ≡ Some code
  code_found = ap (λ (x : Reading). first_value checkcode_of (attrs_in x)) h.is.packet_is

  same_codes : differs (own_code p) (code_in seen) ≡ false
  same_codes = ap (λ (l : List ℕ). differs l (code_in seen)) code_is ∙ ap (differs code) code_found ∙ same_code code

  -- what is decrypted
  abbrev under : List ℕ → Reading → Option Decryption
  under k x = Some (record { k_encr = k; list = attrs_in x })

  decryption_is : decryption_resumed p seen (context_of keeps p) ≡ Some (record { k_encr = r.context.k_encr; list = list_hiding r.context.k_encr iv (reauth_in realm r) code mac })
  decryption_is =
      let third : Bool → Option Decryption = λ b. if b then None else under own.k_encr seen.reading in
      let second : Bool → Option Decryption = λ b. if not b then None else third (differs (own_code p) (code_in seen)) in
      let first : Bool → Option Decryption = λ b. if b then None else second (is_sealed p.options.method own.k_aut [] seen) in
      ap (decryption_resumed p seen) context_is ∙ ap first complete ∙ ap second sealed_is ∙ ap third same_codes
      ∙ ap (λ (k : List ℕ). under k seen.reading) h.same.k_encr ∙ ap (under r.context.k_encr) h.is.packet_is

  open_is : is_open r.context.counter (entry p.options.method keeps.contexts) ≡ true
  open_is =
      ap (λ (x : ToldSession). is_open r.context.counter (entry x.method keeps.contexts)) h.waits.options_are ∙ ap (is_open r.context.counter) h.same.has
      ∙ ap (λ (n : ℕ). nat_le n r.context.counter) h.same.counter ∙ itself_open r.context.counter

  -- the counter is accepted
  abbrev accepts : List ℕ → (inner : Decrypted) → Discloses r inner → Peer × Turn PeerWhy
  accepts key inner d = taken key (with_inner (resuming p own) (decrypted.Attributes d.given)) seen own d.given.identity r.context.counter r.nonce

  accepted_is : (key : List ℕ) (inner : Decrypted) (d : Discloses r inner) → reauthenticated key keeps p seen inner ≡ accepts key inner d
  accepted_is key inner d =
      let a = with_inner (resuming p own) (decrypted.Attributes d.given) in
      let third : Bool → Peer × Turn PeerWhy = λ b. if b then client (resuming p own) seen why.WrongCheckcode None true else disclosed key keeps (with_inner (resuming p own) inner) seen own inner in
      let second : Bool → Peer × Turn PeerWhy = λ b. if not b then client p seen why.WrongMac None false else sound key keeps (resuming p own) seen own inner in
      let first : Bool → Peer × Turn PeerWhy = λ b. if b then client p seen why.Missing None false else second (is_sealed p.options.method own.k_aut [] seen) in
      ap (λ (o : Option Context). resumed_by key keeps p seen o inner) context_is ∙ ap first complete ∙ ap second sealed_is ∙ ap third same_codes
      ∙ ap (λ (i : Decrypted). disclosed key keeps (with_inner (resuming p own) i) seen own i) d.attributes
      ∙ ap (λ (n : Option ℕ). by_counter key keeps a seen own d.given.identity n d.given.nonce) d.counter
      ∙ ap (by_counter key keeps a seen own d.given.identity (Some r.context.counter)) d.nonce
      ∙ ap (λ (b : Bool). if b then taken key a seen own d.given.identity r.context.counter r.nonce else small key a seen own r.context.counter r.nonce) open_is

  -- its keys are those of the re-authentication
  keys_are : reauth_keys_of own.k_encr own.k_aut own.master (text_or_none p.identity) r.context.counter r.nonce ≡ keys_again r text
  keys_are =
      ap (λ (k : List ℕ). reauth_keys_of k own.k_aut own.master (text_or_none p.identity) r.context.counter r.nonce) h.same.k_encr
      ∙ ap (λ (k : List ℕ). reauth_keys_of r.context.k_encr k own.master (text_or_none p.identity) r.context.counter r.nonce) h.same.k_aut
      ∙ ap (λ (k : Master). reauth_keys_of r.context.k_encr r.context.k_aut k (text_or_none p.identity) r.context.counter r.nonce) h.same.master
      ∙ ap (λ (o : Option (List ℕ)). reauth_keys_of r.context.k_encr r.context.k_aut r.context.master (text_or_none o) r.context.counter r.nonce) h.waits.identity_is

  id_is : id_of seen ≡ id
  id_is = ap id_in h.is.head

  -- the response, under the peer's initialisation vector
  abbrev iv_of : List ℕ → List ℕ
  iv_of key = nonce_of key p.options.session p.next_iv

  abbrev response : List ℕ → List ℕ
  response key = reply_bytes opening.method id r.context.k_encr r.context.k_aut (iv_of key) r.nonce r.context.counter false true code

  response_is : (key : List ℕ) (inner : Decrypted) → counter_bytes key (with_inner (resuming p own) inner) seen own r.nonce r.context.counter false ≡ response key
  response_is key inner =
      let bytes : Method → ℕ → List ℕ → List ℕ → Option (List ℕ) → List ℕ → List ℕ =
      λ m i e a o l. reply_bytes m i e a (iv_of key) r.nonce r.context.counter false (is_there o) l in
      ap (λ (x : ToldSession). bytes x.method (id_of seen) own.k_encr own.k_aut (code_in seen) (own_code p)) h.waits.options_are
      ∙ ap (λ (i : ℕ). bytes opening.method i own.k_encr own.k_aut (code_in seen) (own_code p)) id_is
      ∙ ap (λ (k : List ℕ). bytes opening.method id k own.k_aut (code_in seen) (own_code p)) h.same.k_encr
      ∙ ap (λ (k : List ℕ). bytes opening.method id r.context.k_encr k (code_in seen) (own_code p)) h.same.k_aut
      ∙ ap (λ (o : Option (List ℕ)). bytes opening.method id r.context.k_encr r.context.k_aut o (own_code p)) code_found
      ∙ ap (bytes opening.method id r.context.k_encr r.context.k_aut (Some code)) code_is

-- ---- the response

first_is : (m : Method) (realm : List ℕ) (id : ℕ) (iv : List ℕ) (r : Resumed) (check : List ℕ) → slice_index (reauth_bytes m realm id iv r check) 0 ≡ 1
unfolding reauth_bytes
first_is m realm id iv r check = refl

no_request : ◌≡◌ {A = ℕ} 3 1 → ⊥
no_request e = omega (arith, e)

-- the peer took the request, and its response is on its way to the server
pub record Renewed (set : Setting) (opening : SessionLine) (number : ℕ) (s : Session) (device : Subscription) (text : List ℕ) (packets : List (List ℕ)) (r : Resumed) (id : ℕ) (q : ServerEnd) (next : Net) : Type 0 where
  pub p : Peer
  pub keeps : Keeps
  pub iv : List ℕ
  pub block : IsBlock iv
  pub answered_is : p.state ≡ state.Answered (keys_again r text)
  pub last_id : is_last p.last id ≡ true
  pub new : (bytes : List ℕ) → slice_index bytes 0 ≡ 3 → repeats p.last bytes ≡ false
  pub way : OnWay set Free number end.Server (with_ends s q p) device keeps
      (reply_bytes opening.method id r.context.k_encr r.context.k_aut iv r.nonce r.context.counter false true (checkcode opening.method packets)) 1 next

pub renewed : Laws → (set : Setting) (opening : SessionLine) (number : ℕ) (s : Session) (device : Subscription) (keeps : Keeps) (r : Resumed) (id : ℕ) (next : Net) → IsRealm set.realm → IsSized r.context
    → HasSameContext opening.method keeps r.context → (n : Renews set opening number s device keeps r id next) → Renewed set opening number s device n.text n.packets r id n.q next
renewed laws set opening number s device keeps r id next real sized same n =
    let m = opening.method in
    let check = checkcode m n.packets in
    let draft = reauth_draft m set.realm id n.iv r check in
    let mac = draft_mac r.context.k_aut [] draft in
    let took = peer_takes set Free number (with_ends s n.q n.p) device keeps (reauth_bytes m set.realm id n.iv r check) 1 next n.way in
    let told = took.told in
    let seen = told.seen in
    let read = reads_sealed laws r.context.k_aut draft seen (request_may laws m set.realm id n.iv r n.packets real sized n.nonce n.name n.block) (reauth_values m set.realm id n.iv r check) took.received
    (took.are ∙ bytes_are m set.realm id n.iv r check) in
    let h : IsRenewal opening keeps n.p seen n.text n.packets id set.realm n.iv r mac = record {
      waits = n.waits;
      named = n.named;
      same = same;
      is = read.0;
      right = read.1;
      first = ap (λ (l : List ℕ). slice_index l 0) took.are ∙ first_is m set.realm id n.iv r check;
      second = ap (λ (l : List ℕ). slice_index l 1) took.are ∙ second_is m set.realm id n.iv r check;
    } in
    let row_is = renewal_row opening keeps n.p seen n.text n.packets id set.realm n.iv r mac h in
    let decrypts : Decrypts (decryption_resumed n.p seen (context_of keeps n.p)) told.inner =
    subst (λ (x : Row). Decrypts (decryption_made device keeps n.p seen x told.notes.usim) told.inner) row_is took.decrypts in
    let inner_is : IsInner r.context.k_encr (list_hiding r.context.k_encr n.iv (reauth_in set.realm r) check mac) told.inner =
    subst (λ (d : Option Decryption). Decrypts d told.inner) (decryption_is opening keeps n.p seen n.text n.packets id set.realm n.iv r mac h) decrypts in
    let d = discloses laws set.realm n.iv r check mac told.inner real sized n.nonce n.name n.block inner_is in
    let turn = accepts opening keeps n.p seen n.text n.packets id set.realm n.iv r mac h set.key told.inner d in
    let turn_is : peer_step set.key device keeps n.p seen told.notes.usim told.inner ≡ turn =
    ap (λ (x : Row). peer_does set.key device keeps n.p seen x told.notes.usim told.inner) row_is
    ∙ accepted_is opening keeps n.p seen n.text n.packets id set.realm n.iv r mac h set.key told.inner d in
    let kept = kept_after keeps (with_ends s n.q n.p) told turn.1 in
    let sent = counter_bytes set.key (with_inner (resuming n.p same.own) (decrypted.Attributes d.given)) seen same.own r.nonce r.context.counter false in
    let way : OnWay set Free number end.Server (with_ends s n.q turn.0) device kept sent 1 next =
    loosen set Free number end.Server (with_ends s n.q turn.0) device kept sent (1 - length (sqn_reported told.notes.usim)) 1 next (took.goes turn turn_is tt).0 (omega arith) in
    record {
      p = turn.0;
      keeps = kept;
      iv = nonce_of set.key n.p.options.session n.p.next_iv;
      block = nonce_block set.key n.p.options.session n.p.next_iv;
      answered_is = ap (λ (k : KeySet). state.Answered k) (keys_are opening keeps n.p seen n.text n.packets id set.realm n.iv r mac h);
      last_id = ap (λ (i : ℕ). id == i) (id_is opening keeps n.p seen n.text n.packets id set.realm n.iv r mac h) ∙ eq-eqb id id refl;
      new = λ bytes success. unlike bytes seen.bytes 0 (λ begins. no_request (sym success ∙ begins ∙ h.first));
      way = subst (λ (b : List ℕ). OnWay set Free number end.Server (with_ends s n.q turn.0) device kept b 1 next)
          (response_is opening keeps n.p seen n.text n.packets id set.realm n.iv r mac h set.key (decrypted.Attributes d.given)) way;
    }
