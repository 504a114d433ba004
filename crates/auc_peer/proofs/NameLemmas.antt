-- No turn accepts a challenge of another network than the peer's own.
use Rattle.std.proofs.Common.{◌≡◌, ℕ, ◌==◌, ◌||◌, ◌&&◌, nat_le, nat_lt, Bool, true, false, cond, not, List, [], Option, Some, None, refl, sym, ap, ◌∙◌}
use Rattle.std.specs.Str.{bytes_eq}
use Rattle.std.proofs.lemmas.Slice.Eq.{bytes_eq-Decides}
use Rattle.auc_attr.specs.declared.attr.Attr.{Attr}
use Rattle.auc_attr.proofs.Facts.{and_parts}
use Rattle.auc_hmac.specs.declared.keys.KeySet.{KeySet}
use Rattle.auc_hmac.specs.declared.keys.Master.{Master}
use Rattle.auc_hmac.specs.declared.method.Method.{Method}
use Rattle.auc_hmac.specs.declared.method.Method.TheVariants as method
use Rattle.auc_packet.specs.Head.{head_at}
use Rattle.auc_packet.specs.Messages.{is_malformed, is_missing}
use Rattle.auc_packet.specs.Packet.{method_type}
use Rattle.auc_packet.specs.Received.{Seen, attrs_in, is_sealed}
use Rattle.auc_packet.specs.declared.packet.Head.{Head}
use Rattle.auc_packet.specs.declared.packet.Packet.TheVariants as packet
use Rattle.auc_packet.specs.declared.received.Reading.{Reading}
use Rattle.auc_packet.specs.declared.received.Reading.TheVariants as reading
use Rattle.auc_packet.specs.declared.subtype.Subtype.{Subtype}
use Rattle.auc_packet.specs.declared.subtype.Subtype.TheVariants as subtype
use Rattle.auc_request.specs.Request.{autn_of, bids, first_code, first_kdf, first_value, has_bytes, is_known_kdf, is_right_name, is_separated, name_in, rand_of, request_in}
use Rattle.auc_peer.specs.Asking.{answer_noted}
use Rattle.auc_peer.specs.Attributes.{checkcode}
use Rattle.auc_peer.specs.Laws.{EachTurnIsNamed, Named}
use Rattle.auc_peer.specs.Rows.{challenge_of, is_last, is_response, late, method_row, notified_or, of_kind, on_failure, on_sound, on_success, peer_row, repeats, requested, row_headed, row_in, waiting}
use Rattle.auc_peer.specs.Subscription.{Subscription}
use Rattle.auc_peer.specs.Table.{accepted, accepting, by_answer, challenged, client, genuine, keys_at, master_at, network_of, opened, own_code, peer_does, resuming, succeeded}
use Rattle.auc_peer.specs.Told.{ToldSession}
use Rattle.auc_peer.specs.declared.decrypted.Decrypted.{Decrypted}
use Rattle.auc_peer.specs.declared.decrypted.Decrypted.TheVariants as decrypted
use Rattle.auc_reauth.specs.Device.{Keeps}
use Rattle.auc_peer.specs.declared.peer.Challenge.{Challenge}
use Rattle.auc_peer.specs.declared.peer.Last.{Last}
use Rattle.auc_peer.specs.Peer.{PeerEnd, accepted_in}
use Rattle.auc_peer.specs.declared.peer.PeerState.{PeerState}
use Rattle.auc_peer.specs.declared.peer.PeerState.TheVariants as state
use Rattle.auc_peer.specs.declared.rows.Row.{Row}
use Rattle.auc_peer.specs.declared.rows.Row.TheVariants as row
use Rattle.auc_seal.specs.Checkcode.{differs}
use Rattle.auc_vector.specs.declared.why.PeerWhy.{PeerWhy}
use Rattle.auc_vector.specs.declared.why.PeerWhy.TheVariants as why
use Rattle.auc_usim.specs.declared.answer.Answer.{Answer}
use Rattle.auc_usim.specs.declared.answer.Answer.TheVariants as answer
use Rattle.auc_vector.specs.declared.notes.UsimNote.{UsimNote}
use Rattle.auc_vector.specs.declared.notes.UsimNote.TheVariants as note
use Rattle.auc_vector.specs.declared.turn.Reason.TheVariants as reason
use Rattle.auc_vector.specs.declared.turn.Turn.{Turn}
use Rattle.auc_peer.proofs.OptionLemmas.{on_cond}
use Rattle.auc_peer.proofs.ReauthLemmas.{on_reauth, opening}

-- ---- which challenges are taken

-- a challenge that is taken is of the network that a peer of EAP-AKA' means
abbrev Tests : ToldSession → List Attr → Row → Type 0
Tests o list (row.Challenged c) = (name : List ℕ) → o.method ≡ method.Prime → o.name ≡ Some name → network_of o.method list ≡ name
Tests o list other = Unit {0}

picked : (P : Row → Type 0) (b : Bool) (x y : Row) → P x → (b ≡ false → P y) → P (cond b x y)
picked P true x y f g = f
picked P false x y f g = g refl

true_if : (b : Bool) → not b ≡ false → b ≡ true
true_if true e = refl
true_if false e = absurd cc

-- a name that is right is the peer's own
right_is : (own name : List ℕ) → is_right_name (Some own) name ≡ true → name ≡ own
right_is own name e = (bytes_eq-Decides name own).0 (and_parts (has_bytes name) (bytes_eq name own) e).1

right_name : (o : ToldSession) (list : List Attr) (own : List ℕ) → o.method ≡ method.Prime → o.name ≡ Some own → is_right_name o.name (name_in list) ≡ true → network_of o.method list ≡ own
right_name o list own m n e =
    ap (λ (x : Method). network_of x list) m
    ∙ right_is own (name_in list) (ap (λ (x : Option (List ℕ)). is_right_name x (name_in list)) (sym n) ∙ e)

not_prime : ◌≡◌ {A = Method} method.Aka method.Prime → ⊥
not_prime e = cc

method_tests : (o : ToldSession) (m : Method) (list : List Attr) (c : Challenge) → o.method ≡ m → Tests o list (method_row m o list c)
method_tests o method.Aka list c e =
    picked (Tests o list) (o.has_prime && bids list) (row.Reject why.Downgrade) (row.Challenged c) tt
    (λ g name m n. absurd (not_prime (sym e ∙ m)))
method_tests o method.Prime list c e =
    picked (Tests o list) (not (is_known_kdf (first_kdf list))) (row.Reject why.BadKdf)
    (cond (not (is_right_name o.name (name_in list))) (row.Reject why.BadName) (cond (not (is_separated c.autn)) (row.Reject why.NoSeparation) (row.Challenged c))) tt
    (λ f. picked (Tests o list) (not (is_right_name o.name (name_in list))) (row.Reject why.BadName)
    (cond (not (is_separated c.autn)) (row.Reject why.NoSeparation) (row.Challenged c)) tt
    (λ g. picked (Tests o list) (not (is_separated c.autn)) (row.Reject why.NoSeparation) (row.Challenged c) tt
    (λ h name m n. right_name o list name m n (true_if (is_right_name o.name (name_in list)) g))))

challenge_tests : (o : ToldSession) (list : List Attr) (rand autn : Option (List ℕ)) → Tests o list (challenge_of o list rand autn)
challenge_tests o list (Some rand) (Some autn) = method_tests o o.method list (record { rand = rand; autn = autn }) refl
challenge_tests o list (Some rand) None = tt
challenge_tests o list None (Some autn) = tt
challenge_tests o list None None = tt

-- a code's row takes no challenge
code_tests : (o : ToldSession) (list : List Attr) (other : Row) (code : Option ℕ) → Tests o list other → Tests o list (notified_or other code)
code_tests o list other None t = t
code_tests o list other (Some code) t = picked (Tests o list) (nat_le 16384 code && nat_lt code 32768) (row.Notified code) (row.Ignore reason.Unexpected) tt (λ e. tt)

sound_tests : (o : ToldSession) (s : Subtype) (list : List Attr) → Tests o list (on_sound o s list)
sound_tests o subtype.Challenge list =
    picked (Tests o list) (is_missing subtype.Challenge true list) (row.Client why.Missing) (challenge_of o list (first_value rand_of list) (first_value autn_of list)) tt
    (λ e. challenge_tests o list (first_value rand_of list) (first_value autn_of list))
sound_tests o subtype.Reauthentication list = tt
sound_tests o subtype.Notification list = code_tests o list (row.Client why.Missing) (first_code list) tt
sound_tests o subtype.AuthenticationReject list = tt
sound_tests o subtype.SynchronizationFailure list = tt
sound_tests o subtype.Identity list =
    picked (Tests o list) (is_missing subtype.Identity true list) (row.Client why.Missing) (row.Identity (request_in list)) tt (λ e. tt)
sound_tests o subtype.ClientError list = tt

waiting_tests : (o : ToldSession) (r : Reading) → Tests o (attrs_in r) (waiting o r)
waiting_tests o (reading.Fault fault) = tt
waiting_tests o (reading.Read (packet.Identity request id text)) = tt
waiting_tests o (reading.Read (packet.Success id)) = tt
waiting_tests o (reading.Read (packet.Failure id)) = tt
waiting_tests o (reading.Read (packet.Aka request id m s list)) =
    picked (Tests o list) (is_response s || is_malformed s true o.method list) (row.Client why.Malformed) (on_sound o s list) tt (λ e. sound_tests o s list)

late_tests : (o : ToldSession) (own : Method) (list : List Attr) (r : Reading) → Tests o list (late own r)
late_tests o own list (reading.Read (packet.Aka request id m subtype.Notification attrs)) =
    picked (Tests o list) (is_malformed subtype.Notification true own attrs) (row.Ignore reason.Unexpected) (notified_or (row.Ignore reason.Unexpected) (first_code attrs)) tt
    (λ e. code_tests o list (row.Ignore reason.Unexpected) (first_code attrs) tt)
late_tests o own list (reading.Read (packet.Aka request id m subtype.Challenge attrs)) = tt
late_tests o own list (reading.Read (packet.Aka request id m subtype.AuthenticationReject attrs)) = tt
late_tests o own list (reading.Read (packet.Aka request id m subtype.SynchronizationFailure attrs)) = tt
late_tests o own list (reading.Read (packet.Aka request id m subtype.Identity attrs)) = tt
late_tests o own list (reading.Read (packet.Aka request id m subtype.Reauthentication attrs)) = tt
late_tests o own list (reading.Read (packet.Aka request id m subtype.ClientError attrs)) = tt
late_tests o own list (reading.Read (packet.Identity request id text)) = tt
late_tests o own list (reading.Read (packet.Success id)) = tt
late_tests o own list (reading.Read (packet.Failure id)) = tt
late_tests o own list (reading.Fault fault) = tt

requested_tests : (o : ToldSession) (s : PeerState) (r : Reading) → Tests o (attrs_in r) (requested o s r)
requested_tests o state.Waiting r = waiting_tests o r
requested_tests o (state.Answered keys) r = late_tests o o.method (attrs_in r) r
requested_tests o (state.Refusing cause) r = tt
requested_tests o state.Ended r = tt

success_tests : (o : ToldSession) (list : List Attr) (s : PeerState) → Tests o list (on_success s)
success_tests o list (state.Answered keys) = tt
success_tests o list state.Waiting = tt
success_tests o list (state.Refusing cause) = tt
success_tests o list state.Ended = tt

failure_tests : (o : ToldSession) (list : List Attr) (s : PeerState) → Tests o list (on_failure s)
failure_tests o list (state.Answered keys) = tt
failure_tests o list state.Waiting = tt
failure_tests o list (state.Refusing cause) = tt
failure_tests o list state.Ended = tt

kind_tests : (o : ToldSession) (s : PeerState) (last : Option Last) (seen : Seen) (head : Head) (kind : Option ℕ) → Tests o (attrs_in seen.reading) (of_kind o s last seen head kind)
kind_tests o s last seen head None =
    picked (Tests o (attrs_in seen.reading)) (not (is_last last head.id)) (row.Ignore reason.Unexpected) (cond (head.code == 3) (on_success s) (on_failure s)) tt
    (λ e. picked (Tests o (attrs_in seen.reading)) (head.code == 3) (on_success s) (on_failure s) (success_tests o (attrs_in seen.reading) s) (λ f. failure_tests o (attrs_in seen.reading) s))
kind_tests o s last seen head (Some kind) =
    picked (Tests o (attrs_in seen.reading)) (not (kind == 1 || kind == method_type o.method)) (row.Ignore reason.OtherType) (requested o s seen.reading) tt
    (λ e. requested_tests o s seen.reading)

headed_tests : (o : ToldSession) (s : PeerState) (last : Option Last) (seen : Seen) (head : Option Head) → Tests o (attrs_in seen.reading) (row_headed o s last seen head)
headed_tests o s last seen None = tt
headed_tests o s last seen (Some head) =
    picked (Tests o (attrs_in seen.reading)) (head.code == 2) (row.Ignore reason.NotForMe) (cond (repeats last seen.bytes) row.Again (of_kind o s last seen head head.kind)) tt
    (λ e. picked (Tests o (attrs_in seen.reading)) (repeats last seen.bytes) row.Again (of_kind o s last seen head head.kind) tt (λ f. kind_tests o s last seen head head.kind))

in_tests : (o : ToldSession) (s : PeerState) (last : Option Last) (seen : Seen) → Tests o (attrs_in seen.reading) (row_in o s last seen)
in_tests o state.Ended last seen = tt
in_tests o state.Waiting last seen = headed_tests o state.Waiting last seen (head_at seen.bytes)
in_tests o (state.Answered keys) last seen = headed_tests o (state.Answered keys) last seen (head_at seen.bytes)
in_tests o (state.Refusing cause) last seen = headed_tests o (state.Refusing cause) last seen (head_at seen.bytes)

-- ---- what a turn accepts

abbrev IsNamed : PeerEnd × Turn PeerWhy → Type 0
IsNamed t = Named t.0

opened_named : (p : PeerEnd) (seen : Seen) (res sqn : List ℕ) (k : KeySet) (m : Master) (inner : Decrypted) → Named p → IsNamed (opened p seen res sqn k m inner)
opened_named p seen res sqn k m (decrypted.Attributes next) f = f
opened_named p seen res sqn k m decrypted.Unreadable f = f

accepted_named : (p : PeerEnd) (seen : Seen) (c : Challenge) (res sqn : List ℕ) (k : KeySet) (m : Master) (inner : Decrypted) → Named p → Named (accepting p seen c) → IsNamed (accepted p seen c res sqn k m inner)
accepted_named p seen c res sqn k m inner f g =
    on_cond IsNamed (not (is_sealed p.options.method k.k_aut [] seen)) (client p seen why.WrongMac (Some (note.Accepted sqn)) false) (genuine (accepting p seen c) seen res sqn k m inner) f
    (on_cond IsNamed (differs (own_code p) (checkcode seen)) (client (accepting p seen c) seen why.WrongCheckcode (Some (note.Accepted sqn)) true) (opened (accepting p seen c) seen res sqn k m inner) g
    (opened_named (accepting p seen c) seen res sqn k m inner g))

answer_named : (p : PeerEnd) (seen : Seen) (c : Challenge) (a : Answer) (inner : Decrypted) → Named p → Named (accepting p seen c) → IsNamed (by_answer p seen c a inner)
answer_named p seen c answer.WrongMac inner f g = f
answer_named p seen c (answer.SyncFailure auts sqn) inner f g = f
answer_named p seen c (answer.Accepted res ck ik ak amf sqn) inner f g = accepted_named p seen c res sqn (keys_at p seen c ik ck) (master_at p seen c ik ck) inner f g

challenged_named : (s : Subscription) (p : PeerEnd) (seen : Seen) (c : Challenge) (n : Option UsimNote) (inner : Decrypted) → Named p → Named (accepting p seen c) → IsNamed (challenged s p seen c n inner)
challenged_named s p seen c None inner f g = f
challenged_named s p seen c (Some n) inner f g = answer_named p seen c (answer_noted s.secret c n) inner f g

-- a peer that resumed a context has no challenge
resumed_named : (p : PeerEnd) → accepted_in p.source ≡ None → Named p
resumed_named p none = λ c name m own e. absurd (no_challenge c (sym none ∙ e))
  where
    no_challenge : (c : Challenge) → ◌≡◌ {A = Option Challenge} None (Some c) → ⊥
    no_challenge c e = cc

succeeded_named : (p : PeerEnd) (s : PeerState) → Named p → IsNamed (succeeded p s)
succeeded_named p (state.Answered keys) f = f
succeeded_named p state.Waiting f = f
succeeded_named p (state.Refusing cause) f = f
succeeded_named p state.Ended f = f

row_named : (key : List ℕ) (s : Subscription) (keeps : Keeps) (p : PeerEnd) (seen : Seen) (r : Row) (n : Option UsimNote) (inner : Decrypted) → Tests p.options (attrs_in seen.reading) r → Named p → IsNamed (peer_does key s keeps p seen r n inner)
row_named key s keeps p seen (row.Ignore cause) n inner t f = f
row_named key s keeps p seen row.Again n inner t f = f
row_named key s keeps p seen row.First n inner t f = f
row_named key s keeps p seen (row.Identity asked) n inner t f = f
row_named key s keeps p seen (row.Client cause) n inner t f = f
row_named key s keeps p seen (row.Reject cause) n inner t f = f
row_named key s keeps p seen (row.Notified code) n inner t f = f
row_named key s keeps p seen (row.Challenged c) n inner t f = challenged_named s p seen c n inner f (λ d name m own e. t name m own)
row_named key s keeps p seen row.Reauthentication n inner t f =
    on_reauth IsNamed key keeps p seen inner f
    (λ c e. record {
      missing = f;
      wrong = f;
      other = resumed_named (resuming p c) refl;
      hidden = resumed_named (opening p c inner) refl;
      accepts = λ given counter nonce is. resumed_named (opening p c (decrypted.Attributes given)) refl;
      refuses = λ given counter nonce. resumed_named (opening p c (decrypted.Attributes given)) refl;
    })
row_named key s keeps p seen row.Success n inner t f = succeeded_named p p.state f
row_named key s keeps p seen (row.Failure cause) n inner t f = f

-- each turn
pub each_turn_is_named : EachTurnIsNamed
each_turn_is_named key s keeps p seen n inner f = row_named key s keeps p seen (peer_row p seen) n inner (in_tests p.options p.state p.last seen) f
