-- For the law of vectors that sessions present: what a peer hands its USIM are RAND and AUTN of the packet that it received.
use Rattle.std.proofs.Common.{◌≡◌, ℕ, ◌==◌, ◌&&◌, ◌||◌, not, nat_le, nat_lt, Bool, true, false, cond, List, Option, Some, None, refl, subst}
use Rattle.auc_attr.specs.declared.attr.Attr.{Attr}
use Rattle.auc_hmac.specs.declared.method.Method.{Method}
use Rattle.auc_hmac.specs.declared.method.Method.TheVariants as method
use Rattle.auc_packet.specs.Head.{head_at}
use Rattle.auc_packet.specs.Messages.{is_malformed, is_missing}
use Rattle.auc_packet.specs.Packet.{method_type}
use Rattle.auc_packet.specs.Received.{Seen, attrs_in}
use Rattle.auc_packet.specs.declared.packet.Head.{Head}
use Rattle.auc_packet.specs.declared.packet.Packet.TheVariants as packet
use Rattle.auc_packet.specs.declared.received.Reading.{Reading}
use Rattle.auc_packet.specs.declared.received.Reading.TheVariants as reading
use Rattle.auc_packet.specs.declared.subtype.Subtype.{Subtype}
use Rattle.auc_packet.specs.declared.subtype.Subtype.TheVariants as subtype
use Rattle.auc_peer.specs.Rows.{challenge_of, is_last, is_response, late, method_row, notified_or, of_kind, on_failure, on_sound, on_success, peer_row, repeats, requested, row_headed, row_in, waiting}
use Rattle.auc_peer.specs.Told.{ToldSession}
use Rattle.auc_peer.specs.Turn.{asked}
use Rattle.auc_peer.specs.declared.peer.Challenge.{Challenge}
use Rattle.auc_peer.specs.declared.peer.Last.{Last}
use Rattle.auc_peer.specs.declared.peer.Peer.{Peer}
use Rattle.auc_peer.specs.declared.peer.PeerState.{PeerState}
use Rattle.auc_peer.specs.declared.peer.PeerState.TheVariants as state
use Rattle.auc_peer.specs.declared.rows.Row.{Row}
use Rattle.auc_peer.specs.declared.rows.Row.TheVariants as row
use Rattle.auc_vector.specs.declared.why.PeerWhy.TheVariants as why
use Rattle.auc_request.specs.Request.{autn_of as autn_value, bids, first_code, first_kdf, first_value, is_known_kdf, is_right_name, is_separated, name_in, rand_of as rand_value, request_in}
use Rattle.auc_vector.specs.declared.turn.Reason.TheVariants as reason

-- a challenge has the RAND and the AUTN that were read
abbrev pub IsReadIn : Reading → Challenge → Type 0
IsReadIn r c = (first_value rand_value (attrs_in r) ≡ Some c.rand) × (first_value autn_value (attrs_in r) ≡ Some c.autn)

-- a row hands the USIM nothing, or the challenge that was read
abbrev Hands : Reading → Row → Type 0
Hands r (row.Challenged c) = IsReadIn r c
Hands r other = Unit {0}

picked : (P : Row → Type 0) (b : Bool) (x y : Row) → P x → P y → P (cond b x y)
picked P true x y f g = f
picked P false x y f g = g

-- what a method tests of a challenge that was read hands the USIM that challenge, or nothing
method_hands : (r : Reading) (m : Method) (o : ToldSession) (list : List Attr) (c : Challenge) → IsReadIn r c → Hands r (method_row m o list c)
method_hands r method.Aka o list c is = picked (Hands r) (o.has_prime && bids list) (row.Reject why.Downgrade) (row.Challenged c) tt is
method_hands r method.Prime o list c is =
    picked (Hands r) (not (is_known_kdf (first_kdf list))) (row.Reject why.BadKdf) _ tt
    (picked (Hands r) (not (is_right_name o.name (name_in list))) (row.Reject why.BadName) _ tt
    (picked (Hands r) (not (is_separated c.autn)) (row.Reject why.NoSeparation) (row.Challenged c) tt is))

waiting_hands : (o : ToldSession) (r : Reading) → Hands r (waiting o r)
waiting_hands o (reading.Fault fault) = tt
waiting_hands o (reading.Read (packet.Identity request id text)) = tt
waiting_hands o (reading.Read (packet.Success id)) = tt
waiting_hands o (reading.Read (packet.Failure id)) = tt
waiting_hands o (reading.Read (packet.Aka request id m s list)) =
    picked (Hands (reading.Read (packet.Aka request id m s list))) (is_response s || is_malformed s true o.method list) (row.Client why.Malformed) (on_sound o s list) tt (sound s)
  where
    values : (rand autn : Option (List ℕ)) → first_value rand_value list ≡ rand → first_value autn_value list ≡ autn
        → Hands (reading.Read (packet.Aka request id m s list)) (challenge_of o list rand autn)
    values (Some rand) (Some autn) e f = method_hands (reading.Read (packet.Aka request id m s list)) o.method o list (record { rand = rand; autn = autn }) (e, f)
    values (Some rand) None e f = tt
    values None autn e f = tt

    noticed : (code : Option ℕ) → Hands (reading.Read (packet.Aka request id m s list)) (notified_or (row.Client why.Missing) code)
    noticed None = tt
    noticed (Some code) = picked (Hands (reading.Read (packet.Aka request id m s list))) (nat_le 16384 code && nat_lt code 32768) (row.Notified code) (row.Ignore reason.Unexpected) tt tt

    sound : (t : Subtype) → Hands (reading.Read (packet.Aka request id m s list)) (on_sound o t list)
    sound subtype.Challenge =
        picked (Hands (reading.Read (packet.Aka request id m s list))) (is_missing subtype.Challenge true list) (row.Client why.Missing)
        (challenge_of o list (first_value rand_value list) (first_value autn_value list)) tt (values (first_value rand_value list) (first_value autn_value list) refl refl)
    sound subtype.Reauthentication = tt
    sound subtype.Notification = noticed (first_code list)
    sound subtype.Identity =
        picked (Hands (reading.Read (packet.Aka request id m s list))) (is_missing subtype.Identity true list) (row.Client why.Missing) (row.Identity (request_in list)) tt tt
    sound subtype.AuthenticationReject = tt
    sound subtype.SynchronizationFailure = tt
    sound subtype.ClientError = tt

late_hands : (own : Method) (q r : Reading) → Hands q (late own r)
late_hands own q (reading.Read (packet.Aka request id m subtype.Notification list)) =
    picked (Hands q) (is_malformed subtype.Notification true own list) (row.Ignore reason.Unexpected) (notified_or (row.Ignore reason.Unexpected) (first_code list)) tt (by (first_code list))
  where
    by : (code : Option ℕ) → Hands q (notified_or (row.Ignore reason.Unexpected) code)
    by None = tt
    by (Some code) = picked (Hands q) (nat_le 16384 code && nat_lt code 32768) (row.Notified code) (row.Ignore reason.Unexpected) tt tt
late_hands own q (reading.Read (packet.Aka request id m subtype.Challenge list)) = tt
late_hands own q (reading.Read (packet.Aka request id m subtype.AuthenticationReject list)) = tt
late_hands own q (reading.Read (packet.Aka request id m subtype.SynchronizationFailure list)) = tt
late_hands own q (reading.Read (packet.Aka request id m subtype.Identity list)) = tt
late_hands own q (reading.Read (packet.Aka request id m subtype.Reauthentication list)) = tt
late_hands own q (reading.Read (packet.Aka request id m subtype.ClientError list)) = tt
late_hands own q (reading.Read (packet.Identity request id text)) = tt
late_hands own q (reading.Read (packet.Success id)) = tt
late_hands own q (reading.Read (packet.Failure id)) = tt
late_hands own q (reading.Fault fault) = tt

requested_hands : (o : ToldSession) (s : PeerState) (r : Reading) → Hands r (requested o s r)
requested_hands o state.Waiting r = waiting_hands o r
requested_hands o (state.Answered keys) r = late_hands o.method r r
requested_hands o (state.Refusing cause) r = tt
requested_hands o state.Ended r = tt

success_hands : (r : Reading) (s : PeerState) → Hands r (on_success s)
success_hands r (state.Answered keys) = tt
success_hands r state.Waiting = tt
success_hands r (state.Refusing cause) = tt
success_hands r state.Ended = tt

failure_hands : (r : Reading) (s : PeerState) → Hands r (on_failure s)
failure_hands r (state.Answered keys) = tt
failure_hands r state.Waiting = tt
failure_hands r (state.Refusing cause) = tt
failure_hands r state.Ended = tt

kind_hands : (o : ToldSession) (s : PeerState) (last : Option Last) (seen : Seen) (head : Head) (kind : Option ℕ) → Hands seen.reading (of_kind o s last seen head kind)
kind_hands o s last seen head None =
    picked (Hands seen.reading) (not (is_last last head.id)) (row.Ignore reason.Unexpected) (cond (head.code == 3) (on_success s) (on_failure s)) tt
    (picked (Hands seen.reading) (head.code == 3) (on_success s) (on_failure s) (success_hands seen.reading s) (failure_hands seen.reading s))
kind_hands o s last seen head (Some kind) =
    picked (Hands seen.reading) (not (kind == 1 || kind == method_type o.method)) (row.Ignore reason.OtherType) (requested o s seen.reading) tt (requested_hands o s seen.reading)

headed_hands : (o : ToldSession) (s : PeerState) (last : Option Last) (seen : Seen) (head : Option Head) → Hands seen.reading (row_headed o s last seen head)
headed_hands o s last seen None = tt
headed_hands o s last seen (Some head) =
    picked (Hands seen.reading) (head.code == 2) (row.Ignore reason.NotForMe) (cond (repeats last seen.bytes) row.Again (of_kind o s last seen head head.kind)) tt
    (picked (Hands seen.reading) (repeats last seen.bytes) row.Again (of_kind o s last seen head head.kind) tt (kind_hands o s last seen head head.kind))

in_hands : (o : ToldSession) (s : PeerState) (last : Option Last) (seen : Seen) → Hands seen.reading (row_in o s last seen)
in_hands o state.Ended last seen = tt
in_hands o state.Waiting last seen = headed_hands o state.Waiting last seen (head_at seen.bytes)
in_hands o (state.Answered keys) last seen = headed_hands o (state.Answered keys) last seen (head_at seen.bytes)
in_hands o (state.Refusing cause) last seen = headed_hands o (state.Refusing cause) last seen (head_at seen.bytes)

one_challenge : (a b : Challenge) → Some a ≡ Some b → a ≡ b
one_challenge a b e = cc

-- the challenge of a row
row_asks : (r : Reading) (x : Row) (c : Challenge) → Hands r x → asked x ≡ Some c → IsReadIn r c
row_asks r (row.Challenged d) c e is = subst (IsReadIn r) (one_challenge d c is) e
row_asks r row.First c e is = absurd (let no : ⊥ = cc in no)
row_asks r (row.Ignore cause) c e is = absurd (let no : ⊥ = cc in no)
row_asks r row.Again c e is = absurd (let no : ⊥ = cc in no)
row_asks r (row.Identity kind) c e is = absurd (let no : ⊥ = cc in no)
row_asks r (row.Client cause) c e is = absurd (let no : ⊥ = cc in no)
row_asks r (row.Reject cause) c e is = absurd (let no : ⊥ = cc in no)
row_asks r (row.Notified code) c e is = absurd (let no : ⊥ = cc in no)
row_asks r row.Reauthentication c e is = absurd (let no : ⊥ = cc in no)
row_asks r row.Success c e is = absurd (let no : ⊥ = cc in no)
row_asks r (row.Failure cause) c e is = absurd (let no : ⊥ = cc in no)

-- what a peer hands its USIM was read in the packet
pub handed_is_read : (p : Peer) (seen : Seen) (c : Challenge) → asked (peer_row p seen) ≡ Some c → IsReadIn seen.reading c
handed_is_read p seen c is = row_asks seen.reading (peer_row p seen) c (in_hands p.options p.state p.last seen) is
