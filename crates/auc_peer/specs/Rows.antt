-- The peer's table: which row a packet falls into, in the order of the tests. Where RFC 4187 and RFC 9048 leave the order
-- open, it is the project's.
use Rattle.std.specs.Prelude.{ℕ, ◌==◌, ◌||◌, ◌&&◌, not, nat_le, nat_lt, Bool, true, false, List, Option, Some, None, if◌then◌else◌}
use Rattle.std.specs.Str.{bytes_eq}
use Rattle.auc_attr.specs.declared.attr.Attr.{Attr}
use Rattle.auc_hmac.specs.declared.method.Method.{Method}
use Rattle.auc_hmac.specs.declared.method.Method.TheVariants as method
use Rattle.auc_packet.specs.Head.{head_at}
use Rattle.auc_packet.specs.Messages.{is_malformed, is_missing}
use Rattle.auc_packet.specs.Packet.{method_type}
use Rattle.auc_packet.specs.Received.{Seen}
use Rattle.auc_packet.specs.declared.packet.Head.{Head}
use Rattle.auc_packet.specs.declared.packet.Packet.TheVariants as packet
use Rattle.auc_packet.specs.declared.received.Reading.{Reading}
use Rattle.auc_packet.specs.declared.received.Reading.TheVariants as reading
use Rattle.auc_packet.specs.declared.subtype.Subtype.{Subtype}
use Rattle.auc_packet.specs.declared.subtype.Subtype.TheVariants as subtype
use Rattle.auc_request.specs.Request.{rand_of, autn_of, bids, first_code, first_kdf, first_value, is_known_kdf, is_right_name, is_separated, name_in, request_in}
use Rattle.auc_peer.specs.Told.{ToldSession}
use Rattle.auc_peer.specs.declared.peer.Challenge.{Challenge}
use Rattle.auc_peer.specs.declared.peer.Last.{Last}
use Rattle.auc_peer.specs.Peer.{PeerEnd}
use Rattle.auc_peer.specs.declared.peer.PeerState.{PeerState}
use Rattle.auc_peer.specs.declared.peer.PeerState.TheVariants as state
use Rattle.auc_peer.specs.declared.rows.Row.{Row}
use Rattle.auc_peer.specs.declared.rows.Row.TheVariants as row
use Rattle.auc_vector.specs.declared.why.PeerWhy.TheVariants as why
use Rattle.auc_vector.specs.declared.turn.Reason.TheVariants as reason

-- ---- the request that was answered last

-- bytes are that request
abbrev pub repeats : Option Last → List ℕ → Bool
repeats None bytes = false
repeats (Some last) bytes = bytes_eq bytes last.request

-- an Identifier is its Identifier
abbrev pub is_last : Option Last → ℕ → Bool
is_last None id = false
is_last (Some last) id = id == last.id

-- ---- a Challenge in Waiting: what is tested before the USIM is asked

-- the tests of EAP-AKA' (RFC 9048 §3.1 and §3.2, TS 33.102 Annex H)
abbrev pub prime_row : Option (List ℕ) → List Attr → Challenge → Row
prime_row own list c =
    if not (is_known_kdf (first_kdf list)) then row.Reject why.BadKdf
    else if not (is_right_name own (name_in list)) then row.Reject why.BadName
    else if not (is_separated c.autn) then row.Reject why.NoSeparation
    else row.Challenged c

-- the test of EAP-AKA: a device that has EAP-AKA' isn't bid down from it (RFC 9048 §4)
abbrev pub aka_row : Bool → List Attr → Challenge → Row
aka_row has_prime list c = if has_prime && bids list then row.Reject why.Downgrade else row.Challenged c

abbrev pub method_row : Method → ToldSession → List Attr → Challenge → Row
method_row method.Aka o list c = aka_row o.has_prime list c
method_row method.Prime o list c = prime_row o.name list c

abbrev pub challenge_of : ToldSession → List Attr → Option (List ℕ) → Option (List ℕ) → Row
challenge_of o list (Some rand) (Some autn) = method_row o.method o list (record { rand = rand; autn = autn })
challenge_of o list _ _ = row.Client why.Missing

-- a Challenge has AT_RAND, AT_AUTN and AT_MAC (RFC 4187 §9.3)
abbrev pub on_challenge : ToldSession → List Attr → Row
on_challenge o list =
    if is_missing subtype.Challenge true list then row.Client why.Missing
    else challenge_of o list (first_value rand_of list) (first_value autn_of list)

-- ---- messages in Waiting

-- the bit P, 0x4000, is set: the notification may come before a Challenge was answered; and the bit S, 0x8000, is clear:
-- it is one of failure (RFC 4187 §10.19)
abbrev pub notified_row : ℕ → Row
notified_row code = if nat_le 16384 code && nat_lt code 32768 then row.Notified code else row.Ignore reason.Unexpected

abbrev pub notified_or : Row → Option ℕ → Row
notified_or other None = other
notified_or other (Some code) = notified_row code

-- a Notification has AT_NOTIFICATION (RFC 4187 §9.10)
abbrev pub on_notification : List Attr → Row
on_notification list = notified_or (row.Client why.Missing) (first_code list)

-- an AKA-Identity request asks for exactly one identity (RFC 4187 §9.1)
abbrev pub on_identity : List Attr → Row
on_identity list = if is_missing subtype.Identity true list then row.Client why.Missing else row.Identity (request_in list)

-- the tests of a fast re-authentication need the device's context, so they are part of what is done
abbrev pub on_sound : ToldSession → Subtype → List Attr → Row
on_sound o subtype.Challenge list = on_challenge o list
on_sound o subtype.Reauthentication list = row.Reauthentication
on_sound o subtype.Notification list = on_notification list
on_sound o subtype.Identity list = on_identity list
on_sound o other list = row.Ignore reason.Unexpected

-- only responses have these Subtypes
abbrev pub is_response : Subtype → Bool
is_response subtype.AuthenticationReject = true
is_response subtype.SynchronizationFailure = true
is_response subtype.ClientError = true
is_response other = false

abbrev pub on_message : ToldSession → Subtype → List Attr → Row
on_message o s list =
    if is_response s || is_malformed s true o.method list then row.Client why.Malformed else on_sound o s list

abbrev pub waiting : ToldSession → Reading → Row
waiting o (reading.Fault fault) = row.Client why.Malformed
waiting o (reading.Read (packet.Identity request id text)) = row.First
waiting o (reading.Read (packet.Aka request id m s list)) = on_message o s list
waiting o (reading.Read other) = row.Ignore reason.Unexpected

-- ---- requests in Answered

abbrev pub late_notification : Method → List Attr → Row
late_notification m list =
    if is_malformed subtype.Notification true m list then row.Ignore reason.Unexpected
    else notified_or (row.Ignore reason.Unexpected) (first_code list)

-- only a Notification is taken
abbrev pub late : Method → Reading → Row
late own (reading.Read (packet.Aka request id m subtype.Notification list)) = late_notification own list
late own other = row.Ignore reason.Unexpected

-- ---- Success and Failure with the Identifier of the last request (RFC 3748 §4.2)

abbrev pub on_success : PeerState → Row
on_success (state.Answered keys) = row.Success
on_success other = row.Ignore reason.Unexpected

abbrev pub on_failure : PeerState → Row
on_failure (state.Refusing cause) = row.Failure cause
on_failure other = row.Failure why.FailureReceived

abbrev pub ended_by : PeerState → Option Last → Head → Row
ended_by s last head =
    if not (is_last last head.id) then row.Ignore reason.Unexpected
    else if head.code == 3 then on_success s else on_failure s

-- ---- the tests for every state

abbrev pub requested : ToldSession → PeerState → Reading → Row
requested o state.Waiting r = waiting o r
requested o (state.Answered keys) r = late o.method r
requested o other r = row.Ignore reason.Unexpected

-- type 1 is Identity, and each method has a type of its own
abbrev pub of_kind : ToldSession → PeerState → Option Last → Seen → Head → Option ℕ → Row
of_kind o s last seen head None = ended_by s last head
of_kind o s last seen head (Some kind) =
    if not (kind == 1 || kind == method_type o.method) then row.Ignore reason.OtherType else requested o s seen.reading

-- code 2 is Response
abbrev pub row_headed : ToldSession → PeerState → Option Last → Seen → Option Head → Row
row_headed o s last seen None = row.Ignore reason.NotForMe
row_headed o s last seen (Some head) =
    if head.code == 2 then row.Ignore reason.NotForMe
    else if repeats last seen.bytes then row.Again
    else of_kind o s last seen head head.kind

abbrev pub row_in : ToldSession → PeerState → Option Last → Seen → Row
row_in o state.Ended last seen = row.Ignore reason.Closed
row_in o s last seen = row_headed o s last seen (head_at seen.bytes)

abbrev pub peer_row : PeerEnd → Seen → Row
peer_row peer seen = row_in peer.options peer.state peer.last seen
