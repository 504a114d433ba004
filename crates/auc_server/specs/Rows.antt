-- The table of a server of EAP-AKA or EAP-AKA': which row received bytes fall into, in the order of the tests (RFC 4187 §3, §6 and
-- §9).
use Rattle.std.specs.Prelude.{ℕ, ◌==◌, ◌||◌, not, Bool, true, false, List, [], Option, Some, None, slice_get, if◌then◌else◌}
use Rattle.std.specs.List.{list_any}
use Rattle.std.specs.Option.{option_or}
use Rattle.std.specs.Str.{bytes_eq}
use Rattle.auc_attr.specs.First.{first_value}
use Rattle.auc_attr.specs.declared.attr.Attr.{Attr}
use Rattle.auc_memory.specs.Identity.{Identity}
use Rattle.auc_hmac.specs.declared.method.Method.{Method}
use Rattle.auc_ident.specs.Names.{resolved}
use Rattle.auc_ident.specs.Permanent.{permanent_in, username}
use Rattle.auc_ident.specs.declared.names.NameKind.TheVariants as kinds
use Rattle.auc_packet.specs.Head.{head_at}
use Rattle.auc_packet.specs.Messages.{is_malformed, is_missing}
use Rattle.auc_packet.specs.Packet.{method_type}
use Rattle.auc_packet.specs.Received.{Seen, is_sealed}
use Rattle.auc_packet.specs.declared.packet.Head.{Head}
use Rattle.auc_packet.specs.declared.packet.Packet.TheVariants as packet
use Rattle.auc_packet.specs.declared.received.Reading.{Reading}
use Rattle.auc_packet.specs.declared.received.Reading.TheVariants as reading
use Rattle.auc_packet.specs.declared.subtype.Subtype.{Subtype}
use Rattle.auc_packet.specs.declared.subtype.Subtype.TheVariants as subtype
use Rattle.auc_request.specs.Request.{checkcode_of}
use Rattle.auc_subs.specs.Subscriber.{place_of}
use Rattle.auc_subs.specs.declared.row.Row as rows
use Rattle.auc_vector.specs.Auts.{read_auts_of}
use Rattle.auc_vector.specs.declared.auts.Auts.{Auts}
use Rattle.auc_vector.specs.declared.auts.Auts.TheVariants as auts
use Rattle.auc_vector.specs.declared.turn.Reason.TheVariants as reason
use Rattle.auc_reauth.specs.declared.context.Context.{Context}
use Rattle.auc_seal.specs.Checkcode.{differs}
use Rattle.auc_server.specs.Attributes.{res_of, auts_of, error_code_of, identity_in}
use Rattle.auc_server.specs.Contexts.{context_in}
use Rattle.auc_server.specs.Rounds.{checkcode}
use Rattle.auc_server.specs.Server.{ServerEnd}
use Rattle.auc_subs.specs.Setting.{Setting}
use Rattle.auc_request.specs.declared.identities.IdentityRequest.{IdentityRequest}
use Rattle.auc_request.specs.declared.identities.IdentityRequest.TheVariants as asks
use Rattle.auc_server.specs.declared.options.ServerOptions.{ServerOptions}
use Rattle.auc_server.specs.declared.reply.Reply.{Reply}
use Rattle.auc_server.specs.declared.reply.Reply.TheVariants as reply
use Rattle.auc_server.specs.declared.rows.Row.{Row}
use Rattle.auc_server.specs.declared.rows.Row.TheVariants as row
use Rattle.auc_server.specs.declared.server.Challenged.{Challenged}
use Rattle.auc_server.specs.declared.server.Resumed.{Resumed}
use Rattle.auc_server.specs.declared.server.ServerState.{ServerState}
use Rattle.auc_server.specs.declared.server.ServerState.TheVariants as state
use Rattle.auc_server.specs.declared.setting.HomeRow.{HomeRow}

-- ---- an identity

-- whether a subscriber is one of the homes
abbrev pub is_held : List HomeRow → ℕ → Bool
is_held homes sub = list_any (λ home. home.sub == sub) homes

-- a subscriber, if it is one of the homes
abbrev pub if_held : List HomeRow → Option ℕ → Option ℕ
if_held homes None = None
if_held homes (Some sub) = if is_held homes sub then Some sub else None

-- the held subscriber with an IMSI
abbrev pub held_place : List rows.Row → List HomeRow → Option Identity → Option ℕ
held_place all homes None = None
held_place all homes (Some imsi) = if_held homes (place_of all imsi)

-- the held subscriber whose permanent identity of a method a text is, up to its realm
abbrev pub permanent_subscriber : Method → Setting → List HomeRow → List ℕ → Option ℕ
permanent_subscriber by set homes text = held_place set.rows homes (permanent_in by (username text))

-- the subscriber of a name, if it is one of the homes
abbrev pub named_place : List HomeRow → Option (ℕ × ℕ) → Option ℕ
named_place homes None = None
named_place homes (Some of) = if_held homes (Some of.0)

-- the held subscriber whose pseudonym of a method a text is, up to its realm (RFC 4187 §4.1.1.7)
abbrev pub pseudonym_subscriber : Method → Setting → List HomeRow → List ℕ → Option ℕ
pseudonym_subscriber by set homes text = named_place homes (resolved set.names kinds.Pseudonym by text)

-- the held subscriber whose permanent identity or pseudonym of a method a text is
abbrev pub subscriber_in : Method → Setting → List HomeRow → List ℕ → Option ℕ
subscriber_in by set homes text = option_or (permanent_subscriber by set homes text) (pseudonym_subscriber by set homes text)

-- the held subscriber whose re-authentication identity of a method a text is, up to its realm (RFC 4187 §4.1.1.8)
abbrev pub reauth_subscriber : Method → Setting → List HomeRow → List ℕ → Option ℕ
reauth_subscriber by set homes text = named_place homes (resolved set.names kinds.Reauth by text)

abbrev pub if_found : ℕ → Option Context → Option ℕ
if_found sub None = None
if_found sub (Some c) = Some sub

abbrev pub with_context_in : Method → List HomeRow → List ℕ → Option ℕ → Option ℕ
with_context_in by homes text None = None
with_context_in by homes text (Some sub) = if_found sub (context_in by text homes sub)

-- the held subscriber whose context of a method has a text as its identity
abbrev pub context_subscriber : Method → Setting → List HomeRow → List ℕ → Option ℕ
context_subscriber by set homes text = with_context_in by homes text (reauth_subscriber by set homes text)

-- a subscriber is challenged, and if there is none, another row is taken
abbrev pub challenge_or : Row → Option ℕ → Row
challenge_or other None = other
challenge_or other (Some sub) = row.Challenge sub

-- a context is taken up again, and if there is none, another row is taken
abbrev pub resume_or : Row → Option ℕ → Row
resume_or other None = other
resume_or other (Some sub) = row.Resume sub

-- an identity that may be a re-authentication identity or a pseudonym: if it is none, one for full authentication is asked for
-- (RFC 4187 §4.1.4)
abbrev pub on_any : Method → Setting → List HomeRow → List ℕ → Row
on_any by set homes text =
    resume_or (challenge_or (row.Ask asks.Fullauth) (subscriber_in by set homes text)) (context_subscriber by set homes text)

-- a pseudonym or a permanent identity, where one for full authentication was asked for: else the permanent one is asked for
abbrev pub on_full : Method → Setting → List HomeRow → List ℕ → Row
on_full by set homes text = challenge_or (row.Ask asks.Permanent) (subscriber_in by set homes text)

-- a permanent identity
abbrev pub on_permanent : Method → Setting → List HomeRow → List ℕ → Row
on_permanent by set homes text = challenge_or row.UnknownIdentity (permanent_subscriber by set homes text)

-- an identity, by what was asked for
abbrev pub on_requested : IdentityRequest → Method → Setting → List HomeRow → List ℕ → Row
on_requested asks.Any = on_any
on_requested asks.Fullauth = on_full
on_requested asks.Permanent = on_permanent

-- the identity of EAP's own Identity round: with the option, another is asked for at once, whatever it is
abbrev pub on_first : ServerOptions → Setting → List HomeRow → List ℕ → Row
on_first options set homes text = if options.any then row.Ask asks.Any else on_any options.method set homes text

-- the text of an Identity response, or of an AKA-Identity response
abbrev pub text_in : Reading → List ℕ
text_in (reading.Read (packet.Identity request id text)) = text
text_in (reading.Read (packet.Aka request id m kind list)) = identity_in list
text_in other = []

-- ---- the response to a challenge

-- whether RES is XRES
abbrev pub is_expected : List ℕ → Option (List ℕ) → Bool
is_expected xres None = false
is_expected xres (Some res) = bytes_eq res xres

-- AT_MAC is tested before RES, and RES before AT_CHECKCODE
abbrev pub on_response : Method → List (List ℕ) → Challenged → Seen → List Attr → Row
on_response by packets sent seen list =
    if is_missing subtype.Challenge false list then row.Ignore reason.Missing
    else if not (is_sealed by sent.keys.k_aut [] seen) then row.WrongMac
    else if not (is_expected sent.vector.xres (first_value res_of list)) then row.WrongRes
    else if differs (checkcode by packets) (first_value checkcode_of list) then row.WrongCheckcode
    else row.Success sent

-- ---- the response to a re-authentication

-- whether the counter was too small
abbrev pub says_small : Reply → Bool
says_small reply.TooSmall = true
says_small other = false

-- whether the response hasn't the counter that was sent
abbrev pub is_wrong : Reply → Bool
is_wrong reply.Wrong = true
is_wrong other = false

-- AT_MAC, which covers NONCE_S too, is tested before what is encrypted, and that before AT_CHECKCODE (RFC 4187 §5 and §9.8)
abbrev pub on_reauth : Method → List (List ℕ) → Resumed → Seen → Reply → List Attr → Row
on_reauth by packets sent seen said list =
    if is_missing subtype.Reauthentication false list then row.Ignore reason.Missing
    else if not (is_sealed by sent.context.k_aut sent.nonce seen) then row.WrongMac
    else if is_wrong said then row.WrongCounter
    else if says_small said then row.TooSmall sent.sub
    else if differs (checkcode by packets) (first_value checkcode_of list) then row.WrongCheckcode
    else row.Reauthenticated sent

-- ---- a synchronisation failure

abbrev pub by_auts : ℕ → Auts → Row
by_auts sub auts.WrongMac = row.BadAuts
by_auts sub (auts.SeqMs seq) = row.Resynchronise sub seq

-- AUTS of a subscriber's USIM; a challenged subscriber has a row
abbrev pub read_by : Challenged → List ℕ → Option rows.Row → Row
read_by sent answer None = row.BadAuts
read_by sent answer (Some home) = by_auts sent.sub (read_auts_of home.secret sent.vector.rand answer home.bits)

abbrev pub on_auts : Setting → Challenged → Option (List ℕ) → Row
on_auts set sent None = row.Ignore reason.Missing
on_auts set sent (Some answer) = read_by sent answer (slice_get set.rows sent.sub)

-- a second one is refused before its AUTS is read
abbrev pub on_sync_failure : Setting → Bool → Challenged → List Attr → Row
on_sync_failure set synced sent list =
    if is_missing subtype.SynchronizationFailure false list then row.Ignore reason.Missing
    else if synced then row.SecondSync
    else on_auts set sent (first_value auts_of list)

-- ---- an error of the peer

abbrev pub on_error_code : Option ℕ → Row
on_error_code None = row.Ignore reason.Missing
on_error_code (Some code) = row.ClientError code

abbrev pub on_client_error : List Attr → Row
on_client_error list = if is_missing subtype.ClientError false list then row.Ignore reason.Missing else on_error_code (first_value error_code_of list)

-- ---- a message that isn't malformed

abbrev pub on_challenged : Setting → ServerEnd → Challenged → Seen → Subtype → List Attr → Row
on_challenged set s sent seen subtype.Challenge list = on_response s.options.method s.packets sent seen list
on_challenged set s sent seen subtype.SynchronizationFailure list = on_sync_failure set s.synced sent list
on_challenged set s sent seen subtype.AuthenticationReject list = row.Rejected
on_challenged set s sent seen subtype.ClientError list = on_client_error list
on_challenged set s sent seen other list = row.Ignore reason.Unexpected

abbrev pub on_resumed : ServerEnd → Resumed → Seen → Reply → Subtype → List Attr → Row
on_resumed s sent seen said subtype.Reauthentication list = on_reauth s.options.method s.packets sent seen said list
on_resumed s sent seen said subtype.ClientError list = on_client_error list
on_resumed s sent seen said other list = row.Ignore reason.Unexpected

-- an AKA-Identity response, for which a row is taken, or an error of the peer
abbrev pub on_identity : Row → Subtype → List Attr → Row
on_identity answered subtype.Identity list = if is_missing subtype.Identity false list then row.Ignore reason.Missing else answered
on_identity answered subtype.ClientError list = on_client_error list
on_identity answered other list = row.Ignore reason.Unexpected

abbrev pub on_message : Setting → List HomeRow → ServerEnd → ServerState → Seen → Reply → Subtype → List Attr → Row
on_message set homes s (state.Await asked) seen said kind list = on_identity (on_requested asked s.options.method set homes (identity_in list)) kind list
on_message set homes s (state.AwaitChallenge sent before) seen said kind list = on_challenged set s sent seen kind list
on_message set homes s (state.AwaitReauth sent) seen said kind list = on_resumed s sent seen said kind list
on_message set homes s (state.Notifying why last) seen said subtype.Notification list = row.Notified why
on_message set homes s other seen said kind list = row.Ignore reason.Unexpected

-- ---- the tests for every state

-- a response of the method
abbrev pub on_method : Setting → List HomeRow → ServerEnd → ServerState → Seen → Reply → Reading → Row
on_method set homes s now seen said (reading.Read (packet.Aka request id m kind list)) =
    if is_malformed kind false s.options.method list then row.Ignore reason.Malformed else on_message set homes s now seen said kind list
on_method set homes s now seen said other = row.Ignore reason.Malformed

-- a response of the type that the state expects
abbrev pub on_reading : Setting → List HomeRow → ServerEnd → ServerState → Seen → Reply → Reading → Row
on_reading set homes s state.AwaitIdentity seen said r = on_first s.options set homes (text_in r)
on_reading set homes s other seen said r = on_method set homes s other seen said r

-- the type that the state expects: Identity first, and that of the method then
abbrev pub type_awaited : Method → ServerState → ℕ
type_awaited by state.AwaitIdentity = 1
type_awaited by other = method_type by

abbrev pub is_type : ℕ → Option ℕ → Bool
is_type wanted None = false
is_type wanted (Some kind) = kind == wanted

abbrev pub on_head : Setting → List HomeRow → ServerEnd → Seen → Reply → Option Head → Row
on_head set homes s seen said None = row.Ignore reason.NotForMe
on_head set homes s seen said (Some head) =
    if not (head.code == 2) || not (head.id == s.id) then row.Ignore reason.NotForMe
    else if not (is_type (type_awaited s.options.method s.state) head.kind) then row.Ignore reason.OtherType
    else on_reading set homes s s.state seen said seen.reading

abbrev pub in_state : Setting → List HomeRow → ServerEnd → Seen → Reply → ServerState → Row
in_state set homes s seen said (state.Ended outcome last) = row.Ignore reason.Closed
in_state set homes s seen said other = on_head set homes s seen said (head_at seen.bytes)

abbrev pub server_row : Setting → List HomeRow → ServerEnd → Seen → Reply → Row
server_row set homes s seen said = in_state set homes s seen said s.state
