-- For resumed sessions: after an identity for full authentication was asked for, no context is taken up again, and one that was
-- stays.
use Rattle.std.proofs.Common.{◌≡◌, ℕ, Bool, true, false, not, if◌then◌else◌, List, [], Option, Some, None, slice_get, refl, sym, ◌==◌, ◌||◌}
use Rattle.auc_attr.specs.First.{first_value as first_of}
use Rattle.auc_attr.specs.declared.attr.Attr.{Attr}
use Rattle.auc_hmac.specs.declared.method.Method.{Method}
use Rattle.auc_packet.specs.Head.{head_at}
use Rattle.auc_packet.specs.Messages.{is_malformed, is_missing}
use Rattle.auc_packet.specs.Received.{Seen, is_sealed}
use Rattle.auc_packet.specs.declared.packet.Head.{Head}
use Rattle.auc_packet.specs.declared.packet.Packet.TheVariants as packet
use Rattle.auc_packet.specs.declared.received.Reading.{Reading}
use Rattle.auc_packet.specs.declared.received.Reading.TheVariants as reading
use Rattle.auc_packet.specs.declared.subtype.Subtype.{Subtype}
use Rattle.auc_packet.specs.declared.subtype.Subtype.TheVariants as subtype
use Rattle.auc_request.specs.declared.identities.IdentityRequest.TheVariants as request
use Rattle.auc_request.specs.Request.{checkcode_of}
use Rattle.auc_seal.specs.Checkcode.{differs}
use Rattle.auc_server.proofs.Facts.{Says, none_resumed, says_row}
use Rattle.auc_server.specs.Attributes.{auts_of, error_code_of, identity_in, res_of}
use Rattle.auc_server.specs.Rounds.{checkcode}
use Rattle.auc_server.specs.Rows.{by_auts, challenge_or, in_state, is_expected, is_type, is_wrong, on_auts, on_challenged, on_client_error, on_error_code, on_full, on_head, on_identity, on_message, on_method, on_permanent, on_reading, on_reauth, on_response, on_resumed, on_sync_failure, permanent_subscriber, read_by, says_small, server_row, subscriber_in, text_in, type_awaited}
use Rattle.auc_server.specs.Server.{ServerEnd, resumed_of}
use Rattle.auc_subs.specs.Setting.{Setting}
use Rattle.auc_server.specs.Table.{challenged, challenged_with, first_challenge, identified, names_given, noted, packets_after, resynchronised, resynchronising, server_does, server_step, vector_at}
use Rattle.auc_server.specs.declared.naming.GivenNames.{GivenNames}
use Rattle.auc_server.specs.declared.reply.Reply.{Reply}
use Rattle.auc_server.specs.declared.rows.Row.{Row}
use Rattle.auc_server.specs.declared.rows.Row.TheVariants as row
use Rattle.auc_server.specs.declared.server.Challenged.{Challenged}
use Rattle.auc_server.specs.declared.server.Resumed.{Resumed}
use Rattle.auc_server.specs.declared.server.ServerState.{ServerState}
use Rattle.auc_server.specs.declared.server.ServerState.TheVariants as state
use Rattle.auc_server.specs.declared.setting.HomeRow.{HomeRow}
use Rattle.auc_vector.specs.declared.why.ServerWhy.{ServerWhy}
use Rattle.auc_subs.specs.declared.row.Row as rows
use Rattle.auc_vector.specs.Auts.{read_auts_of}
use Rattle.auc_vector.specs.declared.auts.Auts.{Auts}
use Rattle.auc_vector.specs.declared.auts.Auts.TheVariants as auts
use Rattle.auc_vector.specs.declared.notes.Notes.{Notes}
use Rattle.auc_vector.specs.declared.notes.NumberNote.{NumberNote}
use Rattle.auc_vector.specs.declared.notes.NumberNote.TheVariants as number
use Rattle.auc_vector.specs.declared.notes.ResyncNote.{ResyncNote}
use Rattle.auc_vector.specs.declared.notes.ResyncNote.TheVariants as resync
use Rattle.auc_vector.specs.declared.parts.Vector.{Vector}
use Rattle.auc_vector.specs.declared.turn.Reason.TheVariants as reason
use Rattle.auc_vector.specs.declared.turn.Turn.{Turn}

-- a state in which no context is taken up again
abbrev pub is_past : ServerState → Bool
is_past state.AwaitIdentity = false
is_past (state.Await request.Any) = false
is_past other = true

-- the rows into which it falls: the permanent identity is asked for, if any
abbrev pub IsPast : Row → Type 0
IsPast (row.Resume sub) = ⊥
IsPast (row.Ask kind) = kind ≡ request.Permanent
IsPast other = Unit {0}

past_if : (b : Bool) (x y : Row) → IsPast x → IsPast y → IsPast (if b then x else y)
past_if true x y one two = one
past_if false x y one two = two

past_challenge : (other : Row) (found : Option ℕ) → IsPast other → IsPast (challenge_or other found)
past_challenge other None is = is
past_challenge other (Some sub) is = tt

past_code : (code : Option ℕ) → IsPast (on_error_code code)
past_code None = tt
past_code (Some code) = tt

pub past_error : (list : List Attr) → IsPast (on_client_error list)
past_error list = past_if (is_missing subtype.ClientError false list) (row.Ignore reason.Missing) (on_error_code (first_of error_code_of list)) tt (past_code (first_of error_code_of list))

past_identity : (answered : Row) (kind : Subtype) (list : List Attr) → IsPast answered → IsPast (on_identity answered kind list)
past_identity answered subtype.Identity list is = past_if (is_missing subtype.Identity false list) (row.Ignore reason.Missing) answered tt is
past_identity answered subtype.ClientError list is = past_error list
past_identity answered subtype.Challenge list is = tt
past_identity answered subtype.AuthenticationReject list is = tt
past_identity answered subtype.SynchronizationFailure list is = tt
past_identity answered subtype.Notification list is = tt
past_identity answered subtype.Reauthentication list is = tt

past_response : (m : Method) (packets : List (List ℕ)) (sent : Challenged) (seen : Seen) (list : List Attr) → IsPast (on_response m packets sent seen list)
past_response m packets sent seen list =
    let last : Row = if differs (checkcode m packets) (first_of checkcode_of list) then row.WrongCheckcode else row.Success sent in
    let right : Row = if not (is_expected sent.vector.xres (first_of res_of list)) then row.WrongRes else last in
    let genuine : Row = if not (is_sealed m sent.keys.k_aut [] seen) then row.WrongMac else right in
    past_if (is_missing subtype.Challenge false list) (row.Ignore reason.Missing) genuine tt
    (past_if (not (is_sealed m sent.keys.k_aut [] seen)) row.WrongMac right tt
    (past_if (not (is_expected sent.vector.xres (first_of res_of list))) row.WrongRes last tt
    (past_if (differs (checkcode m packets) (first_of checkcode_of list)) row.WrongCheckcode (row.Success sent) tt tt)))

past_read : (sub : ℕ) (a : Auts) → IsPast (by_auts sub a)
past_read sub auts.WrongMac = tt
past_read sub (auts.SeqMs seq) = tt

past_row_of : (sent : Challenged) (answer : List ℕ) (home : Option rows.Row) → IsPast (read_by sent answer home)
past_row_of sent answer None = tt
past_row_of sent answer (Some home) = past_read sent.sub (read_auts_of home.secret sent.vector.rand answer home.bits)

past_auts : (set : Setting) (sent : Challenged) (answer : Option (List ℕ)) → IsPast (on_auts set sent answer)
past_auts set sent None = tt
past_auts set sent (Some answer) = past_row_of sent answer (slice_get set.rows sent.sub)

past_sync : (set : Setting) (synced : Bool) (sent : Challenged) (list : List Attr) → IsPast (on_sync_failure set synced sent list)
past_sync set synced sent list =
    let first : Row = if synced then row.SecondSync else on_auts set sent (first_of auts_of list) in
    past_if (is_missing subtype.SynchronizationFailure false list) (row.Ignore reason.Missing) first tt
    (past_if synced row.SecondSync (on_auts set sent (first_of auts_of list)) tt (past_auts set sent (first_of auts_of list)))

past_challenged : (set : Setting) (q : ServerEnd) (c : Challenged) (seen : Seen) (kind : Subtype) (list : List Attr) → IsPast (on_challenged set q c seen kind list)
past_challenged set q c seen subtype.Challenge list = past_response q.options.method q.packets c seen list
past_challenged set q c seen subtype.SynchronizationFailure list = past_sync set q.synced c list
past_challenged set q c seen subtype.AuthenticationReject list = tt
past_challenged set q c seen subtype.ClientError list = past_error list
past_challenged set q c seen subtype.Identity list = tt
past_challenged set q c seen subtype.Notification list = tt
past_challenged set q c seen subtype.Reauthentication list = tt

past_reauth : (m : Method) (packets : List (List ℕ)) (sent : Resumed) (seen : Seen) (said : Reply) (list : List Attr) → IsPast (on_reauth m packets sent seen said list)
past_reauth m packets sent seen said list =
    let last : Row = if differs (checkcode m packets) (first_of checkcode_of list) then row.WrongCheckcode else row.Reauthenticated sent in
    let small : Row = if says_small said then row.TooSmall sent.sub else last in
    let counted : Row = if is_wrong said then row.WrongCounter else small in
    let genuine : Row = if not (is_sealed m sent.context.k_aut sent.nonce seen) then row.WrongMac else counted in
    past_if (is_missing subtype.Reauthentication false list) (row.Ignore reason.Missing) genuine tt
    (past_if (not (is_sealed m sent.context.k_aut sent.nonce seen)) row.WrongMac counted tt
    (past_if (is_wrong said) row.WrongCounter small tt
    (past_if (says_small said) (row.TooSmall sent.sub) last tt
    (past_if (differs (checkcode m packets) (first_of checkcode_of list)) row.WrongCheckcode (row.Reauthenticated sent) tt tt))))

past_resumed : (q : ServerEnd) (r : Resumed) (seen : Seen) (said : Reply) (kind : Subtype) (list : List Attr) → IsPast (on_resumed q r seen said kind list)
past_resumed q r seen said subtype.Reauthentication list = past_reauth q.options.method q.packets r seen said list
past_resumed q r seen said subtype.ClientError list = past_error list
past_resumed q r seen said subtype.Challenge list = tt
past_resumed q r seen said subtype.AuthenticationReject list = tt
past_resumed q r seen said subtype.SynchronizationFailure list = tt
past_resumed q r seen said subtype.Identity list = tt
past_resumed q r seen said subtype.Notification list = tt

past_message : (set : Setting) (homes : List HomeRow) (q : ServerEnd) (now : ServerState) (seen : Seen) (said : Reply) (kind : Subtype) (list : List Attr) → is_past now ≡ true
    → IsPast (on_message set homes q now seen said kind list)
past_message set homes q state.AwaitIdentity seen said kind list past = absurd cc
past_message set homes q (state.Await request.Any) seen said kind list past = absurd cc
past_message set homes q (state.Await request.Fullauth) seen said kind list past =
    let text = identity_in list in
    past_identity (on_full q.options.method set homes text) kind list (past_challenge (row.Ask request.Permanent) (subscriber_in q.options.method set homes text) refl)
past_message set homes q (state.Await request.Permanent) seen said kind list past =
    let text = identity_in list in
    past_identity (on_permanent q.options.method set homes text) kind list (past_challenge row.UnknownIdentity (permanent_subscriber q.options.method set homes text) tt)
past_message set homes q (state.AwaitChallenge sent before) seen said kind list past = past_challenged set q sent seen kind list
past_message set homes q (state.AwaitReauth sent) seen said kind list past = past_resumed q sent seen said kind list
past_message set homes q (state.Notifying cause last) seen said kind list past = by kind
  where
    by : (s : Subtype) → IsPast (on_message set homes q (state.Notifying cause last) seen said s list)
    by subtype.Challenge = tt
    by subtype.AuthenticationReject = tt
    by subtype.SynchronizationFailure = tt
    by subtype.Identity = tt
    by subtype.Notification = tt
    by subtype.Reauthentication = tt
    by subtype.ClientError = tt
past_message set homes q (state.Ended result last) seen said kind list past = tt

past_method : (set : Setting) (homes : List HomeRow) (q : ServerEnd) (now : ServerState) (seen : Seen) (said : Reply) (r : Reading) → is_past now ≡ true → IsPast (on_method set homes q now seen said r)
past_method set homes q now seen said (reading.Fault fault) past = tt
past_method set homes q now seen said (reading.Read (packet.Success id)) past = tt
past_method set homes q now seen said (reading.Read (packet.Failure id)) past = tt
past_method set homes q now seen said (reading.Read (packet.Identity request id text)) past = tt
past_method set homes q now seen said (reading.Read (packet.Aka request id m kind list)) past =
    past_if (is_malformed kind false q.options.method list) (row.Ignore reason.Malformed) (on_message set homes q now seen said kind list) tt (past_message set homes q now seen said kind list past)

past_reading : (set : Setting) (homes : List HomeRow) (q : ServerEnd) (now : ServerState) (seen : Seen) (said : Reply) (r : Reading) → is_past now ≡ true → IsPast (on_reading set homes q now seen said r)
past_reading set homes q state.AwaitIdentity seen said r past = absurd cc
past_reading set homes q (state.Await kind) seen said r past = past_method set homes q (state.Await kind) seen said r past
past_reading set homes q (state.AwaitChallenge sent before) seen said r past = past_method set homes q (state.AwaitChallenge sent before) seen said r past
past_reading set homes q (state.AwaitReauth sent) seen said r past = past_method set homes q (state.AwaitReauth sent) seen said r past
past_reading set homes q (state.Notifying cause last) seen said r past = past_method set homes q (state.Notifying cause last) seen said r past
past_reading set homes q (state.Ended result last) seen said r past = past_method set homes q (state.Ended result last) seen said r past

past_head : (set : Setting) (homes : List HomeRow) (q : ServerEnd) (seen : Seen) (said : Reply) → is_past q.state ≡ true → (head : Option Head) → IsPast (on_head set homes q seen said head)
past_head set homes q seen said past None = tt
past_head set homes q seen said past (Some head) =
    let inside : Row = if not (is_type (type_awaited q.options.method q.state) head.kind) then row.Ignore reason.OtherType else on_reading set homes q q.state seen said seen.reading in
    past_if (not (head.code == 2) || not (head.id == q.id)) (row.Ignore reason.NotForMe) inside tt
    (past_if (not (is_type (type_awaited q.options.method q.state) head.kind)) (row.Ignore reason.OtherType) (on_reading set homes q q.state seen said seen.reading) tt (past_reading set homes q q.state seen said seen.reading past))

pub past_row : (set : Setting) (homes : List HomeRow) (q : ServerEnd) (seen : Seen) (said : Reply) → is_past q.state ≡ true → IsPast (server_row set homes q seen said)
past_row set homes q seen said past = by q.state
  where
    headed : IsPast (on_head set homes q seen said (head_at seen.bytes))
    headed = past_head set homes q seen said past (head_at seen.bytes)

    by : (now : ServerState) → IsPast (in_state set homes q seen said now)
    by state.AwaitIdentity = headed
    by (state.Await kind) = headed
    by (state.AwaitChallenge sent before) = headed
    by (state.AwaitReauth sent) = headed
    by (state.Notifying cause last) = headed
    by (state.Ended result last) = tt

-- ---- its turns

-- such a state follows, and what was taken up again stays
pub record StaysPast (q : ServerEnd) (turn : ServerEnd × Turn ServerWhy) : Type 0 where
  pub past : is_past turn.0.state ≡ true
  pub same : resumed_of turn.0 ≡ resumed_of q

vector_past : (realm : List ℕ) (q : ServerEnd) (sub n : ℕ) (v : Option Vector) (given : Option GivenNames) (notes : Notes) (checked : Bool) → is_past q.state ≡ true → StaysPast q (challenged_with realm q sub n v given notes checked)
vector_past realm q sub n None given notes checked past = record { past = past; same = refl }
vector_past realm q sub n (Some v) given notes checked past = record { past = refl; same = refl }

challenge_past : (set : Setting) (homes : List HomeRow) (q : ServerEnd) (sub : ℕ) (checked : Bool) (resynced : Option ResyncNote) (drawn : Option NumberNote) → is_past q.state ≡ true
    → StaysPast q (challenged set homes q sub checked resynced drawn)
challenge_past set homes q sub checked resynced None past = record { past = past; same = refl }
challenge_past set homes q sub checked resynced (Some (number.Drew n)) past =
    vector_past set.realm q sub n (vector_at set q.options sub n) (names_given set homes q sub) (noted resynced (Some (number.Drew n))) checked past
challenge_past set homes q sub checked resynced (Some (number.Exhausted w)) past = record { past = refl; same = refl }
challenge_past set homes q sub checked resynced (Some (number.Withheld n stop)) past = record { past = refl; same = refl }

identified_past : (set : Setting) (homes : List HomeRow) (q : ServerEnd) (text : List ℕ) (packets : List (List ℕ)) (sub : ℕ) (drawn : Option NumberNote) → is_past q.state ≡ true
    → StaysPast q (first_challenge set homes q text packets sub drawn)
identified_past set homes q text packets sub drawn past =
    let t = challenge_past set homes (identified q text packets) sub false None drawn past in record { past = t.past; same = t.same }

resync_past : (set : Setting) (homes : List HomeRow) (q : ServerEnd) (sub : ℕ) (resynced : Option ResyncNote) (drawn : Option NumberNote) → is_past q.state ≡ true → StaysPast q (resynchronised set homes q sub resynced drawn)
resync_past set homes q sub None drawn past = record { past = past; same = refl }
resync_past set homes q sub (Some resync.BadAuts) drawn past = record { past = past; same = refl }
resync_past set homes q sub (Some (resync.Beyond seen seq)) drawn past = record { past = refl; same = refl }
resync_past set homes q sub (Some (resync.InRange seen seq)) drawn past =
    let t = challenge_past set homes (resynchronising q) sub false (Some (resync.InRange seen seq)) drawn past in record { past = t.past; same = t.same }
resync_past set homes q sub (Some (resync.Moved seen seq)) drawn past =
    let t = challenge_past set homes (resynchronising q) sub false (Some (resync.Moved seen seq)) drawn past in record { past = t.past; same = t.same }

does_past : (found : Option ℕ) (set : Setting) (homes : List HomeRow) (q : ServerEnd) (seen : Seen) (text : List ℕ) (packets : List (List ℕ)) (r : Row) (notes : Notes) → is_past q.state ≡ true → IsPast r → Says found q seen r
    → StaysPast q (server_does set homes q text packets r notes)
does_past found set homes q seen text packets (row.Ignore cause) notes past is says = record { past = past; same = refl }
does_past found set homes q seen text packets (row.Ask request.Any) notes past is says = absurd cc
does_past found set homes q seen text packets (row.Ask request.Fullauth) notes past is says = absurd cc
does_past found set homes q seen text packets (row.Ask request.Permanent) notes past is says = record { past = refl; same = sym (none_resumed q says) }
does_past found set homes q seen text packets row.UnknownIdentity notes past is says = record { past = refl; same = refl }
does_past found set homes q seen text packets (row.Challenge sub) notes past is says = identified_past set homes q text packets sub notes.number past
does_past found set homes q seen text packets (row.Resume sub) notes past is says = absurd is
does_past found set homes q seen text packets row.WrongCounter notes past is says = record { past = refl; same = refl }
does_past found set homes q seen text packets (row.TooSmall sub) notes past is says = challenge_past set homes q sub true None notes.number past
does_past found set homes q seen text packets (row.Reauthenticated sent) notes past is says = record { past = refl; same = refl }
does_past found set homes q seen text packets row.WrongMac notes past is says = record { past = refl; same = refl }
does_past found set homes q seen text packets row.WrongRes notes past is says = record { past = refl; same = refl }
does_past found set homes q seen text packets row.WrongCheckcode notes past is says = record { past = refl; same = refl }
does_past found set homes q seen text packets (row.Success sent) notes past is says = record { past = refl; same = refl }
does_past found set homes q seen text packets row.SecondSync notes past is says = record { past = refl; same = refl }
does_past found set homes q seen text packets row.BadAuts notes past is says = record { past = refl; same = refl }
does_past found set homes q seen text packets (row.Resynchronise sub seq) notes past is says = resync_past set homes q sub notes.resync notes.number past
does_past found set homes q seen text packets row.Rejected notes past is says = record { past = refl; same = refl }
does_past found set homes q seen text packets (row.ClientError code) notes past is says = record { past = refl; same = refl }
does_past found set homes q seen text packets (row.Notified cause) notes past is says = record { past = refl; same = refl }

pub past_turn : (set : Setting) (homes : List HomeRow) (q : ServerEnd) (seen : Seen) (said : Reply) (notes : Notes) → is_past q.state ≡ true → StaysPast q (server_step set homes q seen said notes)
past_turn set homes q seen said notes past =
    let r = server_row set homes q seen said in
    does_past (subscriber_in q.options.method set homes (text_in seen.reading)) set homes q seen (text_in seen.reading) (packets_after q seen r) r notes past (past_row set homes q seen said past) (says_row set homes q seen said)
