-- What each row says of the server, and that Success comes only after a right AT_MAC.
use Rattle.std.proofs.Common.{◌≡◌, ◌⊎◌, inl, inr, ℕ, ◌==◌, ◌||◌, Bool, true, false, cond, not, List, [], Option, Some, None, slice_get, refl, ap, ◌∙◌}
use Rattle.std.specs.Option.{option_or}
use Rattle.auc_attr.specs.First.{first_value}
use Rattle.auc_attr.specs.declared.attr.Attr.{Attr}
use Rattle.auc_hmac.specs.declared.keys.KeySet.{KeySet}
use Rattle.auc_hmac.specs.declared.method.Method.{Method}
use Rattle.auc_packet.specs.Head.{head_at}
use Rattle.auc_packet.specs.Messages.{is_malformed, is_missing}
use Rattle.auc_packet.specs.Received.{Seen, is_sealed}
use Rattle.auc_packet.specs.declared.packet.Head.{Head}
use Rattle.auc_packet.specs.declared.packet.Packet.TheVariants as packet
use Rattle.auc_packet.specs.declared.received.Reading.{Reading}
use Rattle.auc_packet.specs.declared.received.Reading.TheVariants as reading
use Rattle.auc_packet.specs.declared.subtype.Subtype.{Subtype}
use Rattle.auc_packet.specs.declared.subtype.Subtype.TheVariants as subtype
use Rattle.auc_subs.specs.declared.row.Row as rows
use Rattle.auc_request.specs.Request.{checkcode_of}
use Rattle.auc_seal.specs.Checkcode.{differs}
use Rattle.auc_vector.specs.Auts.{read_auts_of}
use Rattle.auc_vector.specs.declared.auts.Auts.{Auts}
use Rattle.auc_vector.specs.declared.auts.Auts.TheVariants as auts
use Rattle.auc_vector.specs.declared.notes.Notes.{Notes}
use Rattle.auc_vector.specs.declared.notes.NumberNote.{NumberNote}
use Rattle.auc_vector.specs.declared.notes.NumberNote.TheVariants as number
use Rattle.auc_vector.specs.declared.notes.ResyncNote.{ResyncNote}
use Rattle.auc_vector.specs.declared.notes.ResyncNote.TheVariants as resync
use Rattle.auc_vector.specs.declared.parts.Vector.{Vector}
use Rattle.auc_vector.specs.declared.turn.Outcome.TheVariants as outcome
use Rattle.auc_vector.specs.declared.turn.Reason.TheVariants as reason
use Rattle.auc_vector.specs.declared.turn.Step.{Step}
use Rattle.auc_vector.specs.declared.turn.Step.TheVariants as step
use Rattle.auc_vector.specs.declared.turn.Turn.{Turn}
use Rattle.auc_server.specs.Attributes.{res_of, auts_of, error_code_of, identity_in}
use Rattle.auc_server.specs.Laws.{AreProved, AreRenewed, SuccessNeedsARightMac, awaits_identity}
use Rattle.auc_reauth.specs.declared.context.Context.{Context}
use Rattle.auc_server.specs.Contexts.{context_in, homes_left}
use Rattle.auc_server.specs.Rounds.{checkcode}
use Rattle.auc_server.specs.Rows.{by_auts, challenge_or, context_subscriber, in_state, is_expected, is_type, is_wrong, on_any, on_auts, on_challenged, on_client_error, on_error_code, on_first, on_full, on_head, on_identity, on_message, on_method, on_permanent, on_reading, on_reauth, on_requested, on_response, on_resumed, on_sync_failure, permanent_subscriber, pseudonym_subscriber, read_by, resume_or, says_small, server_row, subscriber_in, text_in, type_awaited}
use Rattle.auc_server.specs.Server.{ServerEnd, challenged_of, resumed_of}
use Rattle.auc_server.specs.State.{last_of, nothing_sent}
use Rattle.auc_subs.specs.Setting.{Setting}
use Rattle.auc_server.specs.Table.{challenged, challenged_with, identified, names_given, noted, packets_after, reauthenticated, resumed_keys, resumed_with, resynchronised, resynchronising, server_does, succeeded, vector_at}
use Rattle.auc_request.specs.declared.identities.IdentityRequest.{IdentityRequest}
use Rattle.auc_request.specs.declared.identities.IdentityRequest.TheVariants as asks
use Rattle.auc_server.specs.declared.naming.GivenNames.{GivenNames}
use Rattle.auc_server.specs.declared.options.ServerOptions.{ServerOptions}
use Rattle.auc_server.specs.declared.reply.Reply.{Reply}
use Rattle.auc_server.specs.declared.rows.Row.{Row}
use Rattle.auc_server.specs.declared.rows.Row.TheVariants as row
use Rattle.auc_server.specs.declared.server.Challenged.{Challenged}
use Rattle.auc_server.specs.declared.server.Last.{Last}
use Rattle.auc_server.specs.declared.server.Resumed.{Resumed}
use Rattle.auc_server.specs.declared.server.ServerState.{ServerState}
use Rattle.auc_server.specs.declared.server.ServerState.TheVariants as state
use Rattle.auc_server.specs.declared.setting.HomeRow.{HomeRow}
use Rattle.auc_vector.specs.declared.why.ServerWhy.{ServerWhy}

-- ---- what a row says of the server

-- the response to a challenge that is awaited has a right AT_MAC
pub record IsRight (s : ServerEnd) (seen : Seen) (sent : Challenged) : Type 0 where
  pub before : Option Resumed
  pub waits : s.state ≡ state.AwaitChallenge sent before
  pub right : is_sealed s.options.method sent.keys.k_aut [] seen ≡ true

-- the response to a re-authentication that is awaited has a right AT_MAC
pub record IsRightToo (s : ServerEnd) (seen : Seen) (sent : Resumed) : Type 0 where
  pub waits : s.state ≡ state.AwaitReauth sent
  pub right : is_sealed s.options.method sent.context.k_aut sent.nonce seen ≡ true

-- the subscriber of the re-authentication that is awaited
abbrev pub IsResumed : ServerEnd → ℕ → Type 0
IsResumed s sub = (sent : Resumed) × (s.state ≡ state.AwaitReauth sent) × (sent.sub ≡ sub)

-- the subscriber of the challenge that is awaited
abbrev pub IsLast : ServerEnd → ℕ → Type 0
IsLast s sub = (sent : Challenged) × (before : Option Resumed) × (s.state ≡ state.AwaitChallenge sent before) × (sent.sub ≡ sub)

-- an identity comes only where one is awaited, and a subscriber that was found by it is challenged; Success comes only after a
-- right AT_MAC; the subscriber of the last challenge resynchronises, and that of the re-authentication is challenged if the
-- counter was too small
abbrev pub Says : Option ℕ → ServerEnd → Seen → Row → Type 0
Says found s seen (row.Success sent) = IsRight s seen sent
Says found s seen (row.Reauthenticated sent) = IsRightToo s seen sent
Says found s seen (row.Resume sub) = awaits_identity s.state ≡ true
Says found s seen (row.TooSmall sub) = IsResumed s sub
Says found s seen (row.Ask kind) = awaits_identity s.state ≡ true
Says found s seen row.UnknownIdentity = awaits_identity s.state ≡ true
Says found s seen (row.Challenge sub) = (awaits_identity s.state ≡ true) × (found ≡ Some sub)
Says found s seen (row.Resynchronise sub seq) = IsLast s sub
Says found s seen other = Unit {0}

on_cond : (P : Row → Type 0) (b : Bool) (x y : Row) → P x → (b ≡ false → P y) → P (cond b x y)
on_cond P true x y here there = here
on_cond P false x y here there = there refl

is_true : (b : Bool) → not b ≡ false → b ≡ true
is_true true e = refl
is_true false e = absurd cc

says_response : (found : Option ℕ) (s : ServerEnd) (sent : Challenged) (before : Option Resumed) (seen : Seen) (list : List Attr) → s.state ≡ state.AwaitChallenge sent before
    → Says found s seen (on_response s.options.method s.packets sent seen list)
says_response found s sent before seen list now =
    let sealed = is_sealed s.options.method sent.keys.k_aut [] seen in
    let expected = is_expected sent.vector.xres (first_value res_of list) in
    let other = differs (checkcode s.options.method s.packets) (first_value checkcode_of list) in
    let last = cond other row.WrongCheckcode (row.Success sent) in
    let by_res = cond (not expected) row.WrongRes last in
    on_cond (Says found s seen) (is_missing subtype.Challenge false list) (row.Ignore reason.Missing) (cond (not sealed) row.WrongMac by_res) tt (λ there.
    on_cond (Says found s seen) (not sealed) row.WrongMac by_res tt (λ right.
    on_cond (Says found s seen) (not expected) row.WrongRes last tt (λ same.
    on_cond (Says found s seen) other row.WrongCheckcode (row.Success sent) tt (λ alike. record { before = before; waits = now; right = is_true sealed right }))))

says_reauth : (found : Option ℕ) (s : ServerEnd) (sent : Resumed) (seen : Seen) (said : Reply) (list : List Attr) → s.state ≡ state.AwaitReauth sent
    → Says found s seen (on_reauth s.options.method s.packets sent seen said list)
says_reauth found s sent seen said list now =
    let sealed = is_sealed s.options.method sent.context.k_aut sent.nonce seen in
    let other = differs (checkcode s.options.method s.packets) (first_value checkcode_of list) in
    let last = cond other row.WrongCheckcode (row.Reauthenticated sent) in
    let small = cond (says_small said) (row.TooSmall sent.sub) last in
    let by_counter = cond (is_wrong said) row.WrongCounter small in
    on_cond (Says found s seen) (is_missing subtype.Reauthentication false list) (row.Ignore reason.Missing) (cond (not sealed) row.WrongMac by_counter) tt (λ there.
    on_cond (Says found s seen) (not sealed) row.WrongMac by_counter tt (λ right.
    on_cond (Says found s seen) (is_wrong said) row.WrongCounter small tt (λ counted.
    on_cond (Says found s seen) (says_small said) (row.TooSmall sent.sub) last (sent, now, refl) (λ great.
    on_cond (Says found s seen) other row.WrongCheckcode (row.Reauthenticated sent) tt (λ alike. record { waits = now; right = is_true sealed right })))))

says_auts : (found : Option ℕ) (s : ServerEnd) (seen : Seen) (sent : Challenged) (a : Auts) → IsLast s sent.sub → Says found s seen (by_auts sent.sub a)
says_auts found s seen sent auts.WrongMac f = tt
says_auts found s seen sent (auts.SeqMs seq) f = f

says_read : (found : Option ℕ) (s : ServerEnd) (seen : Seen) (sent : Challenged) (answer : List ℕ) (home : Option rows.Row) → IsLast s sent.sub → Says found s seen (read_by sent answer home)
says_read found s seen sent answer None f = tt
says_read found s seen sent answer (Some home) f = says_auts found s seen sent (read_auts_of home.secret sent.vector.rand answer home.bits) f

says_on_auts : (found : Option ℕ) (set : Setting) (s : ServerEnd) (seen : Seen) (sent : Challenged) (answer : Option (List ℕ)) → IsLast s sent.sub → Says found s seen (on_auts set sent answer)
says_on_auts found set s seen sent None f = tt
says_on_auts found set s seen sent (Some answer) f = says_read found s seen sent answer (slice_get set.rows sent.sub) f

says_sync : (found : Option ℕ) (set : Setting) (s : ServerEnd) (seen : Seen) (synced : Bool) (sent : Challenged) (list : List Attr) → IsLast s sent.sub → Says found s seen (on_sync_failure set synced sent list)
says_sync found set s seen synced sent list f =
    let answered = on_auts set sent (first_value auts_of list) in
    on_cond (Says found s seen) (is_missing subtype.SynchronizationFailure false list) (row.Ignore reason.Missing) (cond synced row.SecondSync answered) tt (λ there.
    on_cond (Says found s seen) synced row.SecondSync answered tt (λ first. says_on_auts found set s seen sent (first_value auts_of list) f))

says_code : (found : Option ℕ) (s : ServerEnd) (seen : Seen) (code : Option ℕ) → Says found s seen (on_error_code code)
says_code found s seen None = tt
says_code found s seen (Some code) = tt

says_error : (found : Option ℕ) (s : ServerEnd) (seen : Seen) (list : List Attr) → Says found s seen (on_client_error list)
says_error found s seen list =
    on_cond (Says found s seen) (is_missing subtype.ClientError false list) (row.Ignore reason.Missing) (on_error_code (first_value error_code_of list)) tt
    (λ there. says_code found s seen (first_value error_code_of list))

says_answer : (found : Option ℕ) (set : Setting) (s : ServerEnd) (sent : Challenged) (before : Option Resumed) (seen : Seen) (kind : Subtype) (list : List Attr)
    → s.state ≡ state.AwaitChallenge sent before → Says found s seen (on_challenged set s sent seen kind list)
says_answer found set s sent before seen subtype.Challenge list now = says_response found s sent before seen list now
says_answer found set s sent before seen subtype.SynchronizationFailure list now = says_sync found set s seen s.synced sent list (sent, before, now, refl)
says_answer found set s sent before seen subtype.AuthenticationReject list now = tt
says_answer found set s sent before seen subtype.ClientError list now = says_error found s seen list
says_answer found set s sent before seen subtype.Identity list now = tt
says_answer found set s sent before seen subtype.Notification list now = tt
says_answer found set s sent before seen subtype.Reauthentication list now = tt

says_resumed : (found : Option ℕ) (s : ServerEnd) (sent : Resumed) (seen : Seen) (said : Reply) (kind : Subtype) (list : List Attr) → s.state ≡ state.AwaitReauth sent
    → Says found s seen (on_resumed s sent seen said kind list)
says_resumed found s sent seen said subtype.Reauthentication list now = says_reauth found s sent seen said list now
says_resumed found s sent seen said subtype.ClientError list now = says_error found s seen list
says_resumed found s sent seen said subtype.Challenge list now = tt
says_resumed found s sent seen said subtype.AuthenticationReject list now = tt
says_resumed found s sent seen said subtype.SynchronizationFailure list now = tt
says_resumed found s sent seen said subtype.Identity list now = tt
says_resumed found s sent seen said subtype.Notification list now = tt

says_notified : (found : Option ℕ) (set : Setting) (homes : List HomeRow) (s : ServerEnd) (seen : Seen) (said : Reply) (kind : Subtype) (list : List Attr) (why : ServerWhy) (last : Last)
    → Says found s seen (on_message set homes s (state.Notifying why last) seen said kind list)
says_notified found set homes s seen said subtype.Notification list why last = tt
says_notified found set homes s seen said subtype.Challenge list why last = tt
says_notified found set homes s seen said subtype.AuthenticationReject list why last = tt
says_notified found set homes s seen said subtype.SynchronizationFailure list why last = tt
says_notified found set homes s seen said subtype.Identity list why last = tt
says_notified found set homes s seen said subtype.Reauthentication list why last = tt
says_notified found set homes s seen said subtype.ClientError list why last = tt

-- ---- an identity

-- a subscriber that is found by its permanent identity
permanent_is : (a b : Option ℕ) (sub : ℕ) → a ≡ Some sub → option_or a b ≡ Some sub
permanent_is a b sub e = rw e refl

says_or : (found : Option ℕ) (s : ServerEnd) (seen : Seen) (other : Row) (r : Option ℕ) → awaits_identity s.state ≡ true → Says found s seen other
    → ((sub : ℕ) → r ≡ Some sub → found ≡ Some sub) → Says found s seen (challenge_or other r)
says_or found s seen other None e says f = says
says_or found s seen other (Some sub) e says f = (e, f sub refl)

says_resume : (found : Option ℕ) (s : ServerEnd) (seen : Seen) (other : Row) (r : Option ℕ) → awaits_identity s.state ≡ true → Says found s seen other
    → Says found s seen (resume_or other r)
says_resume found s seen other None e says = says
says_resume found s seen other (Some sub) e says = e

says_any : (found : Option ℕ) (by : Method) (set : Setting) (homes : List HomeRow) (s : ServerEnd) (seen : Seen) (text : List ℕ) → awaits_identity s.state ≡ true
    → found ≡ subscriber_in by set homes text → Says found s seen (on_any by set homes text)
says_any found by set homes s seen text e f =
    says_resume found s seen (challenge_or (row.Ask asks.Fullauth) (subscriber_in by set homes text)) (context_subscriber by set homes text) e
    (says_or found s seen (row.Ask asks.Fullauth) (subscriber_in by set homes text) e e (λ sub g. f ∙ g))

says_full : (found : Option ℕ) (by : Method) (set : Setting) (homes : List HomeRow) (s : ServerEnd) (seen : Seen) (text : List ℕ) → awaits_identity s.state ≡ true
    → found ≡ subscriber_in by set homes text → Says found s seen (on_full by set homes text)
says_full found by set homes s seen text e f = says_or found s seen (row.Ask asks.Permanent) (subscriber_in by set homes text) e e (λ sub g. f ∙ g)

says_permanent : (found : Option ℕ) (by : Method) (set : Setting) (homes : List HomeRow) (s : ServerEnd) (seen : Seen) (text : List ℕ) → awaits_identity s.state ≡ true
    → found ≡ subscriber_in by set homes text → Says found s seen (on_permanent by set homes text)
says_permanent found by set homes s seen text e f =
    says_or found s seen row.UnknownIdentity (permanent_subscriber by set homes text) e e
    (λ sub g. f ∙ permanent_is (permanent_subscriber by set homes text) (pseudonym_subscriber by set homes text) sub g)

says_requested : (found : Option ℕ) (asked : IdentityRequest) (by : Method) (set : Setting) (homes : List HomeRow) (s : ServerEnd) (seen : Seen) (text : List ℕ)
    → awaits_identity s.state ≡ true → found ≡ subscriber_in by set homes text → Says found s seen (on_requested asked by set homes text)
says_requested found asks.Any by set homes s seen text e f = says_any found by set homes s seen text e f
says_requested found asks.Fullauth by set homes s seen text e f = says_full found by set homes s seen text e f
says_requested found asks.Permanent by set homes s seen text e f = says_permanent found by set homes s seen text e f

says_first : (found : Option ℕ) (options : ServerOptions) (set : Setting) (homes : List HomeRow) (s : ServerEnd) (seen : Seen) (text : List ℕ) → awaits_identity s.state ≡ true
    → found ≡ subscriber_in options.method set homes text → Says found s seen (on_first options set homes text)
says_first found options set homes s seen text e f =
    on_cond (Says found s seen) options.any (row.Ask asks.Any) (on_any options.method set homes text) e (λ now. says_any found options.method set homes s seen text e f)

says_identity : (found : Option ℕ) (s : ServerEnd) (seen : Seen) (answered : Row) (kind : Subtype) (list : List Attr) → Says found s seen answered
    → Says found s seen (on_identity answered kind list)
says_identity found s seen answered subtype.Identity list says =
    on_cond (Says found s seen) (is_missing subtype.Identity false list) (row.Ignore reason.Missing) answered tt (λ there. says)
says_identity found s seen answered subtype.ClientError list says = says_error found s seen list
says_identity found s seen answered subtype.Challenge list says = tt
says_identity found s seen answered subtype.AuthenticationReject list says = tt
says_identity found s seen answered subtype.SynchronizationFailure list says = tt
says_identity found s seen answered subtype.Notification list says = tt
says_identity found s seen answered subtype.Reauthentication list says = tt

says_message : (found : Option ℕ) (set : Setting) (homes : List HomeRow) (s : ServerEnd) (now : ServerState) (seen : Seen) (said : Reply) (kind : Subtype) (list : List Attr) → s.state ≡ now
    → found ≡ subscriber_in s.options.method set homes (identity_in list) → Says found s seen (on_message set homes s now seen said kind list)
says_message found set homes s (state.Await asked) seen said kind list e f =
    says_identity found s seen (on_requested asked s.options.method set homes (identity_in list)) kind list
    (says_requested found asked s.options.method set homes s seen (identity_in list) (ap awaits_identity e) f)
says_message found set homes s (state.AwaitChallenge sent before) seen said kind list e f = says_answer found set s sent before seen kind list e
says_message found set homes s (state.AwaitReauth sent) seen said kind list e f = says_resumed found s sent seen said kind list e
says_message found set homes s (state.Notifying why last) seen said kind list e f = says_notified found set homes s seen said kind list why last
says_message found set homes s state.AwaitIdentity seen said kind list e f = tt
says_message found set homes s (state.Ended result last) seen said kind list e f = tt

says_method : (found : Option ℕ) (set : Setting) (homes : List HomeRow) (s : ServerEnd) (now : ServerState) (seen : Seen) (said : Reply) (r : Reading) → s.state ≡ now
    → found ≡ subscriber_in s.options.method set homes (text_in r) → Says found s seen (on_method set homes s now seen said r)
says_method found set homes s now seen said (reading.Read (packet.Aka request id m kind list)) e f =
    on_cond (Says found s seen) (is_malformed kind false s.options.method list) (row.Ignore reason.Malformed) (on_message set homes s now seen said kind list) tt
    (λ sound. says_message found set homes s now seen said kind list e f)
says_method found set homes s now seen said (reading.Read (packet.Identity request id text)) e f = tt
says_method found set homes s now seen said (reading.Read (packet.Success id)) e f = tt
says_method found set homes s now seen said (reading.Read (packet.Failure id)) e f = tt
says_method found set homes s now seen said (reading.Fault fault) e f = tt

says_reading : (found : Option ℕ) (set : Setting) (homes : List HomeRow) (s : ServerEnd) (now : ServerState) (seen : Seen) (said : Reply) (r : Reading) → s.state ≡ now → found ≡ subscriber_in s.options.method set homes (text_in r)
    → Says found s seen (on_reading set homes s now seen said r)
says_reading found set homes s state.AwaitIdentity seen said r e f = says_first found s.options set homes s seen (text_in r) (ap awaits_identity e) f
says_reading found set homes s (state.Await asked) seen said r e f = says_method found set homes s (state.Await asked) seen said r e f
says_reading found set homes s (state.AwaitChallenge sent before) seen said r e f = says_method found set homes s (state.AwaitChallenge sent before) seen said r e f
says_reading found set homes s (state.AwaitReauth sent) seen said r e f = says_method found set homes s (state.AwaitReauth sent) seen said r e f
says_reading found set homes s (state.Notifying why last) seen said r e f = says_method found set homes s (state.Notifying why last) seen said r e f
says_reading found set homes s (state.Ended result last) seen said r e f = says_method found set homes s (state.Ended result last) seen said r e f

says_head : (found : Option ℕ) (set : Setting) (homes : List HomeRow) (s : ServerEnd) (seen : Seen) (said : Reply) (head : Option Head) → found ≡ subscriber_in s.options.method set homes (text_in seen.reading) → Says found s seen (on_head set homes s seen said head)
says_head found set homes s seen said None f = tt
says_head found set homes s seen said (Some head) f =
    let inner = on_reading set homes s s.state seen said seen.reading in
    let typed = not (is_type (type_awaited s.options.method s.state) head.kind) in
    on_cond (Says found s seen) (not (head.code == 2) || not (head.id == s.id)) (row.Ignore reason.NotForMe) (cond typed (row.Ignore reason.OtherType) inner) tt (λ mine.
    on_cond (Says found s seen) typed (row.Ignore reason.OtherType) inner tt (λ same. says_reading found set homes s s.state seen said seen.reading refl f))

says_state : (found : Option ℕ) (set : Setting) (homes : List HomeRow) (s : ServerEnd) (seen : Seen) (said : Reply) (now : ServerState) → found ≡ subscriber_in s.options.method set homes (text_in seen.reading) → Says found s seen (in_state set homes s seen said now)
says_state found set homes s seen said (state.Ended result last) f = tt
says_state found set homes s seen said state.AwaitIdentity f = says_head found set homes s seen said (head_at seen.bytes) f
says_state found set homes s seen said (state.Await asked) f = says_head found set homes s seen said (head_at seen.bytes) f
says_state found set homes s seen said (state.AwaitChallenge sent before) f = says_head found set homes s seen said (head_at seen.bytes) f
says_state found set homes s seen said (state.AwaitReauth sent) f = says_head found set homes s seen said (head_at seen.bytes) f
says_state found set homes s seen said (state.Notifying why last) f = says_head found set homes s seen said (head_at seen.bytes) f

-- each row says this
pub says_row : (set : Setting) (homes : List HomeRow) (s : ServerEnd) (seen : Seen) (said : Reply) → Says (subscriber_in s.options.method set homes (text_in seen.reading)) s seen (server_row set homes s seen said)
says_row set homes s seen said = says_state (subscriber_in s.options.method set homes (text_in seen.reading)) set homes s seen said s.state refl

-- ---- while an identity is awaited nothing was sent

none_sent : (now : ServerState) → awaits_identity now ≡ true → last_of now ≡ nothing_sent
none_sent state.AwaitIdentity e = refl
none_sent (state.Await asked) e = refl
none_sent (state.AwaitChallenge sent before) e = absurd cc
none_sent (state.AwaitReauth sent) e = absurd cc
none_sent (state.Notifying why last) e = absurd cc
none_sent (state.Ended result last) e = absurd cc

-- no challenge
pub none_challenged : (s : ServerEnd) → awaits_identity s.state ≡ true → challenged_of s ≡ None
none_challenged s e = ap (λ (last : Last). last.challenged) (none_sent s.state e)

-- and no re-authentication
pub none_resumed : (s : ServerEnd) → awaits_identity s.state ≡ true → resumed_of s ≡ None
none_resumed s e = ap (λ (last : Last). last.resumed) (none_sent s.state e)

-- ---- only those rows end in Success

abbrev EndsIn : KeySet → List ℕ → ServerEnd × Turn ServerWhy → Type 0
EndsIn keys bytes t = t.1.step ≡ step.Ended (outcome.Success keys) bytes

no_drawn : (realm : List ℕ) (s : ServerEnd) (sub n : ℕ) (v : Option Vector) (given : Option GivenNames) (notes : Notes) (checked : Bool) (keys : KeySet) (bytes : List ℕ)
    → EndsIn keys bytes (challenged_with realm s sub n v given notes checked) → ⊥
no_drawn realm s sub n None given notes checked keys bytes e = cc
no_drawn realm s sub n (Some v) given notes checked keys bytes e = cc

no_challenged : (set : Setting) (homes : List HomeRow) (s : ServerEnd) (sub : ℕ) (checked : Bool) (resynced : Option ResyncNote) (drawn : Option NumberNote) (keys : KeySet) (bytes : List ℕ)
    → EndsIn keys bytes (challenged set homes s sub checked resynced drawn) → ⊥
no_challenged set homes s sub checked resynced None keys bytes e = cc
no_challenged set homes s sub checked resynced (Some (number.Drew n)) keys bytes e =
    no_drawn set.realm s sub n (vector_at set s.options sub n) (names_given set homes s sub) (noted resynced (Some (number.Drew n))) checked keys bytes e
no_challenged set homes s sub checked resynced (Some (number.Exhausted w)) keys bytes e = cc
no_challenged set homes s sub checked resynced (Some (number.Withheld n stop)) keys bytes e = cc

no_resynchronised : (set : Setting) (homes : List HomeRow) (s : ServerEnd) (sub : ℕ) (resynced : Option ResyncNote) (drawn : Option NumberNote) (keys : KeySet) (bytes : List ℕ)
    → EndsIn keys bytes (resynchronised set homes s sub resynced drawn) → ⊥
no_resynchronised set homes s sub None drawn keys bytes e = cc
no_resynchronised set homes s sub (Some resync.BadAuts) drawn keys bytes e = cc
no_resynchronised set homes s sub (Some (resync.Beyond seen seq)) drawn keys bytes e = cc
no_resynchronised set homes s sub (Some (resync.InRange seen seq)) drawn keys bytes e =
    no_challenged set homes (resynchronising s) sub false (Some (resync.InRange seen seq)) drawn keys bytes e
no_resynchronised set homes s sub (Some (resync.Moved seen seq)) drawn keys bytes e =
    no_challenged set homes (resynchronising s) sub false (Some (resync.Moved seen seq)) drawn keys bytes e

no_resumed : (set : Setting) (homes : List HomeRow) (s : ServerEnd) (text : List ℕ) (packets : List (List ℕ)) (sub : ℕ) (c : Option Context) (keys : KeySet) (bytes : List ℕ)
    → EndsIn keys bytes (resumed_with set homes s text packets sub c) → ⊥
no_resumed set homes s text packets sub None keys bytes e = cc
no_resumed set homes s text packets sub (Some c) keys bytes e = cc

-- what a turn that ends in Success says
abbrev IsProved : ServerEnd → Seen → KeySet → ServerEnd × Turn ServerWhy → Type 0
IsProved s seen keys t = (AreProved s seen keys ⊎ AreRenewed s seen keys) × (t.1.checked ≡ true)

success_keys : (k keys : KeySet) (b bytes : List ℕ) → ◌≡◌ {A = Step ServerWhy} (step.Ended (outcome.Success k) b) (step.Ended (outcome.Success keys) bytes) → keys ≡ k
success_keys k keys b bytes e = cc

-- what a server that awaits an answer sent last
pub awaits_challenge : (s : ServerEnd) (sent : Challenged) (before : Option Resumed) → s.state ≡ state.AwaitChallenge sent before → challenged_of s ≡ Some sent
awaits_challenge s sent before now = ap (λ (now : ServerState). (last_of now).challenged) now

pub awaits_reauth : (s : ServerEnd) (sent : Resumed) → s.state ≡ state.AwaitReauth sent → resumed_of s ≡ Some sent
awaits_reauth s sent now = ap (λ (now : ServerState). (last_of now).resumed) now

proved_by : (s : ServerEnd) (seen : Seen) (sent : Challenged) (keys : KeySet) (bytes : List ℕ) → IsRight s seen sent
    → EndsIn keys bytes (succeeded s sent) → IsProved s seen keys (succeeded s sent)
proved_by s seen sent keys bytes right e =
    let are : keys ≡ sent.keys = success_keys sent.keys keys _ bytes e in (
      inl (record {
        sent = sent;
        last = awaits_challenge s sent right.before right.waits;
        keys_are = are;
        right = ap (λ (k : KeySet). is_sealed s.options.method k.k_aut [] seen) are ∙ right.right;
      }),
      refl,
    )

renewed_by : (s : ServerEnd) (seen : Seen) (sent : Resumed) (keys : KeySet) (bytes : List ℕ) → IsRightToo s seen sent
    → EndsIn keys bytes (reauthenticated s sent) → IsProved s seen keys (reauthenticated s sent)
renewed_by s seen sent keys bytes right e =
    let are : keys ≡ resumed_keys s sent = success_keys (resumed_keys s sent) keys _ bytes e in (
      inr (record {
        sent = sent;
        last = awaits_reauth s sent right.waits;
        keys_are = are;
        right = ap (λ (k : KeySet). is_sealed s.options.method k.k_aut sent.nonce seen) are ∙ right.right;
      }),
      refl,
    )

proved_does : (found : Option ℕ) (set : Setting) (homes : List HomeRow) (s : ServerEnd) (seen : Seen) (text : List ℕ) (packets : List (List ℕ)) (r : Row) (notes : Notes) (keys : KeySet) (bytes : List ℕ)
    → Says found s seen r → EndsIn keys bytes (server_does set homes s text packets r notes) → IsProved s seen keys (server_does set homes s text packets r notes)
proved_does found set homes s seen text packets (row.Success sent) notes keys bytes right e = proved_by s seen sent keys bytes right e
proved_does found set homes s seen text packets (row.Reauthenticated sent) notes keys bytes right e = renewed_by s seen sent keys bytes right e
proved_does found set homes s seen text packets (row.Challenge sub) notes keys bytes right e =
    absurd (no_challenged set homes (identified s text packets) sub false None notes.number keys bytes e)
proved_does found set homes s seen text packets (row.Resume sub) notes keys bytes right e =
    absurd (no_resumed set (homes_left s.options.method text homes sub) s text packets sub (context_in s.options.method text homes sub) keys bytes e)
proved_does found set homes s seen text packets (row.TooSmall sub) notes keys bytes right e = absurd (no_challenged set homes s sub true None notes.number keys bytes e)
proved_does found set homes s seen text packets (row.Resynchronise sub seq) notes keys bytes right e = absurd (no_resynchronised set homes s sub notes.resync notes.number keys bytes e)
proved_does found set homes s seen text packets other notes keys bytes right e = absurd cc

pub success_is_proved : SuccessNeedsARightMac
success_is_proved set homes s seen said notes keys bytes e =
    proved_does (subscriber_in s.options.method set homes (text_in seen.reading)) set homes s seen (text_in seen.reading) (packets_after s seen (server_row set homes s seen said)) (server_row set homes s seen said) notes keys bytes (says_row set homes s seen said) e
