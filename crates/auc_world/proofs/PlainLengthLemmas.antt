-- For resumed sessions: a context that a server took up again has an identity of 33 bytes.
use Rattle.std.proofs.Common.{◌≡◌, ℕ, Bool, true, false, not, if◌then◌else◌, List, length, Option, Some, None, refl, sym, ap, ◌∙◌, subst, ◌==◌, ◌||◌}
use Rattle.auc_attr.specs.declared.attr.Attr.{Attr}
use Rattle.auc_hmac.specs.declared.method.Method.{Method}
use Rattle.auc_ident.specs.Permanent.{username}
use Rattle.auc_packet.specs.Head.{head_at}
use Rattle.auc_packet.specs.Messages.{is_malformed, is_missing}
use Rattle.auc_packet.specs.Received.{Seen}
use Rattle.auc_packet.specs.declared.packet.Head.{Head}
use Rattle.auc_packet.specs.declared.packet.Packet.TheVariants as packet
use Rattle.auc_packet.specs.declared.received.Reading.{Reading}
use Rattle.auc_packet.specs.declared.received.Reading.TheVariants as reading
use Rattle.auc_packet.specs.declared.subtype.Subtype.{Subtype}
use Rattle.auc_packet.specs.declared.subtype.Subtype.TheVariants as subtype
use Rattle.auc_peer.specs.Subscription.{Subscription}
use Rattle.auc_reauth.specs.Device.{Keeps}
use Rattle.auc_reauth.specs.declared.context.Context.{Context}
use Rattle.auc_lines.specs.declared.part.End.{End}
use Rattle.auc_request.specs.declared.identities.IdentityRequest.TheVariants as request
use Rattle.auc_server.specs.Attributes.{identity_in}
use Rattle.auc_server.specs.Contexts.{context_in, homes_left}
use Rattle.auc_server.specs.Rows.{challenge_or, context_subscriber, in_state, is_type, on_any, on_client_error, on_first, on_head, on_identity, on_message, on_method, on_reading, resume_or, server_row, subscriber_in, text_in, type_awaited}
use Rattle.auc_server.specs.Server.{ServerEnd, resumed_of}
use Rattle.auc_subs.specs.Setting.{Setting}
use Rattle.auc_server.specs.Table.{challenged, challenged_with, identified, names_given, noted, packets_after, resumed_with, resumption, resynchronised, resynchronising, server_does, server_step, vector_at}
use Rattle.auc_server.specs.declared.naming.GivenNames.{GivenNames}
use Rattle.auc_server.specs.declared.options.ServerOptions.{ServerOptions}
use Rattle.auc_server.specs.declared.reply.Reply.{Reply}
use Rattle.auc_server.specs.declared.rows.Row.{Row}
use Rattle.auc_server.specs.declared.rows.Row.TheVariants as row
use Rattle.auc_server.specs.declared.server.Resumed.{Resumed}
use Rattle.auc_server.specs.declared.server.ServerState.{ServerState}
use Rattle.auc_server.specs.declared.server.ServerState.TheVariants as state
use Rattle.auc_server.specs.declared.setting.HomeRow.{HomeRow}
use Rattle.auc_vector.specs.declared.notes.Notes.{Notes}
use Rattle.auc_vector.specs.declared.notes.NumberNote.{NumberNote}
use Rattle.auc_vector.specs.declared.notes.NumberNote.TheVariants as number
use Rattle.auc_vector.specs.declared.notes.ResyncNote.{ResyncNote}
use Rattle.auc_vector.specs.declared.notes.ResyncNote.TheVariants as resync
use Rattle.auc_vector.specs.declared.parts.Vector.{Vector}
use Rattle.auc_vector.specs.declared.turn.Reason.TheVariants as reason
use Rattle.auc_world.proofs.PlainNamedLemmas.{context_named, named_size}
use Rattle.auc_world.proofs.PlainNetLemmas.{OnWay}
use Rattle.auc_world.proofs.PlainPastLemmas.{IsPast, is_past, past_error, past_row}
use Rattle.auc_world.proofs.PlainToldLemmas.{Free}
use Rattle.auc_world.proofs.PlainWalkLemmas.{at_end, ends_so}
use Rattle.auc_world.specs.Net.{Net}
use Rattle.auc_world.specs.Plain.{HasResumed}
use Rattle.auc_world.specs.declared.net.Session.{Session}

-- ---- the row

-- where a row takes a context up again, the name in the identity has 33 bytes
abbrev Names : List ℕ → Row → Type 0
Names text (row.Resume sub) = length (username text) ≡ 33
Names text other = Unit {0}

names_past : (text : List ℕ) (r : Row) → IsPast r → Names text r
names_past text (row.Resume sub) past = absurd past
names_past text other past = tt

names_if : (text : List ℕ) (b : Bool) (x y : Row) → Names text x → Names text y → Names text (if b then x else y)
names_if text true x y one two = one
names_if text false x y one two = two

names_challenge : (text : List ℕ) (found : Option ℕ) → Names text (challenge_or (row.Ask request.Fullauth) found)
names_challenge text None = tt
names_challenge text (Some sub) = tt

names_any : (m : Method) (set : Setting) (homes : List HomeRow) (text : List ℕ) → Names text (on_any m set homes text)
names_any m set homes text = by (context_subscriber m set homes text) refl
  where
    by : (o : Option ℕ) → context_subscriber m set homes text ≡ o → Names text (resume_or (challenge_or (row.Ask request.Fullauth) (subscriber_in m set homes text)) o)
    by None e = names_challenge text (subscriber_in m set homes text)
    by (Some sub) e = named_size m set homes text sub e

names_identity : (text : List ℕ) (answered : Row) (kind : Subtype) (list : List Attr) → Names text answered → Names text (on_identity answered kind list)
names_identity text answered subtype.Identity list is = names_if text (is_missing subtype.Identity false list) (row.Ignore reason.Missing) answered tt is
names_identity text answered subtype.ClientError list is = names_past text (on_client_error list) (past_error list)
names_identity text answered subtype.Challenge list is = tt
names_identity text answered subtype.AuthenticationReject list is = tt
names_identity text answered subtype.SynchronizationFailure list is = tt
names_identity text answered subtype.Notification list is = tt
names_identity text answered subtype.Reauthentication list is = tt

-- in the round in which any identity was asked for
names_read : (set : Setting) (homes : List HomeRow) (q : ServerEnd) (seen : Seen) (said : Reply) (r : Reading) → Names (text_in r) (on_method set homes q (state.Await request.Any) seen said r)
names_read set homes q seen said (reading.Fault fault) = tt
names_read set homes q seen said (reading.Read (packet.Success id)) = tt
names_read set homes q seen said (reading.Read (packet.Failure id)) = tt
names_read set homes q seen said (reading.Read (packet.Identity asked id text)) = tt
names_read set homes q seen said (reading.Read (packet.Aka asked id m kind list)) =
    let text = identity_in list in
    names_if text (is_malformed kind false q.options.method list) (row.Ignore reason.Malformed) (on_message set homes q (state.Await request.Any) seen said kind list) tt
    (names_identity text (on_any q.options.method set homes text) kind list (names_any q.options.method set homes text))

names_first : (o : ServerOptions) (set : Setting) (homes : List HomeRow) (text : List ℕ) → Names text (on_first o set homes text)
names_first o set homes text = names_if text o.any (row.Ask request.Any) (on_any o.method set homes text) tt (names_any o.method set homes text)

names_head : (set : Setting) (homes : List HomeRow) (q : ServerEnd) (seen : Seen) (said : Reply) (now : ServerState) → q.state ≡ now → Names (text_in seen.reading) (on_reading set homes q now seen said seen.reading) → (head : Option Head)
    → Names (text_in seen.reading) (on_head set homes q seen said head)
names_head set homes q seen said now is inner None = tt
names_head set homes q seen said now is inner (Some head) =
    let text = text_in seen.reading in
    let inside : ServerState → Row = λ s. if not (is_type (type_awaited q.options.method s) head.kind) then row.Ignore reason.OtherType else on_reading set homes q s seen said seen.reading in
    names_if text (not (head.code == 2) || not (head.id == q.id)) (row.Ignore reason.NotForMe) (inside q.state) tt
    (subst (λ (s : ServerState). Names text (inside s)) (sym is)
    (names_if text (not (is_type (type_awaited q.options.method now) head.kind)) (row.Ignore reason.OtherType) (on_reading set homes q now seen said seen.reading) tt inner))

names_row : (set : Setting) (homes : List HomeRow) (q : ServerEnd) (seen : Seen) (said : Reply) → Names (text_in seen.reading) (server_row set homes q seen said)
names_row set homes q seen said = by q.state refl
  where
    text : List ℕ
    text = text_in seen.reading

    past : is_past q.state ≡ true → Names (text_in seen.reading) (server_row set homes q seen said)
    past is = names_past (text_in seen.reading) (server_row set homes q seen said) (past_row set homes q seen said is)

    by : (now : ServerState) → q.state ≡ now → Names (text_in seen.reading) (server_row set homes q seen said)
    by state.AwaitIdentity is =
        subst (λ (s : ServerState). Names (text_in seen.reading) (in_state set homes q seen said s)) (sym is)
        (names_head set homes q seen said state.AwaitIdentity is (names_first q.options set homes (text_in seen.reading)) (head_at seen.bytes))
    by (state.Await request.Any) is =
        subst (λ (s : ServerState). Names (text_in seen.reading) (in_state set homes q seen said s)) (sym is)
        (names_head set homes q seen said (state.Await request.Any) is (names_read set homes q seen said seen.reading) (head_at seen.bytes))
    by other is = past (ap is_past is)

-- ---- the turn

-- what a server took up again has 33 bytes
abbrev IsLong : ServerEnd → Type 0
IsLong q = (r : Resumed) → resumed_of q ≡ Some r → length r.context.identity ≡ 33

vector_long : (realm : List ℕ) (q : ServerEnd) (sub n : ℕ) (v : Option Vector) (given : Option GivenNames) (notes : Notes) (checked : Bool) → IsLong q → IsLong (challenged_with realm q sub n v given notes checked).0
vector_long realm q sub n None given notes checked is = is
vector_long realm q sub n (Some v) given notes checked is = is

challenge_long : (set : Setting) (homes : List HomeRow) (q : ServerEnd) (sub : ℕ) (checked : Bool) (resynced : Option ResyncNote) (drawn : Option NumberNote) → IsLong q → IsLong (challenged set homes q sub checked resynced drawn).0
challenge_long set homes q sub checked resynced None is = is
challenge_long set homes q sub checked resynced (Some (number.Drew n)) is =
    vector_long set.realm q sub n (vector_at set q.options sub n) (names_given set homes q sub) (noted resynced (Some (number.Drew n))) checked is
challenge_long set homes q sub checked resynced (Some (number.Exhausted w)) is = is
challenge_long set homes q sub checked resynced (Some (number.Withheld n stop)) is = is

resync_long : (set : Setting) (homes : List HomeRow) (q : ServerEnd) (sub : ℕ) (resynced : Option ResyncNote) (drawn : Option NumberNote) → IsLong q → IsLong (resynchronised set homes q sub resynced drawn).0
resync_long set homes q sub None drawn is = is
resync_long set homes q sub (Some resync.BadAuts) drawn is = is
resync_long set homes q sub (Some (resync.Beyond seen seq)) drawn is = is
resync_long set homes q sub (Some (resync.InRange seen seq)) drawn is = challenge_long set homes (resynchronising q) sub false (Some (resync.InRange seen seq)) drawn is
resync_long set homes q sub (Some (resync.Moved seen seq)) drawn is = challenge_long set homes (resynchronising q) sub false (Some (resync.Moved seen seq)) drawn is

none_long : (r : Resumed) → ◌≡◌ {A = Option Resumed} None (Some r) → length r.context.identity ≡ 33
none_long r e = absurd cc

one_resumed : (a b : Resumed) → ◌≡◌ {A = Option Resumed} (Some a) (Some b) → a ≡ b
one_resumed a b e = cc

resumed_long : (set : Setting) (homes : List HomeRow) (q : ServerEnd) (text : List ℕ) (packets : List (List ℕ)) (sub : ℕ) (o : Option Context) → IsLong q → ((c : Context) → o ≡ Some c → length c.identity ≡ 33)
    → IsLong (resumed_with set homes q text packets sub o).0
resumed_long set homes q text packets sub None is of r e = is r e
resumed_long set homes q text packets sub (Some c) is of r e =
    subst (λ (x : Resumed). length x.context.identity ≡ 33) (one_resumed (resumption set homes (identified q text packets) sub c) r e) (of c refl)

does_long : (set : Setting) (homes : List HomeRow) (q : ServerEnd) (text : List ℕ) (packets : List (List ℕ)) (r : Row) (notes : Notes) → IsLong q → Names text r → IsLong (server_does set homes q text packets r notes).0
does_long set homes q text packets (row.Challenge sub) notes is names = challenge_long set homes (identified q text packets) sub false None notes.number is
does_long set homes q text packets (row.Resume sub) notes is names =
    resumed_long set (homes_left q.options.method text homes sub) q text packets sub (context_in q.options.method text homes sub) is
    (λ c e. ap (λ (l : List ℕ). length l) (sym (context_named q.options.method text homes sub c e)) ∙ names)
does_long set homes q text packets (row.TooSmall sub) notes is names = challenge_long set homes q sub true None notes.number is
does_long set homes q text packets (row.Ask kind) notes is names = none_long
does_long set homes q text packets (row.Resynchronise sub seq) notes is names = resync_long set homes q sub notes.resync notes.number is
does_long set homes q text packets other notes is names = is

turn_long : (set : Setting) (homes : List HomeRow) (q : ServerEnd) (seen : Seen) (said : Reply) (notes : Notes) → IsLong q → IsLong (server_step set homes q seen said notes).0
turn_long set homes q seen said notes is =
    let r = server_row set homes q seen said in does_long set homes q (text_in seen.reading) (packets_after q seen r) r notes is (names_row set homes q seen said)

-- ---- the end

none_resumed : (q : ServerEnd) (r : Resumed) → resumed_of q ≡ None → resumed_of q ≡ Some r → ⊥
none_resumed q r none some = differ (sym none ∙ some)
  where
    differ : ◌≡◌ {A = Option Resumed} None (Some r) → ⊥
    differ e = cc

pub resumed_size : (set : Setting) (number : ℕ) (device : Subscription) (next : Net) (to : End) (s : Session) (q : ServerEnd) (keeps : Keeps) (bytes : List ℕ) (syncs : ℕ) (r : Resumed) → s.server ≡ Some q → resumed_of q ≡ None
    → OnWay set Free number to s device keeps bytes syncs next → HasResumed next number r → length r.context.identity ≡ 33
resumed_size set number device next to s q keeps bytes syncs r is none way has =
    let first : IsLong q = λ x e. absurd (none_resumed q x none e) in
    let ends = ends_so set number device next IsLong (turn_long set) to s q keeps bytes syncs is first way in
    let (last, long, resumed) = at_end next number IsLong r ends has in
    long r resumed
