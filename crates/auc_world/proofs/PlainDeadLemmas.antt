-- For plain sessions: a server that has refused draws no number any more.
use Rattle.std.proofs.Common.{◌≡◌, ◌⊎◌, ℕ, Bool, true, false, List, [], Option, Some, None, refl, sym, subst, ⊎_elim, inl, inr, if◌then◌else◌, not, ◌==◌, ◌||◌}
use Rattle.auc_attr.specs.First.{first_value as first_of}
use Rattle.auc_attr.specs.declared.attr.Attr.{Attr}
use Rattle.auc_packet.specs.Head.{head_at}
use Rattle.auc_hmac.specs.declared.keys.KeySet.{KeySet}
use Rattle.auc_hmac.specs.declared.keys.Master.{Master}
use Rattle.auc_hmac.specs.declared.method.Method.{Method}
use Rattle.auc_packet.specs.Messages.{is_malformed, is_missing}
use Rattle.auc_packet.specs.Received.{Seen, attrs_in, is_sealed}
use Rattle.auc_packet.specs.declared.packet.Head.{Head}
use Rattle.auc_packet.specs.declared.packet.Packet.TheVariants as packet
use Rattle.auc_packet.specs.declared.received.Reading.{Reading}
use Rattle.auc_packet.specs.declared.received.Reading.TheVariants as reading
use Rattle.auc_packet.specs.declared.subtype.Subtype.{Subtype}
use Rattle.auc_packet.specs.declared.subtype.Subtype.TheVariants as subtype
use Rattle.auc_peer.specs.Asking.{answer_noted}
use Rattle.auc_peer.specs.Attributes.{checkcode as code_in}
use Rattle.auc_peer.specs.Subscription.{Subscription}
use Rattle.auc_peer.specs.Table.{accepting, by_answer, by_counter, challenged, client, context_of, disclosed, keys_at, master_at, opened, own_code, peer_does, resumed_by, resuming, small, succeeded, taken, with_inner}
use Rattle.auc_peer.specs.declared.decrypted.Decrypted.{Decrypted}
use Rattle.auc_peer.specs.declared.decrypted.Decrypted.TheVariants as decrypted
use Rattle.auc_peer.specs.declared.peer.Challenge.{Challenge}
use Rattle.auc_peer.specs.declared.peer.Peer.{Peer}
use Rattle.auc_peer.specs.declared.peer.PeerState.{PeerState}
use Rattle.auc_peer.specs.declared.peer.PeerState.TheVariants as peer_state
use Rattle.auc_peer.specs.declared.rows.Row.{Row as PeerRow}
use Rattle.auc_peer.specs.declared.rows.Row.TheVariants as peer_row
use Rattle.auc_request.specs.Request.{checkcode_of}
use Rattle.auc_seal.specs.Checkcode.{differs, differs as differs_own}
use Rattle.auc_vector.specs.declared.why.PeerWhy.{PeerWhy}
use Rattle.auc_vector.specs.declared.why.PeerWhy.TheVariants as peer_why
use Rattle.auc_reauth.specs.Device.{Keeps, is_open}
use Rattle.auc_reauth.specs.Store.{entry}
use Rattle.auc_reauth.specs.declared.context.Context.{Context}
use Rattle.auc_server.specs.Attributes.{error_code_of}
use Rattle.auc_server.specs.Rounds.{checkcode}
use Rattle.auc_server.specs.Rows.{in_state, is_type, is_wrong, on_client_error, on_error_code, on_head, on_method, on_reading, on_reauth, on_resumed, says_small, server_row, text_in, type_awaited}
use Rattle.auc_server.specs.Server.{ServerEnd}
use Rattle.auc_subs.specs.Setting.{Setting}
use Rattle.auc_server.specs.Table.{failed, ignored, notified, packets_after, reauthenticated, server_does, server_step, silent}
use Rattle.auc_server.specs.declared.reply.Reply.{Reply}
use Rattle.auc_server.specs.declared.rows.Row.{Row}
use Rattle.auc_server.specs.declared.rows.Row.TheVariants as row
use Rattle.auc_server.specs.declared.server.Last.{Last as Left}
use Rattle.auc_server.specs.declared.server.Resumed.{Resumed}
use Rattle.auc_server.specs.declared.server.ServerState.{ServerState}
use Rattle.auc_server.specs.declared.server.ServerState.TheVariants as state
use Rattle.auc_server.specs.declared.setting.HomeRow.{HomeRow}
use Rattle.auc_vector.specs.declared.why.ServerWhy.{ServerWhy}
use Rattle.auc_vector.specs.declared.why.ServerWhy.TheVariants as why
use Rattle.auc_usim.specs.declared.answer.Answer.{Answer}
use Rattle.auc_usim.specs.declared.answer.Answer.TheVariants as answer
use Rattle.auc_vector.specs.declared.notes.Notes.{Notes}
use Rattle.auc_vector.specs.declared.notes.UsimNote.{UsimNote}
use Rattle.auc_vector.specs.declared.notes.UsimNote.TheVariants as note
use Rattle.auc_vector.specs.declared.turn.Turn.{Turn}
use Rattle.auc_world.proofs.PlainToldLemmas.{IsQuiet}
use Rattle.auc_world.specs.Happened.{sent_by}
use Rattle.auc_vector.specs.declared.turn.Reason.{Reason}
use Rattle.auc_vector.specs.declared.turn.Reason.TheVariants as reason

-- a server that has refused, or has ended
abbrev pub is_closed : ServerState → Bool
is_closed (state.Notifying cause last) = true
is_closed (state.Ended result last) = true
is_closed other = false

-- the rows into which it falls
abbrev pub IsClosing : Row → Type 0
IsClosing r = ((cause : Reason) × (r ≡ row.Ignore cause)) ⊎ ((cause : ServerWhy) × (r ≡ row.Notified cause))

ignores : (cause : Reason) → IsClosing (row.Ignore cause)
ignores cause = inl (cause, refl)

either_row : (b : Bool) (x y : Row) → IsClosing x → IsClosing y → IsClosing (if b then x else y)
either_row true x y one two = one
either_row false x y one two = two

notified_only : (set : Setting) (homes : List HomeRow) (q : ServerEnd) (cause : ServerWhy) (last : Left) (seen : Seen) (said : Reply) (r : Reading) → IsClosing (on_method set homes q (state.Notifying cause last) seen said r)
notified_only set homes q cause last seen said (reading.Fault fault) = ignores reason.Malformed
notified_only set homes q cause last seen said (reading.Read (packet.Success id)) = ignores reason.Malformed
notified_only set homes q cause last seen said (reading.Read (packet.Failure id)) = ignores reason.Malformed
notified_only set homes q cause last seen said (reading.Read (packet.Identity request id text)) = ignores reason.Malformed
notified_only set homes q cause last seen said (reading.Read (packet.Aka request id m kind list)) = by kind
  where
    by : (s : Subtype) → IsClosing (on_method set homes q (state.Notifying cause last) seen said (reading.Read (packet.Aka request id m s list)))
    by subtype.Challenge = either_row (is_malformed subtype.Challenge false q.options.method list) (row.Ignore reason.Malformed) (row.Ignore reason.Unexpected) (ignores reason.Malformed) (ignores reason.Unexpected)
    by subtype.AuthenticationReject =
        either_row (is_malformed subtype.AuthenticationReject false q.options.method list) (row.Ignore reason.Malformed) (row.Ignore reason.Unexpected) (ignores reason.Malformed) (ignores reason.Unexpected)
    by subtype.SynchronizationFailure =
        either_row (is_malformed subtype.SynchronizationFailure false q.options.method list) (row.Ignore reason.Malformed) (row.Ignore reason.Unexpected) (ignores reason.Malformed) (ignores reason.Unexpected)
    by subtype.Identity = either_row (is_malformed subtype.Identity false q.options.method list) (row.Ignore reason.Malformed) (row.Ignore reason.Unexpected) (ignores reason.Malformed) (ignores reason.Unexpected)
    by subtype.Notification = either_row (is_malformed subtype.Notification false q.options.method list) (row.Ignore reason.Malformed) (row.Notified cause) (ignores reason.Malformed) (inr (cause, refl))
    by subtype.Reauthentication =
        either_row (is_malformed subtype.Reauthentication false q.options.method list) (row.Ignore reason.Malformed) (row.Ignore reason.Unexpected) (ignores reason.Malformed) (ignores reason.Unexpected)
    by subtype.ClientError = either_row (is_malformed subtype.ClientError false q.options.method list) (row.Ignore reason.Malformed) (row.Ignore reason.Unexpected) (ignores reason.Malformed) (ignores reason.Unexpected)

closed_false : ◌≡◌ {A = Bool} false true → ⊥
closed_false e = cc

pub closed_row : (set : Setting) (homes : List HomeRow) (q : ServerEnd) (seen : Seen) (said : Reply) → is_closed q.state ≡ true → IsClosing (server_row set homes q seen said)
closed_row set homes q seen said closed = by q.state refl closed
  where
    headed : (cause : ServerWhy) (last : Left) → q.state ≡ state.Notifying cause last → (head : Option Head) → IsClosing (on_head set homes q seen said head)
    headed cause last now None = ignores reason.NotForMe
    headed cause last now (Some head) =
        let inside : ServerState → Row = λ s. if not (is_type (type_awaited q.options.method s) head.kind) then row.Ignore reason.OtherType else on_reading set homes q s seen said seen.reading in
        either_row (not (head.code == 2) || not (head.id == q.id)) (row.Ignore reason.NotForMe) (inside q.state) (ignores reason.NotForMe)
        (subst (λ (s : ServerState). IsClosing (inside s)) (sym now)
        (either_row (not (is_type (type_awaited q.options.method (state.Notifying cause last)) head.kind)) (row.Ignore reason.OtherType) (on_method set homes q (state.Notifying cause last) seen said seen.reading) (ignores reason.OtherType)
        (notified_only set homes q cause last seen said seen.reading)))

    by : (now : ServerState) → q.state ≡ now → is_closed now ≡ true → IsClosing (in_state set homes q seen said q.state)
    by state.AwaitIdentity now closed = absurd (closed_false closed)
    by (state.Await kind) now closed = absurd (closed_false closed)
    by (state.AwaitChallenge sent before) now closed = absurd (closed_false closed)
    by (state.AwaitReauth sent) now closed = absurd (closed_false closed)
    by (state.Notifying cause last) now closed = subst (λ (s : ServerState). IsClosing (in_state set homes q seen said s)) (sym now) (headed cause last now (head_at seen.bytes))
    by (state.Ended result last) now closed = subst (λ (s : ServerState). IsClosing (in_state set homes q seen said s)) (sym now) (ignores reason.Closed)

-- ---- what its turn is

-- a turn that sends nothing, or closes the session; it tells neither of a number nor of a counter
pub record IsRefused (turn : ServerEnd × Turn ServerWhy) : Type 0 where
  pub quiet : IsQuiet turn.1.notes
  pub closes : (sent_by turn.1.step ≡ None) ⊎ (is_closed turn.0.state ≡ true)

pub silent_quiet : IsQuiet silent
silent_quiet = record { resumed = refl; drawn = refl; taken = refl }

refused_ignored : (q : ServerEnd) (cause : Reason) → IsRefused (ignored q cause)
refused_ignored q cause = record { quiet = silent_quiet; closes = inl refl }

refused_failed : (q : ServerEnd) (cause : ServerWhy) → IsRefused (failed q cause)
refused_failed q cause = record { quiet = silent_quiet; closes = inr refl }

refused_notified : (q : ServerEnd) (cause : ServerWhy) (checked : Bool) → IsRefused (notified q cause silent checked)
refused_notified q cause checked = record { quiet = silent_quiet; closes = inr refl }

refused_reauthenticated : (q : ServerEnd) (r : Resumed) → IsRefused (reauthenticated q r)
refused_reauthenticated q r = record { quiet = silent_quiet; closes = inr refl }

pub closed_turn : (set : Setting) (homes : List HomeRow) (q : ServerEnd) (seen : Seen) (said : Reply) (notes : Notes) → is_closed q.state ≡ true → IsRefused (server_step set homes q seen said notes)
closed_turn set homes q seen said notes closed =
    let does : Row → ServerEnd × Turn ServerWhy = λ r. server_does set homes q (text_in seen.reading) (packets_after q seen r) r notes in
    ⊎_elim
    (λ (i : (cause : Reason) × (server_row set homes q seen said ≡ row.Ignore cause)). subst (λ (r : Row). IsRefused (does r)) (sym i.1) (refused_ignored q i.0))
    (λ (n : (cause : ServerWhy) × (server_row set homes q seen said ≡ row.Notified cause)). subst (λ (r : Row). IsRefused (does r)) (sym n.1) (refused_failed q n.0))
    (closed_row set homes q seen said closed)

-- ---- a server that awaits the reply to a re-authentication

-- a row that refuses it, or takes it
pub data IsReplied (r : Row) : Type 0 where
  Ignored : (cause : Reason) → r ≡ row.Ignore cause → IsReplied r
  WrongMac : r ≡ row.WrongMac → IsReplied r
  WrongCounter : r ≡ row.WrongCounter → IsReplied r
  WrongCheckcode : r ≡ row.WrongCheckcode → IsReplied r
  Reauthenticated : (sent : Resumed) → r ≡ row.Reauthenticated sent → IsReplied r
  ClientError : (code : ℕ) → r ≡ row.ClientError code → IsReplied r
  TooSmall : (sub : ℕ) → r ≡ row.TooSmall sub → IsReplied r

replied_if : (b : Bool) (x y : Row) → IsReplied x → IsReplied y → IsReplied (if b then x else y)
replied_if true x y one two = one
replied_if false x y one two = two

replied_code : (code : Option ℕ) → IsReplied (on_error_code code)
replied_code None = Ignored reason.Missing refl
replied_code (Some code) = ClientError code refl

replied_error : (list : List Attr) → IsReplied (on_client_error list)
replied_error list =
    replied_if (is_missing subtype.ClientError false list) (row.Ignore reason.Missing) (on_error_code (first_of error_code_of list)) (Ignored reason.Missing refl) (replied_code (first_of error_code_of list))

replied_reauth : (m : Method) (packets : List (List ℕ)) (sent : Resumed) (seen : Seen) (said : Reply) (list : List Attr) → IsReplied (on_reauth m packets sent seen said list)
replied_reauth m packets sent seen said list =
    let last : Row = if differs (checkcode m packets) (first_of checkcode_of list) then row.WrongCheckcode else row.Reauthenticated sent in
    let small : Row = if says_small said then row.TooSmall sent.sub else last in
    let counted : Row = if is_wrong said then row.WrongCounter else small in
    let genuine : Row = if not (is_sealed m sent.context.k_aut sent.nonce seen) then row.WrongMac else counted in
    replied_if (is_missing subtype.Reauthentication false list) (row.Ignore reason.Missing) genuine (Ignored reason.Missing refl)
    (replied_if (not (is_sealed m sent.context.k_aut sent.nonce seen)) row.WrongMac counted (WrongMac refl)
    (replied_if (is_wrong said) row.WrongCounter small (WrongCounter refl)
    (replied_if (says_small said) (row.TooSmall sent.sub) last (TooSmall sent.sub refl)
    (replied_if (differs (checkcode m packets) (first_of checkcode_of list)) row.WrongCheckcode (row.Reauthenticated sent) (WrongCheckcode refl) (Reauthenticated sent refl)))))

replied_message : (q : ServerEnd) (r : Resumed) (seen : Seen) (said : Reply) (kind : Subtype) (list : List Attr) → IsReplied (on_resumed q r seen said kind list)
replied_message q r seen said subtype.Challenge list = Ignored reason.Unexpected refl
replied_message q r seen said subtype.AuthenticationReject list = Ignored reason.Unexpected refl
replied_message q r seen said subtype.SynchronizationFailure list = Ignored reason.Unexpected refl
replied_message q r seen said subtype.Identity list = Ignored reason.Unexpected refl
replied_message q r seen said subtype.Notification list = Ignored reason.Unexpected refl
replied_message q r seen said subtype.Reauthentication list = replied_reauth q.options.method q.packets r seen said list
replied_message q r seen said subtype.ClientError list = replied_error list

replied_read : (set : Setting) (homes : List HomeRow) (q : ServerEnd) (sent : Resumed) (seen : Seen) (said : Reply) (r : Reading) → IsReplied (on_method set homes q (state.AwaitReauth sent) seen said r)
replied_read set homes q sent seen said (reading.Fault fault) = Ignored reason.Malformed refl
replied_read set homes q sent seen said (reading.Read (packet.Success id)) = Ignored reason.Malformed refl
replied_read set homes q sent seen said (reading.Read (packet.Failure id)) = Ignored reason.Malformed refl
replied_read set homes q sent seen said (reading.Read (packet.Identity request id text)) = Ignored reason.Malformed refl
replied_read set homes q sent seen said (reading.Read (packet.Aka request id m kind list)) =
    replied_if (is_malformed kind false q.options.method list) (row.Ignore reason.Malformed) (on_resumed q sent seen said kind list) (Ignored reason.Malformed refl) (replied_message q sent seen said kind list)

replied_head : (set : Setting) (homes : List HomeRow) (q : ServerEnd) (sent : Resumed) (seen : Seen) (said : Reply) → q.state ≡ state.AwaitReauth sent → (head : Option Head) → IsReplied (on_head set homes q seen said head)
replied_head set homes q sent seen said now None = Ignored reason.NotForMe refl
replied_head set homes q sent seen said now (Some head) =
    let inside : ServerState → Row = λ s. if not (is_type (type_awaited q.options.method s) head.kind) then row.Ignore reason.OtherType else on_reading set homes q s seen said seen.reading in
    replied_if (not (head.code == 2) || not (head.id == q.id)) (row.Ignore reason.NotForMe) (inside q.state) (Ignored reason.NotForMe refl)
    (subst (λ (s : ServerState). IsReplied (inside s)) (sym now)
    (replied_if (not (is_type (type_awaited q.options.method (state.AwaitReauth sent)) head.kind)) (row.Ignore reason.OtherType) (on_method set homes q (state.AwaitReauth sent) seen said seen.reading) (Ignored reason.OtherType refl)
    (replied_read set homes q sent seen said seen.reading)))

pub replied_row : (set : Setting) (homes : List HomeRow) (q : ServerEnd) (sent : Resumed) (seen : Seen) (said : Reply) → q.state ≡ state.AwaitReauth sent → IsReplied (server_row set homes q seen said)
replied_row set homes q sent seen said now = subst (λ (s : ServerState). IsReplied (in_state set homes q seen said s)) (sym now) (replied_head set homes q sent seen said now (head_at seen.bytes))

-- unless the counter was too small, it is refused, or the session ends
pub refused_or_small : (set : Setting) (homes : List HomeRow) (q : ServerEnd) (sent : Resumed) (seen : Seen) (said : Reply) (notes : Notes) → q.state ≡ state.AwaitReauth sent
    → ((sub : ℕ) × (server_row set homes q seen said ≡ row.TooSmall sub)) ⊎ IsRefused (server_step set homes q seen said notes)
refused_or_small set homes q sent seen said notes now = by (replied_row set homes q sent seen said now)
  where
    does : Row → ServerEnd × Turn ServerWhy
    does r = server_does set homes q (text_in seen.reading) (packets_after q seen r) r notes

    turns : (r : Row) → server_row set homes q seen said ≡ r → IsRefused (does r) → ((sub : ℕ) × (server_row set homes q seen said ≡ row.TooSmall sub)) ⊎ IsRefused (server_step set homes q seen said notes)
    turns r e is = inr (subst (λ (x : Row). IsRefused (does x)) (sym e) is)

    by : IsReplied (server_row set homes q seen said) → ((sub : ℕ) × (server_row set homes q seen said ≡ row.TooSmall sub)) ⊎ IsRefused (server_step set homes q seen said notes)
    by (Ignored cause e) = turns (row.Ignore cause) e (refused_ignored q cause)
    by (WrongMac e) = turns row.WrongMac e (refused_notified q why.WrongMac false)
    by (WrongCounter e) = turns row.WrongCounter e (refused_notified q why.WrongCounter true)
    by (WrongCheckcode e) = turns row.WrongCheckcode e (refused_notified q why.WrongCheckcode true)
    by (Reauthenticated r e) = turns (row.Reauthenticated r) e (refused_reauthenticated q r)
    by (ClientError code e) = turns (row.ClientError code) e (refused_failed q (why.ClientError code))
    by (TooSmall sub e) = inl (sub, e)

-- ---- a peer's turn

-- it tells of no number and no context that was taken up again
abbrev IsOfPeer : Peer × Turn PeerWhy → Type 0
IsOfPeer turn = (turn.1.notes.resumed ≡ None) × (turn.1.notes.number ≡ None)

peer_if : (b : Bool) (x y : Peer × Turn PeerWhy) → IsOfPeer x → IsOfPeer y → IsOfPeer (if b then x else y)
peer_if true x y one two = one
peer_if false x y one two = two

peer_counts : (key : List ℕ) (keeps : Keeps) (p : Peer) (seen : Seen) (c : Context) (identity : Option (List ℕ)) (counter : Option ℕ) (nonce : Option (List ℕ)) → IsOfPeer (by_counter key keeps p seen c identity counter nonce)
peer_counts key keeps p seen c identity None fresh = (refl, refl)
peer_counts key keeps p seen c identity (Some counter) None = (refl, refl)
peer_counts key keeps p seen c identity (Some counter) (Some nonce) =
    peer_if (is_open counter (entry p.options.method keeps.contexts)) (taken key p seen c identity counter nonce) (small key p seen c counter nonce) (refl, refl) (refl, refl)

peer_disclosed : (key : List ℕ) (keeps : Keeps) (p : Peer) (seen : Seen) (c : Context) (inner : Decrypted) → IsOfPeer (disclosed key keeps p seen c inner)
peer_disclosed key keeps p seen c decrypted.Unreadable = (refl, refl)
peer_disclosed key keeps p seen c (decrypted.Attributes given) = peer_counts key keeps p seen c given.identity given.counter given.nonce

peer_resumes : (key : List ℕ) (keeps : Keeps) (p : Peer) (seen : Seen) (c : Option Context) (inner : Decrypted) → IsOfPeer (resumed_by key keeps p seen c inner)
peer_resumes key keeps p seen None inner = (refl, refl)
peer_resumes key keeps p seen (Some c) inner =
    let a = resuming p c in
    let tested = if differs_own (own_code a) (code_in seen) then client a seen peer_why.WrongCheckcode None true else disclosed key keeps (with_inner a inner) seen c inner in
    let genuine = if not (is_sealed p.options.method c.k_aut [] seen) then client p seen peer_why.WrongMac None false else tested in
    peer_if (is_missing subtype.Reauthentication true (attrs_in seen.reading)) (client p seen peer_why.Missing None false) genuine (refl, refl)
    (peer_if (not (is_sealed p.options.method c.k_aut [] seen)) (client p seen peer_why.WrongMac None false) tested (refl, refl)
    (peer_if (differs_own (own_code a) (code_in seen)) (client a seen peer_why.WrongCheckcode None true) (disclosed key keeps (with_inner a inner) seen c inner) (refl, refl)
    (peer_disclosed key keeps (with_inner a inner) seen c inner)))

peer_opened : (p : Peer) (seen : Seen) (res sqn : List ℕ) (keys : KeySet) (m : Master) (inner : Decrypted) → IsOfPeer (opened p seen res sqn keys m inner)
peer_opened p seen res sqn keys m decrypted.Unreadable = (refl, refl)
peer_opened p seen res sqn keys m (decrypted.Attributes given) = (refl, refl)

peer_answers : (p : Peer) (seen : Seen) (c : Challenge) (a : Answer) (inner : Decrypted) → IsOfPeer (by_answer p seen c a inner)
peer_answers p seen c answer.WrongMac inner = (refl, refl)
peer_answers p seen c (answer.SyncFailure auts sqn) inner = (refl, refl)
peer_answers p seen c (answer.Accepted res ck ik ak amf sqn) inner =
    let keys = keys_at p seen c ik ck in
    let m = master_at p seen c ik ck in
    let a = accepting p seen c in
    let n = Some (note.Accepted sqn) in
    let tested = if differs_own (own_code a) (code_in seen) then client a seen peer_why.WrongCheckcode n true else opened a seen res sqn keys m inner in
    peer_if (not (is_sealed p.options.method keys.k_aut [] seen)) (client p seen peer_why.WrongMac n false) tested (refl, refl)
    (peer_if (differs_own (own_code a) (code_in seen)) (client a seen peer_why.WrongCheckcode n true) (opened a seen res sqn keys m inner) (refl, refl) (peer_opened a seen res sqn keys m inner))

peer_challenged : (s : Subscription) (p : Peer) (seen : Seen) (c : Challenge) (n : Option UsimNote) (inner : Decrypted) → IsOfPeer (challenged s p seen c n inner)
peer_challenged s p seen c None inner = (refl, refl)
peer_challenged s p seen c (Some n) inner = peer_answers p seen c (answer_noted s.secret c n) inner

peer_succeeded : (p : Peer) (s : PeerState) → IsOfPeer (succeeded p s)
peer_succeeded p peer_state.Waiting = (refl, refl)
peer_succeeded p (peer_state.Answered keys) = (refl, refl)
peer_succeeded p (peer_state.Refusing cause) = (refl, refl)
peer_succeeded p peer_state.Ended = (refl, refl)

pub peer_notes : (key : List ℕ) (s : Subscription) (keeps : Keeps) (p : Peer) (seen : Seen) (r : PeerRow) (n : Option UsimNote) (inner : Decrypted) → IsOfPeer (peer_does key s keeps p seen r n inner)
peer_notes key s keeps p seen (peer_row.Ignore cause) n inner = (refl, refl)
peer_notes key s keeps p seen peer_row.Again n inner = (refl, refl)
peer_notes key s keeps p seen peer_row.First n inner = (refl, refl)
peer_notes key s keeps p seen (peer_row.Identity asked) n inner = (refl, refl)
peer_notes key s keeps p seen (peer_row.Client cause) n inner = (refl, refl)
peer_notes key s keeps p seen (peer_row.Reject cause) n inner = (refl, refl)
peer_notes key s keeps p seen (peer_row.Notified code) n inner = (refl, refl)
peer_notes key s keeps p seen (peer_row.Challenged c) n inner = peer_challenged s p seen c n inner
peer_notes key s keeps p seen peer_row.Reauthentication n inner = peer_resumes key keeps p seen (context_of keeps p) inner
peer_notes key s keeps p seen peer_row.Success n inner = peer_succeeded p p.state
peer_notes key s keeps p seen (peer_row.Failure cause) n inner = (refl, refl)
