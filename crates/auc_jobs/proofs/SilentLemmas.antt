-- For events: a turn that asks the centre for nothing notes no number.
use Rattle.std.proofs.Common.{◌≡◌, not, Bool, true, false, List, [], ℕ, refl}
use Rattle.std.specs.Prelude.{Option, Some, None, if◌then◌else◌}
use Rattle.auc_hmac.specs.declared.keys.KeySet.{KeySet}
use Rattle.auc_hmac.specs.declared.keys.Master.{Master}
use Rattle.auc_packet.specs.Messages.{is_missing}
use Rattle.auc_packet.specs.Received.{Seen, attrs_in, is_sealed}
use Rattle.auc_packet.specs.declared.subtype.Subtype.TheVariants as subtype
use Rattle.auc_peer.specs.Asking.{answer_noted}
use Rattle.auc_peer.specs.Attributes.{checkcode}
use Rattle.auc_peer.specs.Subscription.{Subscription}
use Rattle.auc_peer.specs.Table.{accepted, accepting, by_answer, by_counter, client, context_of, disclosed, genuine, keys_at, master_at, opened, own_code, peer_does, resumed_by, resuming, small, sound, succeeded as peer_succeeded, taken, with_inner}
use Rattle.auc_peer.specs.declared.decrypted.Decrypted.{Decrypted}
use Rattle.auc_peer.specs.declared.decrypted.Decrypted.TheVariants as decrypted
use Rattle.auc_peer.specs.declared.peer.Challenge.{Challenge}
use Rattle.auc_peer.specs.declared.peer.Peer.{Peer}
use Rattle.auc_peer.specs.declared.peer.PeerState.{PeerState}
use Rattle.auc_peer.specs.declared.peer.PeerState.TheVariants as state
use Rattle.auc_peer.specs.declared.rows.Row.{Row as PeerRow}
use Rattle.auc_peer.specs.declared.rows.Row.TheVariants as peer_row
use Rattle.auc_seal.specs.Checkcode.{differs}
use Rattle.auc_vector.specs.declared.why.PeerWhy.{PeerWhy}
use Rattle.auc_vector.specs.declared.why.PeerWhy.TheVariants as why
use Rattle.auc_reauth.specs.Device.{Keeps, is_open}
use Rattle.auc_reauth.specs.Store.{entry}
use Rattle.auc_reauth.specs.declared.context.Context.{Context}
use Rattle.auc_server.specs.Contexts.{context_in, homes_left}
use Rattle.auc_server.specs.Server.{ServerEnd}
use Rattle.auc_subs.specs.Setting.{Setting}
use Rattle.auc_server.specs.Steps.{asking}
use Rattle.auc_server.specs.Table.{resumed_with, server_does}
use Rattle.auc_server.specs.declared.rows.Row.{Row}
use Rattle.auc_server.specs.declared.rows.Row.TheVariants as row
use Rattle.auc_server.specs.declared.setting.HomeRow.{HomeRow}
use Rattle.auc_usim.specs.declared.answer.Answer.{Answer}
use Rattle.auc_usim.specs.declared.answer.Answer.TheVariants as answer
use Rattle.auc_vector.specs.Notes.{Asking}
use Rattle.auc_vector.specs.declared.notes.Notes.{Notes}
use Rattle.auc_vector.specs.declared.notes.UsimNote.{UsimNote}
use Rattle.auc_vector.specs.declared.notes.UsimNote.TheVariants as note
use Rattle.auc_vector.specs.declared.turn.Turn.{Turn}

no_asking : (a : Asking) → ◌≡◌ {A = Option Asking} (Some a) None → ⊥
no_asking a e = cc

-- a server's turn
pub server_silent : (set : Setting) (homes : List HomeRow) (s : ServerEnd) (text : List ℕ) (packets : List (List ℕ)) (r : Row) (notes : Notes) → asking r ≡ None → (server_does set homes s text packets r notes).1.notes.number ≡ None
server_silent set homes s text packets (row.Challenge sub) notes e = absurd (no_asking (record { sub = sub; reported = None }) e)
server_silent set homes s text packets (row.Resynchronise sub seq) notes e = absurd (no_asking (record { sub = sub; reported = Some seq }) e)
server_silent set homes s text packets (row.TooSmall sub) notes e = absurd (no_asking (record { sub = sub; reported = None }) e)
server_silent set homes s text packets (row.Resume sub) notes e = by (context_in s.options.method text homes sub)
  where
    by : (o : Option Context) → (resumed_with set (homes_left s.options.method text homes sub) s text packets sub o).1.notes.number ≡ None
    by None = refl
    by (Some c) = refl
server_silent set homes s text packets row.WrongCounter notes e = refl
server_silent set homes s text packets (row.Reauthenticated sent) notes e = refl
server_silent set homes s text packets (row.Ignore cause) notes e = refl
server_silent set homes s text packets (row.Ask kind) notes e = refl
server_silent set homes s text packets row.UnknownIdentity notes e = refl
server_silent set homes s text packets row.WrongMac notes e = refl
server_silent set homes s text packets row.WrongRes notes e = refl
server_silent set homes s text packets row.WrongCheckcode notes e = refl
server_silent set homes s text packets (row.Success sent) notes e = refl
server_silent set homes s text packets row.SecondSync notes e = refl
server_silent set homes s text packets row.BadAuts notes e = refl
server_silent set homes s text packets row.Rejected notes e = refl
server_silent set homes s text packets (row.ClientError code) notes e = refl
server_silent set homes s text packets (row.Notified cause) notes e = refl

-- a peer's turn
if_silent : (b : Bool) (x y : Peer × Turn PeerWhy) → x.1.notes.number ≡ None → y.1.notes.number ≡ None → (if b then x else y).1.notes.number ≡ None
if_silent true x y first second = first
if_silent false x y first second = second

answer_silent : (p : Peer) (seen : Seen) (c : Challenge) (a : Answer) (inner : Decrypted) → (by_answer p seen c a inner).1.notes.number ≡ None
answer_silent p seen c answer.WrongMac inner = refl
answer_silent p seen c (answer.SyncFailure auts sqn) inner = refl
answer_silent p seen c (answer.Accepted res ck ik ak amf sqn) inner = with_keys (keys_at p seen c ik ck) (master_at p seen c ik ck)
  where
    opened_silent : (q : Peer) (keys : KeySet) (m : Master) (d : Decrypted) → (opened q seen res sqn keys m d).1.notes.number ≡ None
    opened_silent q keys m decrypted.Unreadable = refl
    opened_silent q keys m (decrypted.Attributes next) = refl

    with_keys : (keys : KeySet) (m : Master) → (accepted p seen c res sqn keys m inner).1.notes.number ≡ None
    with_keys keys m =
        if_silent (not (is_sealed p.options.method keys.k_aut [] seen)) (client p seen why.WrongMac (Some (note.Accepted sqn)) false) (genuine (accepting p seen c) seen res sqn keys m inner) refl
        (if_silent (differs (own_code (accepting p seen c)) (checkcode seen)) (client (accepting p seen c) seen why.WrongCheckcode (Some (note.Accepted sqn)) true) (opened (accepting p seen c) seen res sqn keys m inner)
        refl (opened_silent (accepting p seen c) keys m inner))

counter_silent : (key : List ℕ) (keeps : Keeps) (p : Peer) (seen : Seen) (c : Context) (identity : Option (List ℕ)) (counter : Option ℕ) (nonce : Option (List ℕ))
    → (by_counter key keeps p seen c identity counter nonce).1.notes.number ≡ None
counter_silent key keeps p seen c identity (Some counter) (Some nonce) =
    if_silent (is_open counter (entry p.options.method keeps.contexts)) (taken key p seen c identity counter nonce) (small key p seen c counter nonce) refl refl
counter_silent key keeps p seen c identity (Some counter) None = refl
counter_silent key keeps p seen c identity None (Some nonce) = refl
counter_silent key keeps p seen c identity None None = refl

again_silent : (key : List ℕ) (keeps : Keeps) (p : Peer) (seen : Seen) (inner : Decrypted) (o : Option Context) → (resumed_by key keeps p seen o inner).1.notes.number ≡ None
again_silent key keeps p seen inner None = refl
again_silent key keeps p seen inner (Some c) =
    if_silent (is_missing subtype.Reauthentication true (attrs_in seen.reading)) (client p seen why.Missing None false)
    (if not (is_sealed p.options.method c.k_aut [] seen) then client p seen why.WrongMac None false else sound key keeps (resuming p c) seen c inner) refl
    (if_silent (not (is_sealed p.options.method c.k_aut [] seen)) (client p seen why.WrongMac None false) (sound key keeps (resuming p c) seen c inner) refl
    (if_silent (differs (own_code (resuming p c)) (checkcode seen)) (client (resuming p c) seen why.WrongCheckcode None true) (disclosed key keeps (with_inner (resuming p c) inner) seen c inner) refl
    (disclosed_silent inner)))
  where
    disclosed_silent : (d : Decrypted) → (disclosed key keeps (with_inner (resuming p c) inner) seen c d).1.notes.number ≡ None
    disclosed_silent decrypted.Unreadable = refl
    disclosed_silent (decrypted.Attributes given) = counter_silent key keeps (with_inner (resuming p c) inner) seen c given.identity given.counter given.nonce

pub peer_silent : (key : List ℕ) (s : Subscription) (keeps : Keeps) (p : Peer) (seen : Seen) (r : PeerRow) (n : Option UsimNote) (inner : Decrypted) → (peer_does key s keeps p seen r n inner).1.notes.number ≡ None
peer_silent key s keeps p seen (peer_row.Ignore cause) n inner = refl
peer_silent key s keeps p seen peer_row.Again n inner = refl
peer_silent key s keeps p seen peer_row.First n inner = refl
peer_silent key s keeps p seen (peer_row.Identity asked) n inner = refl
peer_silent key s keeps p seen (peer_row.Client cause) n inner = refl
peer_silent key s keeps p seen (peer_row.Reject cause) n inner = refl
peer_silent key s keeps p seen (peer_row.Notified code) n inner = refl
peer_silent key s keeps p seen (peer_row.Challenged c) None inner = refl
peer_silent key s keeps p seen (peer_row.Challenged c) (Some n) inner = answer_silent p seen c (answer_noted s.secret c n) inner
peer_silent key s keeps p seen peer_row.Reauthentication n inner = again_silent key keeps p seen inner (context_of keeps p)
peer_silent key s keeps p seen peer_row.Success n inner = by p.state
  where
    by : (at' : PeerState) → (peer_succeeded p at').1.notes.number ≡ None
    by state.Waiting = refl
    by (state.Answered keys) = refl
    by (state.Refusing cause) = refl
    by state.Ended = refl
peer_silent key s keeps p seen (peer_row.Failure cause) n inner = refl
