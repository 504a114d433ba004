-- No turn changes a peer's options.
use Rattle.std.proofs.Common.{◌≡◌, ℕ, Bool, true, false, cond, not, List, [], Option, Some, None, refl}
use Rattle.auc_hmac.specs.declared.keys.KeySet.{KeySet}
use Rattle.auc_hmac.specs.declared.keys.Master.{Master}
use Rattle.auc_packet.specs.Received.{Seen, is_sealed}
use Rattle.auc_peer.specs.Asking.{answer_noted}
use Rattle.auc_peer.specs.Attributes.{checkcode}
use Rattle.auc_peer.specs.Subscription.{Subscription}
use Rattle.auc_peer.specs.Table.{accepted, accepting, by_answer, challenged, client, gave_up, genuine, keys_at, master_at, opened, own_code, peer_does, succeeded}
use Rattle.auc_peer.specs.declared.decrypted.Decrypted.{Decrypted}
use Rattle.auc_peer.specs.declared.decrypted.Decrypted.TheVariants as decrypted
use Rattle.auc_reauth.specs.Device.{Keeps}
use Rattle.auc_peer.specs.declared.peer.Challenge.{Challenge}
use Rattle.auc_peer.specs.Peer.{PeerEnd}
use Rattle.auc_peer.specs.declared.peer.PeerState.{PeerState}
use Rattle.auc_peer.specs.declared.peer.PeerState.TheVariants as state
use Rattle.auc_peer.specs.declared.rows.Row.{Row}
use Rattle.auc_peer.specs.declared.rows.Row.TheVariants as row
use Rattle.auc_seal.specs.Checkcode.{differs}
use Rattle.auc_vector.specs.declared.why.PeerWhy.{PeerWhy}
use Rattle.auc_vector.specs.declared.why.PeerWhy.TheVariants as why
use Rattle.auc_usim.specs.declared.answer.Answer.{Answer}
use Rattle.auc_usim.specs.declared.answer.Answer.TheVariants as answer
use Rattle.auc_vector.specs.declared.notes.UsimNote.{UsimNote}
use Rattle.auc_vector.specs.declared.notes.UsimNote.TheVariants as note
use Rattle.auc_vector.specs.declared.turn.Turn.{Turn}
use Rattle.auc_peer.proofs.ReauthLemmas.{on_reauth}

-- what holds of two turns holds of the one of them that a test picks
pub on_cond : (P : PeerEnd × Turn PeerWhy → Type 0) (b : Bool) (x y : PeerEnd × Turn PeerWhy) → P x → P y → P (cond b x y)
on_cond P true x y f g = f
on_cond P false x y f g = g

abbrev Same : PeerEnd → PeerEnd × Turn PeerWhy → Type 0
Same p t = t.0.options ≡ p.options

opened_options : (p : PeerEnd) (seen : Seen) (res sqn : List ℕ) (k : KeySet) (m : Master) (inner : Decrypted) → Same p (opened p seen res sqn k m inner)
opened_options p seen res sqn k m (decrypted.Attributes next) = refl
opened_options p seen res sqn k m decrypted.Unreadable = refl

accepted_options : (p : PeerEnd) (seen : Seen) (c : Challenge) (res sqn : List ℕ) (k : KeySet) (m : Master) (inner : Decrypted) → Same p (accepted p seen c res sqn k m inner)
accepted_options p seen c res sqn k m inner =
    on_cond (Same p) (not (is_sealed p.options.method k.k_aut [] seen)) (client p seen why.WrongMac (Some (note.Accepted sqn)) false) (genuine (accepting p seen c) seen res sqn k m inner) refl
    (on_cond (Same p) (differs (own_code p) (checkcode seen)) (client (accepting p seen c) seen why.WrongCheckcode (Some (note.Accepted sqn)) true) (opened (accepting p seen c) seen res sqn k m inner) refl
    (opened_options (accepting p seen c) seen res sqn k m inner))

answer_options : (p : PeerEnd) (seen : Seen) (c : Challenge) (a : Answer) (inner : Decrypted) → Same p (by_answer p seen c a inner)
answer_options p seen c answer.WrongMac inner = refl
answer_options p seen c (answer.SyncFailure auts sqn) inner = refl
answer_options p seen c (answer.Accepted res ck ik ak amf sqn) inner = accepted_options p seen c res sqn (keys_at p seen c ik ck) (master_at p seen c ik ck) inner

challenged_options : (s : Subscription) (p : PeerEnd) (seen : Seen) (c : Challenge) (n : Option UsimNote) (inner : Decrypted) → Same p (challenged s p seen c n inner)
challenged_options s p seen c None inner = refl
challenged_options s p seen c (Some n) inner = answer_options p seen c (answer_noted s.secret c n) inner

succeeded_options : (p : PeerEnd) (s : PeerState) → Same p (succeeded p s)
succeeded_options p (state.Answered keys) = refl
succeeded_options p state.Waiting = refl
succeeded_options p (state.Refusing cause) = refl
succeeded_options p state.Ended = refl

-- each row
pub row_options : (key : List ℕ) (s : Subscription) (keeps : Keeps) (p : PeerEnd) (seen : Seen) (r : Row) (n : Option UsimNote) (inner : Decrypted) → Same p (peer_does key s keeps p seen r n inner)
row_options key s keeps p seen (row.Ignore cause) n inner = refl
row_options key s keeps p seen row.Again n inner = refl
row_options key s keeps p seen row.First n inner = refl
row_options key s keeps p seen (row.Identity asked) n inner = refl
row_options key s keeps p seen (row.Client cause) n inner = refl
row_options key s keeps p seen (row.Reject cause) n inner = refl
row_options key s keeps p seen (row.Notified code) n inner = refl
row_options key s keeps p seen (row.Challenged c) n inner = challenged_options s p seen c n inner
row_options key s keeps p seen row.Reauthentication n inner =
    on_reauth (Same p) key keeps p seen inner refl
    (λ c e. record { missing = refl; wrong = refl; other = refl; hidden = refl; accepts = λ given counter nonce is. refl; refuses = λ given counter nonce. refl })
row_options key s keeps p seen row.Success n inner = succeeded_options p p.state
row_options key s keeps p seen (row.Failure cause) n inner = refl

-- a peer that gives up
pub gave_options : (p : PeerEnd) (s : PeerState) → (gave_up p s).0.options ≡ p.options
gave_options p state.Ended = refl
gave_options p state.Waiting = refl
gave_options p (state.Answered keys) = refl
gave_options p (state.Refusing cause) = refl
