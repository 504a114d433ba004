-- For on_row: what a turn sends is the answer that the peer keeps.
use Rattle.std.proofs.Common.{ℕ, true, false, not, List, [], Some, refl}
use Rattle.auc_hmac.specs.declared.keys.KeySet.{KeySet}
use Rattle.auc_hmac.specs.declared.keys.Master.{Master}
use Rattle.auc_packet.specs.Received.{Seen, is_sealed}
use Rattle.auc_peer.specs.Attributes.{checkcode}
use Rattle.auc_peer.specs.Peer.{PeerEnd}
use Rattle.auc_peer.specs.Table.{accepted, accepting, by_answer, client, genuine, keys_at, master_at, opened, own_code, reauthenticated, succeeded}
use Rattle.auc_peer.specs.Turn.{SendsLast}
use Rattle.auc_peer.specs.declared.decrypted.Decrypted.{Decrypted}
use Rattle.auc_peer.specs.declared.decrypted.Decrypted.TheVariants as decrypted
use Rattle.auc_peer.specs.declared.peer.Challenge.{Challenge}
use Rattle.auc_peer.specs.declared.peer.PeerState.{PeerState}
use Rattle.auc_peer.specs.declared.peer.PeerState.TheVariants as state
use Rattle.auc_seal.specs.Checkcode.{differs}
use Rattle.auc_vector.specs.declared.why.PeerWhy.{PeerWhy}
use Rattle.auc_vector.specs.declared.why.PeerWhy.TheVariants as why
use Rattle.auc_reauth.specs.Device.{Keeps}
use Rattle.auc_usim.specs.declared.answer.Answer.{Answer}
use Rattle.auc_usim.specs.declared.answer.Answer.TheVariants as answer
use Rattle.auc_vector.specs.declared.notes.UsimNote.TheVariants as note
use Rattle.auc_vector.specs.declared.turn.Turn.{Turn}
use Rattle.auc_peer.proofs.OptionLemmas.{on_cond}
use Rattle.auc_peer.proofs.ReauthLemmas.{on_reauth}

-- a turn sends the last answer of the peer after it
abbrev pub Sends : PeerEnd × Turn PeerWhy → Type 0
Sends t = SendsLast t.0.last t.1.step

opened_sends : (p : PeerEnd) (seen : Seen) (res sqn : List ℕ) (k : KeySet) (m : Master) (inner : Decrypted) → Sends (opened p seen res sqn k m inner)
opened_sends p seen res sqn k m (decrypted.Attributes next) = refl
opened_sends p seen res sqn k m decrypted.Unreadable = refl

accepted_sends : (p : PeerEnd) (seen : Seen) (c : Challenge) (res sqn : List ℕ) (k : KeySet) (m : Master) (inner : Decrypted) → Sends (accepted p seen c res sqn k m inner)
accepted_sends p seen c res sqn k m inner =
    on_cond Sends (not (is_sealed p.options.method k.k_aut [] seen)) (client p seen why.WrongMac (Some (note.Accepted sqn)) false) (genuine (accepting p seen c) seen res sqn k m inner) refl
    (on_cond Sends (differs (own_code p) (checkcode seen)) (client (accepting p seen c) seen why.WrongCheckcode (Some (note.Accepted sqn)) true) (opened (accepting p seen c) seen res sqn k m inner) refl
    (opened_sends (accepting p seen c) seen res sqn k m inner))

-- a Challenge, whatever the USIM answers
pub answer_sends : (p : PeerEnd) (seen : Seen) (c : Challenge) (a : Answer) (inner : Decrypted) → Sends (by_answer p seen c a inner)
answer_sends p seen c answer.WrongMac inner = refl
answer_sends p seen c (answer.SyncFailure auts sqn) inner = refl
answer_sends p seen c (answer.Accepted res ck ik ak amf sqn) inner = accepted_sends p seen c res sqn (keys_at p seen c ik ck) (master_at p seen c ik ck) inner

-- a Reauthentication
pub reauth_sends : (key : List ℕ) (keeps : Keeps) (p : PeerEnd) (seen : Seen) (inner : Decrypted) → Sends (reauthenticated key keeps p seen inner)
reauth_sends key keeps p seen inner =
    on_reauth Sends key keeps p seen inner tt
    (λ c e. record { missing = refl; wrong = refl; other = refl; hidden = refl; accepts = λ given counter nonce is. refl; refuses = λ given counter nonce. refl })

-- Success
pub succeeded_sends : (p : PeerEnd) (s : PeerState) → Sends (succeeded p s)
succeeded_sends p (state.Answered keys) = refl
succeeded_sends p state.Waiting = tt
succeeded_sends p (state.Refusing cause) = tt
succeeded_sends p state.Ended = tt
