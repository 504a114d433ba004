-- No turn makes a peer's keys others than those of its inputs.
use Rattle.std.proofs.Common.{◌≡◌, ℕ, Bool, true, false, not, List, [], Option, Some, None, refl}
use Rattle.auc_hmac.specs.declared.keys.KeySet.{KeySet}
use Rattle.auc_hmac.specs.declared.keys.Master.{Master}
use Rattle.auc_packet.specs.Received.{Seen, is_sealed}
use Rattle.auc_milenage.specs.Milenage.{f2, f3, f4}
use Rattle.auc_seal.specs.Checkcode.{differs}
use Rattle.auc_usim.specs.Usim.{acceptance, sqn_in}
use Rattle.auc_peer.specs.Laws.{Fits, keys_of_inputs, EachTurnFits}
use Rattle.auc_peer.specs.Attributes.{checkcode}
use Rattle.auc_peer.specs.Subscription.{Subscription}
use Rattle.auc_peer.specs.Rows.{peer_row}
use Rattle.auc_peer.specs.Table.{accepted, accepting, challenged, client, genuine, master_at, network_in, opened, own_code, peer_does, reauthenticated, resuming, succeeded, text_or_none, with_inner}
use Rattle.auc_peer.specs.declared.decrypted.Decrypted.{Decrypted}
use Rattle.auc_peer.specs.declared.decrypted.Decrypted.TheVariants as decrypted
use Rattle.auc_reauth.specs.Device.{Keeps}
use Rattle.auc_reauth.specs.declared.context.Context.{Context}
use Rattle.auc_vector.specs.Keys.{reauth_keys_of}
use Rattle.auc_peer.specs.declared.peer.Challenge.{Challenge}
use Rattle.auc_peer.specs.Peer.{PeerEnd}
use Rattle.auc_peer.specs.declared.peer.PeerState.{PeerState}
use Rattle.auc_peer.specs.declared.peer.PeerState.TheVariants as state
use Rattle.auc_peer.specs.declared.rows.Row.{Row}
use Rattle.auc_peer.specs.declared.rows.Row.TheVariants as row
use Rattle.auc_vector.specs.declared.why.PeerWhy.{PeerWhy}
use Rattle.auc_vector.specs.declared.why.PeerWhy.TheVariants as why
use Rattle.auc_vector.specs.declared.turn.Turn.{Turn}
use Rattle.auc_peer.proofs.OptionLemmas.{on_cond}
use Rattle.auc_peer.proofs.ReauthLemmas.{on_reauth, opening}
use Rattle.auc_vector.specs.declared.notes.UsimNote.{UsimNote}
use Rattle.auc_vector.specs.declared.notes.UsimNote.TheVariants as note

abbrev Fit : Subscription → PeerEnd × Turn PeerWhy → Type 0
Fit s t = Fits s t.0

refused : (keys : KeySet) (w : PeerWhy) → state.Refusing w ≡ state.Answered keys → ⊥
refused keys w e = cc

-- a peer that refuses has no keys
client_fits : (s : Subscription) (p : PeerEnd) (seen : Seen) (w : PeerWhy) (n : Option UsimNote) (checked : Bool) → Fit s (client p seen w n checked)
client_fits s p seen w n checked = λ keys e. absurd (refused keys w e)

same_keys : (k keys : KeySet) → state.Answered k ≡ state.Answered keys → keys ≡ k
same_keys k keys e = cc

-- a Challenge whose AT_MAC and AT_CHECKCODE were right
opened_fits : (s : Subscription) (p : PeerEnd) (seen : Seen) (c : Challenge) (res sqn : List ℕ) (m : Master) (inner : Decrypted)
    → Fit s (opened (accepting p seen c) seen res sqn (keys_of_inputs s p.options.method (network_in p seen) c (text_or_none p.identity)) m inner)
opened_fits s p seen c res sqn m (decrypted.Attributes next) = λ keys e. record { challenge = c; was_accepted = refl; same = same_keys (keys_of_inputs s p.options.method (network_in p seen) c (text_or_none p.identity)) keys e }
opened_fits s p seen c res sqn m decrypted.Unreadable = client_fits s (with_inner (accepting p seen c) decrypted.Unreadable) seen why.Undecryptable (Some (note.Accepted sqn)) true

-- a Challenge that the USIM accepted
accepted_fits : (s : Subscription) (p : PeerEnd) (seen : Seen) (c : Challenge) (res sqn : List ℕ) (m : Master) (inner : Decrypted)
    → Fit s (accepted p seen c res sqn (keys_of_inputs s p.options.method (network_in p seen) c (text_or_none p.identity)) m inner)
accepted_fits s p seen c res sqn m inner =
    let k = keys_of_inputs s p.options.method (network_in p seen) c (text_or_none p.identity) in
    on_cond (Fit s) (not (is_sealed p.options.method k.k_aut [] seen)) (client p seen why.WrongMac (Some (note.Accepted sqn)) false) (genuine (accepting p seen c) seen res sqn k m inner)
    (client_fits s p seen why.WrongMac (Some (note.Accepted sqn)) false)
    (on_cond (Fit s) (differs (own_code p) (checkcode seen)) (client (accepting p seen c) seen why.WrongCheckcode (Some (note.Accepted sqn)) true) (opened (accepting p seen c) seen res sqn k m inner)
    (client_fits s (accepting p seen c) seen why.WrongCheckcode (Some (note.Accepted sqn)) true) (opened_fits s p seen c res sqn m inner))

-- a Challenge
challenged_fits : (s : Subscription) (p : PeerEnd) (seen : Seen) (c : Challenge) (n : Option UsimNote) (inner : Decrypted) → Fits s p → Fit s (challenged s p seen c n inner)
unfolding acceptance
challenged_fits s p seen c None inner f = f
challenged_fits s p seen c (Some note.WrongMac) inner f = λ keys e. absurd cc
challenged_fits s p seen c (Some (note.Sync sqn)) inner f = λ keys e. absurd cc
challenged_fits s p seen c (Some (note.Accepted sqn)) inner f =
    accepted_fits s p seen c (f2 s.secret.k s.secret.opc c.rand) (sqn_in s.secret c.rand c.autn)
    (master_at p seen c (f4 s.secret.k s.secret.opc c.rand) (f3 s.secret.k s.secret.opc c.rand)) inner

-- Success
succeeded_fits : (s : Subscription) (p : PeerEnd) (at' : PeerState) → Fits s p → Fit s (succeeded p at')
succeeded_fits s p (state.Answered k) f = λ keys e. absurd cc
succeeded_fits s p state.Waiting f = f
succeeded_fits s p (state.Refusing cause) f = f
succeeded_fits s p state.Ended f = f

-- a fast re-authentication
taken_keys : (c : Context) (text nonce : List ℕ) (counter : ℕ) (keys : KeySet) → state.Answered (reauth_keys_of c.k_encr c.k_aut c.master text counter nonce) ≡ state.Answered keys
    → keys ≡ reauth_keys_of c.k_encr c.k_aut c.master text counter nonce
taken_keys c text nonce counter keys e = cc

reauth_fits : (key : List ℕ) (s : Subscription) (keeps : Keeps) (p : PeerEnd) (seen : Seen) (inner : Decrypted) → Fits s p → Fit s (reauthenticated key keeps p seen inner)
reauth_fits key s keeps p seen inner f =
    on_reauth (Fit s) key keeps p seen inner f
    (λ c e. record {
      missing = client_fits s p seen why.Missing None false;
      wrong = client_fits s p seen why.WrongMac None false;
      other = client_fits s (resuming p c) seen why.WrongCheckcode None true;
      hidden = client_fits s (opening p c inner) seen why.Undecryptable None true;
      accepts = λ given counter nonce is keys same. record {
        given = given;
        decrypted = refl;
        counter = counter;
        has_counter = is.has_counter;
        nonce = nonce;
        has_nonce = is.has_nonce;
        same = taken_keys c (text_or_none p.identity) nonce counter keys same;
      };
      refuses = λ given counter nonce keys same. absurd cc;
    })

-- each row
row_fits : (key : List ℕ) (s : Subscription) (keeps : Keeps) (p : PeerEnd) (seen : Seen) (r : Row) (n : Option UsimNote) (inner : Decrypted) → Fits s p → Fit s (peer_does key s keeps p seen r n inner)
row_fits key s keeps p seen (row.Ignore cause) n inner f = f
row_fits key s keeps p seen row.Again n inner f = f
row_fits key s keeps p seen row.First n inner f = λ keys e. absurd cc
row_fits key s keeps p seen (row.Identity asked) n inner f = λ keys e. absurd cc
row_fits key s keeps p seen (row.Client cause) n inner f = client_fits s p seen cause None false
row_fits key s keeps p seen (row.Reject cause) n inner f = λ keys e. absurd (refused keys cause e)
row_fits key s keeps p seen (row.Notified code) n inner f = λ keys e. absurd cc
row_fits key s keeps p seen (row.Challenged c) n inner f = challenged_fits s p seen c n inner f
row_fits key s keeps p seen row.Reauthentication n inner f = reauth_fits key s keeps p seen inner f
row_fits key s keeps p seen row.Success n inner f = succeeded_fits s p p.state f
row_fits key s keeps p seen (row.Failure cause) n inner f = λ keys e. absurd cc

-- each turn
pub each_turn_fits : EachTurnFits
each_turn_fits key s keeps p seen n inner f = row_fits key s keeps p seen (peer_row p seen) n inner f
