-- Success comes only after a right AT_MAC.
use Rattle.std.proofs.Common.{◌≡◌, ◌⊎◌, ℕ, Bool, true, false, cond, not, List, [], ◌∷◌, Option, Some, None, refl, ap, subst, ◌∙◌, inl, inr}
use Rattle.auc_hmac.specs.declared.keys.KeySet.{KeySet}
use Rattle.auc_hmac.specs.declared.keys.Master.{Master}
use Rattle.auc_packet.specs.Received.{Seen, is_sealed}
use Rattle.auc_peer.specs.Asking.{answer_noted}
use Rattle.auc_peer.specs.Attributes.{checkcode}
use Rattle.auc_peer.specs.Subscription.{Subscription}
use Rattle.auc_peer.specs.Laws.{Input, Bytes, GiveUp, after, Came, SuccessNeedsARightMac}
use Rattle.auc_peer.specs.Rows.{peer_row}
use Rattle.auc_peer.specs.Table.{accepted, accepting, by_answer, challenged, client, gave_up, genuine, keys_at, master_at, opened, own_code, peer_does, reauthenticated, succeeded, text_or_none}
use Rattle.auc_peer.specs.Told.{ToldSession}
use Rattle.auc_peer.specs.declared.decrypted.Decrypted.{Decrypted}
use Rattle.auc_peer.specs.declared.decrypted.Decrypted.TheVariants as decrypted
use Rattle.auc_reauth.specs.Device.{Keeps}
use Rattle.auc_reauth.specs.declared.context.Context.{Context}
use Rattle.auc_seal.specs.Checkcode.{differs}
use Rattle.auc_vector.specs.Keys.{reauth_keys_of}
use Rattle.auc_vector.specs.declared.turn.Reason.{Reason}
use Rattle.auc_vector.specs.declared.turn.Reason.TheVariants as reason
use Rattle.auc_peer.specs.declared.peer.Challenge.{Challenge}
use Rattle.auc_peer.specs.Peer.{PeerEnd}
use Rattle.auc_peer.specs.declared.peer.PeerState.{PeerState}
use Rattle.auc_peer.specs.declared.peer.PeerState.TheVariants as state
use Rattle.auc_peer.specs.declared.rows.Row.{Row}
use Rattle.auc_peer.specs.declared.rows.Row.TheVariants as row
use Rattle.auc_vector.specs.declared.turn.Outcome.TheVariants as outcome
use Rattle.auc_vector.specs.declared.why.PeerWhy.{PeerWhy}
use Rattle.auc_vector.specs.declared.why.PeerWhy.TheVariants as why
use Rattle.auc_vector.specs.declared.turn.Step.{Step}
use Rattle.auc_vector.specs.declared.turn.Step.TheVariants as step
use Rattle.auc_vector.specs.declared.turn.Turn.{Turn}
use Rattle.auc_vector.specs.declared.notes.UsimNote.{UsimNote}
use Rattle.auc_vector.specs.declared.notes.UsimNote.TheVariants as note
use Rattle.auc_usim.specs.declared.answer.Answer.{Answer}
use Rattle.auc_usim.specs.declared.answer.Answer.TheVariants as answer
use Rattle.auc_peer.proofs.OptionLemmas.{gave_options, row_options}
use Rattle.auc_peer.proofs.ReauthLemmas.{on_reauth}

-- which of two turns it was
pick : (P : PeerEnd × Turn PeerWhy → Type 0) (b : Bool) (x y : PeerEnd × Turn PeerWhy) → P (cond b x y) → ((b ≡ true) × P x) ⊎ ((b ≡ false) × P y)
pick P true x y e = inl (refl, e)
pick P false x y e = inr (refl, e)

true_if : (b : Bool) → not b ≡ false → b ≡ true
true_if true e = refl
true_if false e = absurd cc

abbrev IsAnswered : KeySet → PeerEnd × Turn PeerWhy → Type 0
IsAnswered keys t = t.0.state ≡ state.Answered keys

-- ---- a turn that ends in Answered

refusing : (keys : KeySet) (w : PeerWhy) → state.Refusing w ≡ state.Answered keys → ⊥
refusing keys w e = cc

-- the keys that a turn ends with are those that it was given
opened_keys : (p : PeerEnd) (seen : Seen) (res sqn : List ℕ) (k keys : KeySet) (m : Master) (inner : Decrypted) → IsAnswered keys (opened p seen res sqn k m inner) → k ≡ keys
opened_keys p seen res sqn k keys m (decrypted.Attributes next) e = cc
opened_keys p seen res sqn k keys m decrypted.Unreadable e = absurd cc

genuine_keys : (p : PeerEnd) (seen : Seen) (res sqn : List ℕ) (k keys : KeySet) (m : Master) (inner : Decrypted) → IsAnswered keys (genuine p seen res sqn k m inner) → k ≡ keys
genuine_keys p seen res sqn k keys m inner e =
    elim (pick (IsAnswered keys) (differs (own_code p) (checkcode seen)) (client p seen why.WrongCheckcode (Some (note.Accepted sqn)) true) (opened p seen res sqn k m inner) e) [
      | inl h ↦ absurd (refusing keys why.WrongCheckcode h.1)
      | inr h ↦ opened_keys p seen res sqn k keys m inner h.1
    ]

-- a Challenge that was answered had a right AT_MAC
accepted_right : (p : PeerEnd) (seen : Seen) (c : Challenge) (res sqn : List ℕ) (k keys : KeySet) (m : Master) (inner : Decrypted) → IsAnswered keys (accepted p seen c res sqn k m inner) → is_sealed p.options.method keys.k_aut [] seen ≡ true
accepted_right p seen c res sqn k keys m inner e =
    elim (pick (IsAnswered keys) (not (is_sealed p.options.method k.k_aut [] seen)) (client p seen why.WrongMac (Some (note.Accepted sqn)) false) (genuine (accepting p seen c) seen res sqn k m inner) e) [
      | inl h ↦ absurd (refusing keys why.WrongMac h.1)
      | inr h ↦
          subst (λ (x : KeySet). is_sealed p.options.method x.k_aut [] seen ≡ true) (genuine_keys (accepting p seen c) seen res sqn k keys m inner h.1)
          (true_if (is_sealed p.options.method k.k_aut [] seen) h.0)
    ]

answer_right : (p : PeerEnd) (seen : Seen) (c : Challenge) (a : Answer) (keys : KeySet) (inner : Decrypted) → IsAnswered keys (by_answer p seen c a inner) → is_sealed p.options.method keys.k_aut [] seen ≡ true
answer_right p seen c answer.WrongMac keys inner e = absurd cc
answer_right p seen c (answer.SyncFailure auts sqn) keys inner e = absurd cc
answer_right p seen c (answer.Accepted res ck ik ak amf sqn) keys inner e = accepted_right p seen c res sqn (keys_at p seen c ik ck) keys (master_at p seen c ik ck) inner e

abbrev Right : KeySet → PeerEnd → Seen → Type 0
Right keys p seen = (p.state ≡ state.Answered keys) ⊎ (is_sealed p.options.method keys.k_aut [] seen ≡ true)

challenged_right : (s : Subscription) (p : PeerEnd) (seen : Seen) (c : Challenge) (n : Option UsimNote) (keys : KeySet) (inner : Decrypted) → IsAnswered keys (challenged s p seen c n inner) → Right keys p seen
challenged_right s p seen c None keys inner e = inl e
challenged_right s p seen c (Some n) keys inner e = inr (answer_right p seen c (answer_noted s.secret c n) keys inner e)

succeeded_right : (p : PeerEnd) (seen : Seen) (s : PeerState) (keys : KeySet) → IsAnswered keys (succeeded p s) → Right keys p seen
succeeded_right p seen (state.Answered k) keys e = absurd cc
succeeded_right p seen state.Waiting keys e = inl e
succeeded_right p seen (state.Refusing cause) keys e = inl e
succeeded_right p seen state.Ended keys e = inl e

abbrev k_aut_in : PeerState → List ℕ
k_aut_in (state.Answered k) = k.k_aut
k_aut_in other = []

-- a counter that was accepted came with a right AT_MAC
taken_keys : (c : Context) (text nonce : List ℕ) (counter : ℕ) (keys : KeySet) → state.Answered (reauth_keys_of c.k_encr c.k_aut c.master text counter nonce) ≡ state.Answered keys → c.k_aut ≡ keys.k_aut
taken_keys c text nonce counter keys e = ap k_aut_in e

reauth_right : (key : List ℕ) (keeps : Keeps) (p : PeerEnd) (seen : Seen) (inner : Decrypted) (keys : KeySet) → IsAnswered keys (reauthenticated key keeps p seen inner) → Right keys p seen
reauth_right key keeps p seen inner keys =
    on_reauth (λ t. IsAnswered keys t → Right keys p seen) key keeps p seen inner (λ e. inl e)
    (λ c here. record {
      missing = λ e. absurd (refusing keys why.Missing e);
      wrong = λ e. absurd (refusing keys why.WrongMac e);
      other = λ e. absurd (refusing keys why.WrongCheckcode e);
      hidden = λ e. absurd (refusing keys why.Undecryptable e);
      accepts = λ given counter nonce is e. inr (subst (λ (k_aut : List ℕ). is_sealed p.options.method k_aut [] seen ≡ true) (taken_keys c (text_or_none p.identity) nonce counter keys e) is.right);
      refuses = λ given counter nonce e. absurd cc;
    })

-- a turn that ends in Answered began there, or had a right AT_MAC
row_right : (key : List ℕ) (s : Subscription) (keeps : Keeps) (p : PeerEnd) (seen : Seen) (r : Row) (n : Option UsimNote) (inner : Decrypted) (keys : KeySet) → IsAnswered keys (peer_does key s keeps p seen r n inner) → Right keys p seen
row_right key s keeps p seen (row.Ignore cause) n inner keys e = inl e
row_right key s keeps p seen row.Again n inner keys e = inl e
row_right key s keeps p seen row.First n inner keys e = absurd cc
row_right key s keeps p seen (row.Identity asked) n inner keys e = absurd cc
row_right key s keeps p seen (row.Client cause) n inner keys e = absurd cc
row_right key s keeps p seen (row.Reject cause) n inner keys e = absurd cc
row_right key s keeps p seen (row.Notified code) n inner keys e = absurd cc
row_right key s keeps p seen (row.Challenged c) n inner keys e = challenged_right s p seen c n keys inner e
row_right key s keeps p seen row.Reauthentication n inner keys e = reauth_right key keeps p seen inner keys e
row_right key s keeps p seen row.Success n inner keys e = succeeded_right p seen p.state keys e
row_right key s keeps p seen (row.Failure cause) n inner keys e = absurd cc

-- ---- a turn that ends in Success

abbrev IsSuccess : KeySet → List ℕ → PeerEnd × Turn PeerWhy → Type 0
IsSuccess keys bytes t = t.1.step ≡ step.Ended (outcome.Success keys) bytes

-- no answer ends a session in Success
opened_none : (p : PeerEnd) (seen : Seen) (res sqn bytes : List ℕ) (k keys : KeySet) (m : Master) (inner : Decrypted) → IsSuccess keys bytes (opened p seen res sqn k m inner) → ⊥
opened_none p seen res sqn bytes k keys m (decrypted.Attributes next) e = cc
opened_none p seen res sqn bytes k keys m decrypted.Unreadable e = cc

picked_none : (keys : KeySet) (bytes : List ℕ) (b : Bool) (x y : PeerEnd × Turn PeerWhy) → (IsSuccess keys bytes x → ⊥) → (IsSuccess keys bytes y → ⊥) → IsSuccess keys bytes (cond b x y) → ⊥
picked_none keys bytes true x y f g e = f e
picked_none keys bytes false x y f g e = g e

sent_none : (keys : KeySet) (bytes sent : List ℕ) → ◌≡◌ {A = Step PeerWhy} (step.Sent sent) (step.Ended (outcome.Success keys) bytes) → ⊥
sent_none keys bytes sent e = cc

answer_none : (p : PeerEnd) (seen : Seen) (c : Challenge) (a : Answer) (keys : KeySet) (bytes : List ℕ) (inner : Decrypted) → IsSuccess keys bytes (by_answer p seen c a inner) → ⊥
answer_none p seen c answer.WrongMac keys bytes inner e = cc
answer_none p seen c (answer.SyncFailure auts sqn) keys bytes inner e = cc
answer_none p seen c (answer.Accepted res ck ik ak amf sqn) keys bytes inner e =
    let k = keys_at p seen c ik ck in
    let m = master_at p seen c ik ck in
    picked_none keys bytes (not (is_sealed p.options.method k.k_aut [] seen)) (client p seen why.WrongMac (Some (note.Accepted sqn)) false) (genuine (accepting p seen c) seen res sqn k m inner)
    (sent_none keys bytes _)
    (picked_none keys bytes (differs (own_code p) (checkcode seen)) (client (accepting p seen c) seen why.WrongCheckcode (Some (note.Accepted sqn)) true) (opened (accepting p seen c) seen res sqn k m inner)
    (sent_none keys bytes _) (opened_none (accepting p seen c) seen res sqn bytes k keys m inner)) e

success_in : (p : PeerEnd) (s : PeerState) (keys : KeySet) (bytes : List ℕ) → IsSuccess keys bytes (succeeded p s) → s ≡ state.Answered keys
success_in p (state.Answered k) keys bytes e = cc
success_in p state.Waiting keys bytes e = absurd cc
success_in p (state.Refusing cause) keys bytes e = absurd cc
success_in p state.Ended keys bytes e = absurd cc

pub challenged_none : (s : Subscription) (p : PeerEnd) (seen : Seen) (c : Challenge) (n : Option UsimNote) (keys : KeySet) (bytes : List ℕ) (inner : Decrypted) → IsSuccess keys bytes (challenged s p seen c n inner) → ⊥
challenged_none s p seen c None keys bytes inner e = cc
challenged_none s p seen c (Some n) keys bytes inner e = answer_none p seen c (answer_noted s.secret c n) keys bytes inner e

ignored_none : (keys : KeySet) (bytes : List ℕ) (cause : Reason) → ◌≡◌ {A = Step PeerWhy} (step.Ignored cause) (step.Ended (outcome.Success keys) bytes) → ⊥
ignored_none keys bytes cause e = cc

pub reauth_none : (key : List ℕ) (keeps : Keeps) (p : PeerEnd) (seen : Seen) (inner : Decrypted) (keys : KeySet) (bytes : List ℕ) → IsSuccess keys bytes (reauthenticated key keeps p seen inner) → ⊥
reauth_none key keeps p seen inner keys bytes =
    on_reauth (λ t. IsSuccess keys bytes t → ⊥) key keeps p seen inner (ignored_none keys bytes reason.NoContext)
    (λ c here. record {
      missing = sent_none keys bytes _;
      wrong = sent_none keys bytes _;
      other = sent_none keys bytes _;
      hidden = sent_none keys bytes _;
      accepts = λ given counter nonce is. sent_none keys bytes _;
      refuses = λ given counter nonce. sent_none keys bytes _;
    })

-- a turn that ends in Success began in Answered
pub row_success : (key : List ℕ) (s : Subscription) (keeps : Keeps) (p : PeerEnd) (seen : Seen) (r : Row) (n : Option UsimNote) (inner : Decrypted) (keys : KeySet) (bytes : List ℕ) → IsSuccess keys bytes (peer_does key s keeps p seen r n inner) → p.state ≡ state.Answered keys
row_success key s keeps p seen (row.Ignore cause) n inner keys bytes e = absurd cc
row_success key s keeps p seen row.Again n inner keys bytes e = absurd cc
row_success key s keeps p seen row.First n inner keys bytes e = absurd cc
row_success key s keeps p seen (row.Identity asked) n inner keys bytes e = absurd cc
row_success key s keeps p seen (row.Client cause) n inner keys bytes e = absurd cc
row_success key s keeps p seen (row.Reject cause) n inner keys bytes e = absurd cc
row_success key s keeps p seen (row.Notified code) n inner keys bytes e = absurd cc
row_success key s keeps p seen (row.Challenged c) n inner keys bytes e = absurd (challenged_none s p seen c n keys bytes inner e)
row_success key s keeps p seen row.Reauthentication n inner keys bytes e = absurd (reauth_none key keeps p seen inner keys bytes e)
row_success key s keeps p seen row.Success n inner keys bytes e = success_in p p.state keys bytes e
row_success key s keeps p seen (row.Failure cause) n inner keys bytes e = absurd cc

-- ---- over all inputs

gave_none : (p : PeerEnd) (s : PeerState) (keys : KeySet) → p.state ≡ s → (gave_up p s).0.state ≡ state.Answered keys → ⊥
gave_none p state.Ended keys f e = cc
gave_none p state.Waiting keys f e = cc
gave_none p (state.Answered k) keys f e = cc
gave_none p (state.Refusing cause) keys f e = cc

-- a peer after some inputs has the options that it began with
after_options : (o : ToldSession) (before : List Input) → (after o before).options ≡ o
after_options o [] = refl
after_options o (Bytes key s keeps seen n inner ∷ before) =
    row_options key s keeps (after o before) seen (peer_row (after o before) seen) n inner ∙ after_options o before
after_options o (GiveUp ∷ before) = gave_options (after o before) (after o before).state ∙ after_options o before

-- a peer in Answered has received a right AT_MAC
came : (o : ToldSession) (keys : KeySet) (before : List Input) → (after o before).state ≡ state.Answered keys → Came o.method keys before
came o keys [] e = absurd cc
came o keys (Bytes key s keeps seen n inner ∷ before) e =
    elim (row_right key s keeps (after o before) seen (peer_row (after o before) seen) n inner keys e) [
      | inl h ↦ inr (came o keys before h)
      | inr h ↦ inl (subst (λ (x : ToldSession). is_sealed x.method keys.k_aut [] seen ≡ true) (after_options o before) h)
    ]
came o keys (GiveUp ∷ before) e = absurd (gave_none (after o before) (after o before).state keys refl e)

-- Success needs a right AT_MAC
pub success_needs : SuccessNeedsARightMac
success_needs o before key s keeps seen n inner keys bytes e =
    came o keys before (row_success key s keeps (after o before) seen (peer_row (after o before) seen) n inner keys bytes e)
