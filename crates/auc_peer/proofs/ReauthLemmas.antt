-- For the laws: the ways in which a Reauthentication may end.
use Rattle.std.proofs.Common.{◌≡◌, ℕ, Bool, true, false, cond, not, List, [], Option, Some, None, refl}
use Rattle.auc_packet.specs.Messages.{is_missing}
use Rattle.auc_packet.specs.Received.{Seen, attrs_in, is_sealed}
use Rattle.auc_packet.specs.declared.subtype.Subtype.TheVariants as subtype
use Rattle.auc_peer.specs.Attributes.{checkcode}
use Rattle.auc_peer.specs.Table.{by_counter, client, context_of, disclosed, ignored, own_code, reauthenticated, resumed_by, resumes, resuming, small, sound, taken, with_inner}
use Rattle.auc_peer.specs.declared.decrypted.Decrypted.{Decrypted}
use Rattle.auc_peer.specs.declared.decrypted.Decrypted.TheVariants as decrypted
use Rattle.auc_peer.specs.Peer.{PeerEnd}
use Rattle.auc_seal.specs.Checkcode.{differs}
use Rattle.auc_vector.specs.declared.why.PeerWhy.{PeerWhy}
use Rattle.auc_vector.specs.declared.why.PeerWhy.TheVariants as why
use Rattle.auc_reauth.specs.Device.{Keeps, is_open}
use Rattle.auc_reauth.specs.Store.{entry}
use Rattle.auc_reauth.specs.declared.context.Context.{Context}
use Rattle.auc_request.specs.declared.enclosed.Enclosed.{Enclosed}
use Rattle.auc_vector.specs.declared.turn.Reason.TheVariants as reason
use Rattle.auc_vector.specs.declared.turn.Turn.{Turn}

-- a peer that has decrypted what a Reauthentication has encrypted
abbrev pub opening : PeerEnd → Context → Decrypted → PeerEnd
opening p c inner = with_inner (resuming p c) inner

-- a counter was accepted: AT_MAC was right, there are a counter and NONCE_S, and the counter was open
pub record IsTaken (keeps : Keeps) (p : PeerEnd) (seen : Seen) (c : Context) (given : Enclosed) (counter : ℕ) (nonce : List ℕ) : Type 0 where
  pub context : context_of keeps p ≡ Some c
  pub right : is_sealed p.options.method c.k_aut [] seen ≡ true
  pub has_counter : given.counter ≡ Some counter
  pub has_nonce : given.nonce ≡ Some nonce
  pub was_open : is_open counter (entry p.options.method keeps.contexts) ≡ true

-- something holds of each way to end with a context
pub record Ends (P : PeerEnd × Turn PeerWhy → Type 0) (key : List ℕ) (keeps : Keeps) (p : PeerEnd) (seen : Seen) (inner : Decrypted) (c : Context) : Type 0 where
  pub missing : P (client p seen why.Missing None false)
  pub wrong : P (client p seen why.WrongMac None false)
  pub other : P (client (resuming p c) seen why.WrongCheckcode None true)
  pub hidden : P (client (opening p c inner) seen why.Undecryptable None true)
  pub accepts : (given : Enclosed) (counter : ℕ) (nonce : List ℕ) → IsTaken keeps p seen c given counter nonce
      → P (taken key (opening p c (decrypted.Attributes given)) seen c given.identity counter nonce)
  pub refuses : (given : Enclosed) (counter : ℕ) (nonce : List ℕ) → P (small key (opening p c (decrypted.Attributes given)) seen c counter nonce)

-- what holds of two turns holds of the one of them that a test picks
picked : (P : PeerEnd × Turn PeerWhy → Type 0) (b : Bool) (x y : PeerEnd × Turn PeerWhy) → (b ≡ true → P x) → (b ≡ false → P y) → P (cond b x y)
picked P true x y f g = f refl
picked P false x y f g = g refl

true_if : (b : Bool) → not b ≡ false → b ≡ true
true_if true e = refl
true_if false e = absurd cc

counter_ends : (P : PeerEnd × Turn PeerWhy → Type 0) (key : List ℕ) (keeps : Keeps) (p : PeerEnd) (seen : Seen) (c : Context) (given : Enclosed) (k : Option ℕ) (n : Option (List ℕ))
    → Ends P key keeps p seen (decrypted.Attributes given) c → context_of keeps p ≡ Some c → is_sealed p.options.method c.k_aut [] seen ≡ true → given.counter ≡ k → given.nonce ≡ n
    → P (by_counter key keeps (opening p c (decrypted.Attributes given)) seen c given.identity k n)
counter_ends P key keeps p seen c given (Some counter) (Some nonce) ends is right e f =
    let q = opening p c (decrypted.Attributes given) in
    picked P (is_open counter (entry p.options.method keeps.contexts)) (taken key q seen c given.identity counter nonce) (small key q seen c counter nonce)
    (λ o. ends.accepts given counter nonce (record { context = is; right = right; has_counter = e; has_nonce = f; was_open = o }))
    (λ o. ends.refuses given counter nonce)
counter_ends P key keeps p seen c given (Some counter) None ends is right e f = ends.hidden
counter_ends P key keeps p seen c given None (Some nonce) ends is right e f = ends.hidden
counter_ends P key keeps p seen c given None None ends is right e f = ends.hidden

disclosed_ends : (P : PeerEnd × Turn PeerWhy → Type 0) (key : List ℕ) (keeps : Keeps) (p : PeerEnd) (seen : Seen) (c : Context) (inner : Decrypted)
    → Ends P key keeps p seen inner c → context_of keeps p ≡ Some c → is_sealed p.options.method c.k_aut [] seen ≡ true → P (disclosed key keeps (opening p c inner) seen c inner)
disclosed_ends P key keeps p seen c decrypted.Unreadable ends is right = ends.hidden
disclosed_ends P key keeps p seen c (decrypted.Attributes given) ends is right = counter_ends P key keeps p seen c given given.counter given.nonce ends is right refl refl

resumes_ends : (P : PeerEnd × Turn PeerWhy → Type 0) (key : List ℕ) (keeps : Keeps) (p : PeerEnd) (seen : Seen) (c : Context) (inner : Decrypted)
    → Ends P key keeps p seen inner c → context_of keeps p ≡ Some c → P (resumes key keeps p seen c inner)
resumes_ends P key keeps p seen c inner ends is =
    picked P (is_missing subtype.Reauthentication true (attrs_in seen.reading)) (client p seen why.Missing None false)
    (cond (not (is_sealed p.options.method c.k_aut [] seen)) (client p seen why.WrongMac None false) (sound key keeps (resuming p c) seen c inner)) (λ e. ends.missing)
    (λ e. picked P (not (is_sealed p.options.method c.k_aut [] seen)) (client p seen why.WrongMac None false) (sound key keeps (resuming p c) seen c inner) (λ f. ends.wrong)
    (λ f. picked P (differs (own_code p) (checkcode seen)) (client (resuming p c) seen why.WrongCheckcode None true) (disclosed key keeps (opening p c inner) seen c inner) (λ g. ends.other)
    (λ g. disclosed_ends P key keeps p seen c inner ends is (true_if (is_sealed p.options.method c.k_aut [] seen) f))))

-- what holds of each way to end holds of the turn
pub on_reauth : (P : PeerEnd × Turn PeerWhy → Type 0) (key : List ℕ) (keeps : Keeps) (p : PeerEnd) (seen : Seen) (inner : Decrypted)
    → P (ignored p reason.NoContext) → ((c : Context) → context_of keeps p ≡ Some c → Ends P key keeps p seen inner c) → P (reauthenticated key keeps p seen inner)
on_reauth P key keeps p seen inner none ends = by (context_of keeps p) refl
  where
    by : (o : Option Context) → context_of keeps p ≡ o → P (resumed_by key keeps p seen o inner)
    by None e = none
    by (Some c) e = resumes_ends P key keeps p seen c inner (ends c e) e

-- the USIM is asked nothing
pub reauth_asks_none : (key : List ℕ) (keeps : Keeps) (p : PeerEnd) (seen : Seen) (inner : Decrypted) → (reauthenticated key keeps p seen inner).1.notes.usim ≡ None
reauth_asks_none key keeps p seen inner =
    on_reauth (λ t. t.1.notes.usim ≡ None) key keeps p seen inner refl
    (λ c e. record { missing = refl; wrong = refl; other = refl; hidden = refl; accepts = λ given counter nonce is. refl; refuses = λ given counter nonce. refl })
