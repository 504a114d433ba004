-- For Agreement: a peer that has keys of a fast re-authentication has read a Reauthentication.
use Rattle.std.proofs.Common.{◌≡◌, ◌⊎◌, ℕ, Bool, true, false, not, if◌then◌else◌, List, [], Option, Some, None, refl, sym, ap, ◌∙◌, subst, inl, inr}
use Rattle.auc_hmac.specs.declared.keys.KeySet.{KeySet}
use Rattle.auc_hmac.specs.declared.keys.Master.{Master}
use Rattle.auc_packet.specs.Messages.{is_missing}
use Rattle.auc_packet.specs.Received.{Seen, attrs_in, is_sealed}
use Rattle.auc_packet.specs.declared.subtype.Subtype.TheVariants as subtype
use Rattle.auc_peer.specs.Asking.{answer_noted}
use Rattle.auc_peer.specs.Attributes.{checkcode}
use Rattle.auc_peer.specs.Rows.{peer_row}
use Rattle.auc_peer.specs.Subscription.{Subscription}
use Rattle.auc_peer.specs.Table.{accepted, accepting, by_answer, by_counter, challenged, client, context_of, disclosed, genuine, keys_at, master_at, opened, own_code, peer_does, peer_step, resumed_by, resuming, small, succeeded, taken, text_or_none, with_inner}
use Rattle.auc_peer.specs.Turn.{Decryption, Decrypts, decryption_made, decryption_resumed}
use Rattle.auc_peer.specs.declared.decrypted.Decrypted.{Decrypted}
use Rattle.auc_peer.specs.declared.decrypted.Decrypted.TheVariants as decrypted
use Rattle.auc_peer.specs.declared.peer.Challenge.{Challenge}
use Rattle.auc_peer.specs.declared.peer.Peer.{Peer}
use Rattle.auc_peer.specs.Peer.{resumed_from}
use Rattle.auc_peer.specs.declared.peer.PeerState.{PeerState}
use Rattle.auc_peer.specs.declared.peer.PeerState.TheVariants as state
use Rattle.auc_peer.specs.declared.rows.Row.{Row}
use Rattle.auc_peer.specs.declared.rows.Row.TheVariants as row
use Rattle.auc_seal.specs.Checkcode.{differs}
use Rattle.auc_vector.specs.declared.why.PeerWhy.{PeerWhy}
use Rattle.auc_vector.specs.declared.why.PeerWhy.TheVariants as why
use Rattle.auc_reauth.specs.Device.{Keeps, is_open}
use Rattle.auc_reauth.specs.Store.{entry}
use Rattle.auc_reauth.specs.declared.context.Context.{Context}
use Rattle.auc_request.specs.declared.enclosed.Enclosed.{Enclosed}
use Rattle.auc_usim.specs.declared.answer.Answer.{Answer}
use Rattle.auc_usim.specs.declared.answer.Answer.TheVariants as answer
use Rattle.auc_vector.specs.Keys.{reauth_keys_of}
use Rattle.auc_vector.specs.declared.notes.UsimNote.{UsimNote}
use Rattle.auc_vector.specs.declared.notes.UsimNote.TheVariants as note
use Rattle.auc_vector.specs.declared.turn.Turn.{Turn}

-- a peer took a Reauthentication: it has what it must have, and the keys are those of what was decrypted
pub record Takes (p : Peer) (t : Peer × Turn PeerWhy) (seen : Seen) (inner : Decrypted) (c : Context) (keys : KeySet) : Type 0 where
  pub checked : t.1.checked ≡ true
  pub identity : t.0.identity ≡ p.identity
  pub options : t.0.options ≡ p.options
  pub complete : is_missing subtype.Reauthentication true (attrs_in seen.reading) ≡ false
  pub given : Enclosed
  pub attributes : inner ≡ decrypted.Attributes given
  pub decrypts : Decrypts (Some (record { k_encr = c.k_encr; list = attrs_in seen.reading })) inner
  pub counter : ℕ
  pub has_counter : given.counter ≡ Some counter
  pub nonce : List ℕ
  pub has_nonce : given.nonce ≡ Some nonce
  pub same : keys ≡ reauth_keys_of c.k_encr c.k_aut c.master (text_or_none p.identity) counter nonce

-- it had the keys before, or takes a Reauthentication
abbrev pub HasOrTakes : Peer → Peer × Turn PeerWhy → Seen → Decrypted → Context → KeySet → Type 0
HasOrTakes p t seen inner c keys = (p.state ≡ state.Answered keys) ⊎ Takes p t seen inner c keys

abbrev Has : Peer × Turn PeerWhy → Context → KeySet → Type 0
Has t c keys = (t.0.state ≡ state.Answered keys) × (resumed_from t.0.source ≡ Some c)

refuses : (cause : PeerWhy) (keys : KeySet) → state.Refusing cause ≡ state.Answered keys → ⊥
refuses cause keys e = cc

waits : (keys : KeySet) → state.Waiting ≡ state.Answered keys → ⊥
waits keys e = cc

over : (keys : KeySet) → state.Ended ≡ state.Answered keys → ⊥
over keys e = cc

no_context : (c : Context) → ◌≡◌ {A = Option Context} None (Some c) → ⊥
no_context c e = cc

same_keys : (a b : KeySet) → state.Answered a ≡ state.Answered b → b ≡ a
same_keys a b e = cc

same_context : (a b : Context) → ◌≡◌ {A = Option Context} (Some a) (Some b) → a ≡ b
same_context a b e = cc

-- ---- a Challenge leaves no context

opened_leaves : (p : Peer) (seen : Seen) (res sqn : List ℕ) (own : KeySet) (m : Master) (inner : Decrypted) (c : Context) (keys : KeySet) → resumed_from p.source ≡ None
    → Has (opened p seen res sqn own m inner) c keys → ⊥
opened_leaves p seen res sqn own m decrypted.Unreadable c keys none (e, f) = refuses why.Undecryptable keys e
opened_leaves p seen res sqn own m (decrypted.Attributes given) c keys none (e, f) = no_context c (sym none ∙ f)

genuine_leaves : (p : Peer) (seen : Seen) (res sqn : List ℕ) (own : KeySet) (m : Master) (inner : Decrypted) (c : Context) (keys : KeySet) → resumed_from p.source ≡ None
    → Has (genuine p seen res sqn own m inner) c keys → ⊥
genuine_leaves p seen res sqn own m inner c keys none has = by (differs (own_code p) (checkcode seen)) has
  where
    by : (b : Bool) → Has (if b then client p seen why.WrongCheckcode (Some (note.Accepted sqn)) true else opened p seen res sqn own m inner) c keys → ⊥
    by true (e, f) = refuses why.WrongCheckcode keys e
    by false has = opened_leaves p seen res sqn own m inner c keys none has

accepted_leaves : (p : Peer) (seen : Seen) (a : Challenge) (res sqn : List ℕ) (own : KeySet) (m : Master) (inner : Decrypted) (c : Context) (keys : KeySet)
    → Has (accepted p seen a res sqn own m inner) c keys → ⊥
accepted_leaves p seen a res sqn own m inner c keys has = by (not (is_sealed p.options.method own.k_aut [] seen)) has
  where
    by : (b : Bool) → Has (if b then client p seen why.WrongMac (Some (note.Accepted sqn)) false else genuine (accepting p seen a) seen res sqn own m inner) c keys → ⊥
    by true (e, f) = refuses why.WrongMac keys e
    by false has = genuine_leaves (accepting p seen a) seen res sqn own m inner c keys refl has

answer_leaves : (p : Peer) (seen : Seen) (a : Challenge) (x : Answer) (inner : Decrypted) (c : Context) (keys : KeySet) → Has (by_answer p seen a x inner) c keys → ⊥
answer_leaves p seen a answer.WrongMac inner c keys (e, f) = refuses why.WrongAutn keys e
answer_leaves p seen a (answer.SyncFailure auts sqn) inner c keys (e, f) = waits keys e
answer_leaves p seen a (answer.Accepted res ck ik ak amf sqn) inner c keys has =
    accepted_leaves p seen a res sqn (keys_at p seen a ik ck) (master_at p seen a ik ck) inner c keys has

challenged_has : (s : Subscription) (p : Peer) (seen : Seen) (a : Challenge) (n : Option UsimNote) (inner : Decrypted) (c : Context) (keys : KeySet)
    → Has (challenged s p seen a n inner) c keys → HasOrTakes p (challenged s p seen a n inner) seen inner c keys
challenged_has s p seen a None inner c keys (e, f) = inl e
challenged_has s p seen a (Some n) inner c keys has = absurd (answer_leaves p seen a (answer_noted s.secret a n) inner c keys has)

-- ---- a Reauthentication

-- what was decrypted has a counter and NONCE_S
counter_takes : (key : List ℕ) (keeps : Keeps) (p : Peer) (seen : Seen) (own : Context) (given : Enclosed) (counter : Option ℕ) (nonce : Option (List ℕ)) (c : Context) (keys : KeySet)
    → given.counter ≡ counter → given.nonce ≡ nonce → is_missing subtype.Reauthentication true (attrs_in seen.reading) ≡ false
    → Decrypts (Some (record { k_encr = own.k_encr; list = attrs_in seen.reading })) (decrypted.Attributes given)
    → Has (by_counter key keeps (with_inner (resuming p own) (decrypted.Attributes given)) seen own given.identity counter nonce) c keys
    → Takes p (by_counter key keeps (with_inner (resuming p own) (decrypted.Attributes given)) seen own given.identity counter nonce) seen (decrypted.Attributes given) c keys
counter_takes key keeps p seen own given None fresh c keys e f complete opens (g, h) = absurd (refuses why.Undecryptable keys g)
counter_takes key keeps p seen own given (Some counter) None c keys e f complete opens (g, h) = absurd (refuses why.Undecryptable keys g)
counter_takes key keeps p seen own given (Some counter) (Some nonce) c keys e f complete opens has = by (is_open counter (entry p.options.method keeps.contexts)) has
  where
    q : Peer
    q = with_inner (resuming p own) (decrypted.Attributes given)

    by : (b : Bool) → Has (if b then taken key q seen own given.identity counter nonce else small key q seen own counter nonce) c keys
        → Takes p (if b then taken key q seen own given.identity counter nonce else small key q seen own counter nonce) seen (decrypted.Attributes given) c keys
    by true (g, h) =
        let is : own ≡ c = same_context own c h in record {
          checked = refl;
          identity = refl;
          options = refl;
          complete = complete;
          given = given;
          attributes = refl;
          decrypts = subst (λ (x : Context). Decrypts (Some (record { k_encr = x.k_encr; list = attrs_in seen.reading })) (decrypted.Attributes given)) is opens;
          counter = counter;
          has_counter = e;
          nonce = nonce;
          has_nonce = f;
          same = same_keys (reauth_keys_of own.k_encr own.k_aut own.master (text_or_none p.identity) counter nonce) keys g
              ∙ ap (λ (x : Context). reauth_keys_of x.k_encr x.k_aut x.master (text_or_none p.identity) counter nonce) is;
        }
    by false (g, h) = absurd (waits keys g)

disclosed_takes : (key : List ℕ) (keeps : Keeps) (p : Peer) (seen : Seen) (own : Context) (inner : Decrypted) (c : Context) (keys : KeySet)
    → is_missing subtype.Reauthentication true (attrs_in seen.reading) ≡ false → Decrypts (Some (record { k_encr = own.k_encr; list = attrs_in seen.reading })) inner
    → Has (disclosed key keeps (with_inner (resuming p own) inner) seen own inner) c keys → Takes p (disclosed key keeps (with_inner (resuming p own) inner) seen own inner) seen inner c keys
disclosed_takes key keeps p seen own decrypted.Unreadable c keys complete opens (e, f) = absurd (refuses why.Undecryptable keys e)
disclosed_takes key keeps p seen own (decrypted.Attributes given) c keys complete opens has =
    counter_takes key keeps p seen own given given.counter given.nonce c keys refl refl complete opens has

resumed_takes : (key : List ℕ) (keeps : Keeps) (p : Peer) (seen : Seen) (o : Option Context) (inner : Decrypted) (c : Context) (keys : KeySet)
    → Decrypts (decryption_resumed p seen o) inner → Has (resumed_by key keeps p seen o inner) c keys → HasOrTakes p (resumed_by key keeps p seen o inner) seen inner c keys
resumed_takes key keeps p seen None inner c keys opens (e, f) = inl e
resumed_takes key keeps p seen (Some own) inner c keys opens has =
    inr (by (is_missing subtype.Reauthentication true (attrs_in seen.reading)) (not (is_sealed p.options.method own.k_aut [] seen)) (differs (own_code p) (checkcode seen)) refl opens has)
  where
    made : Option Decryption
    made = Some (record { k_encr = own.k_encr; list = attrs_in seen.reading })

    does : Bool → Bool → Bool → Peer × Turn PeerWhy
    does lacks wrong other =
        if lacks then client p seen why.Missing None false
        else if wrong then client p seen why.WrongMac None false
        else if other then client (resuming p own) seen why.WrongCheckcode None true
        else disclosed key keeps (with_inner (resuming p own) inner) seen own inner

    by : (lacks wrong other : Bool) → is_missing subtype.Reauthentication true (attrs_in seen.reading) ≡ lacks
        → Decrypts (if lacks then None else if wrong then None else if other then None else made) inner → Has (does lacks wrong other) c keys → Takes p (does lacks wrong other) seen inner c keys
    by true wrong other whole opens (e, f) = absurd (refuses why.Missing keys e)
    by false true other whole opens (e, f) = absurd (refuses why.WrongMac keys e)
    by false false true whole opens (e, f) = absurd (refuses why.WrongCheckcode keys e)
    by false false false whole opens has = disclosed_takes key keeps p seen own inner c keys whole opens has

-- ---- the rows

succeeded_has : (p : Peer) (now : PeerState) (seen : Seen) (inner : Decrypted) (c : Context) (keys : KeySet) → Has (succeeded p now) c keys → HasOrTakes p (succeeded p now) seen inner c keys
succeeded_has p (state.Answered own) seen inner c keys (e, f) = absurd (over keys e)
succeeded_has p state.Waiting seen inner c keys (e, f) = inl e
succeeded_has p (state.Refusing cause) seen inner c keys (e, f) = inl e
succeeded_has p state.Ended seen inner c keys (e, f) = inl e

does_has : (key : List ℕ) (s : Subscription) (keeps : Keeps) (p : Peer) (seen : Seen) (r : Row) (n : Option UsimNote) (inner : Decrypted) (c : Context) (keys : KeySet)
    → Decrypts (decryption_made s keeps p seen r n) inner → Has (peer_does key s keeps p seen r n inner) c keys → HasOrTakes p (peer_does key s keeps p seen r n inner) seen inner c keys
does_has key s keeps p seen (row.Ignore cause) n inner c keys opens (e, f) = inl e
does_has key s keeps p seen row.Again n inner c keys opens (e, f) = inl e
does_has key s keeps p seen row.First n inner c keys opens (e, f) = absurd (waits keys e)
does_has key s keeps p seen (row.Identity asked) n inner c keys opens (e, f) = absurd (waits keys e)
does_has key s keeps p seen (row.Client cause) n inner c keys opens (e, f) = absurd (refuses cause keys e)
does_has key s keeps p seen (row.Reject cause) n inner c keys opens (e, f) = absurd (refuses cause keys e)
does_has key s keeps p seen (row.Notified code) n inner c keys opens (e, f) = absurd (refuses (why.Notified code) keys e)
does_has key s keeps p seen (row.Challenged a) n inner c keys opens has = challenged_has s p seen a n inner c keys has
does_has key s keeps p seen row.Reauthentication n inner c keys opens has = resumed_takes key keeps p seen (context_of keeps p) inner c keys opens has
does_has key s keeps p seen row.Success n inner c keys opens has = succeeded_has p p.state seen inner c keys has
does_has key s keeps p seen (row.Failure cause) n inner c keys opens (e, f) = absurd (over keys e)

-- of a turn
pub turn_takes : (key : List ℕ) (s : Subscription) (keeps : Keeps) (p : Peer) (seen : Seen) (n : Option UsimNote) (inner : Decrypted) (c : Context) (keys : KeySet)
    → Decrypts (decryption_made s keeps p seen (peer_row p seen) n) inner → (peer_step key s keeps p seen n inner).0.state ≡ state.Answered keys
    → resumed_from (peer_step key s keeps p seen n inner).0.source ≡ Some c → HasOrTakes p (peer_step key s keeps p seen n inner) seen inner c keys
turn_takes key s keeps p seen n inner c keys opens e f = does_has key s keeps p seen (peer_row p seen) n inner c keys opens (e, f)
