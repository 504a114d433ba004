-- What a turn of a peer does to the counter that it accepted: it accepts one at most, and no other one and no challenge later.
use Rattle.std.proofs.Common.{◌≡◌, All, ℕ, Bool, true, false, cond, not, List, [], ◌∷◌, ◌++◌, Option, Some, None, refl, sym, ap, ◌∙◌, subst}
use Rattle.std.specs.Str.{bytes_eq}
use Rattle.std.proofs.lemmas.List.Elements.{All-cons, All-nil}
use Rattle.std.proofs.lemmas.Slice.Eq.{bytes_eq-Decides}
use Rattle.auc_hmac.specs.declared.keys.KeySet.{KeySet}
use Rattle.auc_hmac.specs.declared.keys.Master.{Master}
use Rattle.auc_ident.specs.Permanent.{username}
use Rattle.auc_packet.specs.Received.{Seen, is_sealed}
use Rattle.auc_peer.proofs.Facts.{IsTaken, Waits, in_waits, on_reauth, opening}
use Rattle.auc_peer.specs.Asking.{answer_noted}
use Rattle.auc_peer.specs.Attributes.{checkcode}
use Rattle.auc_peer.specs.Places.{place_in, place_of}
use Rattle.auc_peer.specs.Rows.{peer_row}
use Rattle.auc_peer.specs.Subscription.{Subscription}
use Rattle.auc_peer.specs.Table.{text_or_none, accepted, accepting, by_answer, challenged, client, context_from, context_named, gave_up, genuine, keys_at, master_at, new_peer, opened, own_code, peer_does, peer_step, reauthenticated, succeeded, taken}
use Rattle.auc_peer.specs.Told as peer_told
use Rattle.auc_peer.specs.declared.decrypted.Decrypted.{Decrypted}
use Rattle.auc_peer.specs.declared.decrypted.Decrypted.TheVariants as decrypted
use Rattle.auc_peer.specs.declared.next.NextContext.{NextContext}
use Rattle.auc_peer.specs.declared.next.NextContext.TheVariants as next
use Rattle.auc_peer.specs.declared.peer.Challenge.{Challenge}
use Rattle.auc_peer.specs.declared.peer.Peer.{Peer}
use Rattle.auc_peer.specs.declared.peer.Source.{Source}
use Rattle.auc_peer.specs.Peer.{resumed_from}
use Rattle.auc_peer.specs.declared.peer.PeerState.{PeerState}
use Rattle.auc_peer.specs.declared.peer.PeerState.TheVariants as state
use Rattle.auc_peer.specs.declared.rows.Row.{Row}
use Rattle.auc_peer.specs.declared.rows.Row.TheVariants as row
use Rattle.auc_seal.specs.Checkcode.{differs}
use Rattle.auc_vector.specs.declared.why.PeerWhy.{PeerWhy}
use Rattle.auc_vector.specs.declared.why.PeerWhy.TheVariants as why
use Rattle.auc_reauth.specs.Device.{Keeps}
use Rattle.auc_reauth.specs.Machine.{Used, accepted_in, used_by}
use Rattle.auc_reauth.specs.Server.{if_named}
use Rattle.auc_reauth.specs.Store.{entry}
use Rattle.auc_reauth.specs.declared.context.Context.{Context}
use Rattle.auc_request.specs.declared.enclosed.Enclosed.{Enclosed}
use Rattle.auc_usim.specs.declared.answer.Answer.{Answer}
use Rattle.auc_usim.specs.declared.answer.Answer.TheVariants as answer
use Rattle.auc_vector.specs.declared.notes.CounterNote.{CounterNote}
use Rattle.auc_vector.specs.declared.notes.CounterNote.TheVariants as counts
use Rattle.auc_vector.specs.declared.notes.UsimNote.{UsimNote}
use Rattle.auc_vector.specs.declared.notes.UsimNote.TheVariants as note
use Rattle.auc_vector.specs.declared.turn.Turn.{Turn}
use Rattle.auc_world.specs.Resumption.{accepted_for, counter_given, counter_used}

-- a context isn't renamed
abbrev pub IsNotRenamed : NextContext → Type 0
IsNotRenamed (next.Renamed from to) = ⊥
IsNotRenamed other = Unit {0}

-- the identity that a peer sent last is, up to its first `@`, the one under which it accepted a counter
abbrev pub IsNamed : Peer → Type 0
IsNamed p = All (λ u. username (text_or_none p.identity) ≡ u.identity) (accepted_for p.next p)

-- a waiting peer hasn't accepted a counter, what a peer would put has the first counter, and an acceptance is of the own context
pub record IsQuiet (p : Peer) : Type 0 where
  pub named : IsNamed p
  pub waits : p.state ≡ state.Waiting → IsNotRenamed p.next
  pub first : (c : Context) → place_of p ≡ Some c → c.counter ≡ 1

-- the counters that a turn accepts, by its note and the context of the device
abbrev pub taken_in : Option CounterNote → Option Context → List Used
taken_in (Some (counts.Taken counter)) store = accepted_in counter store
taken_in other store = []

pub record Counts (store : Option Context) (p new : Peer) (n : Option CounterNote) : Type 0 where
  pub used : accepted_for new.next new ≡ taken_in n store ++ accepted_for p.next p
  pub quiet : IsQuiet new

quiet_none : (following : NextContext) (p : Peer) → IsNotRenamed following → accepted_for following p ≡ []
quiet_none next.Same p e = refl
quiet_none (next.New c) p e = refl
quiet_none (next.Renamed from to) p e = absurd e

accepted_same : (following : NextContext) (p q : Peer) → q.source ≡ p.source → q.inner ≡ p.inner → accepted_for following q ≡ accepted_for following p
accepted_same next.Same p q e f = refl
accepted_same (next.New c) p q e f = refl
accepted_same (next.Renamed from to) p q e f =
    ap (λ (r : Source). counter_used (resumed_from r) (counter_given q.inner)) e ∙ ap (λ (d : Decrypted). counter_used (resumed_from p.source) (counter_given d)) f

refuses_waits : (cause : PeerWhy) → ◌≡◌ {A = PeerState} (state.Refusing cause) state.Waiting → ⊥
refuses_waits cause e = cc

answered_waits : (keys : KeySet) → ◌≡◌ {A = PeerState} (state.Answered keys) state.Waiting → ⊥
answered_waits keys e = cc

ended_waits : ◌≡◌ {A = PeerState} state.Ended state.Waiting → ⊥
ended_waits e = cc

no_context : (c : Context) → ◌≡◌ {A = Option Context} None (Some c) → ⊥
no_context c e = cc

on_cond : (P : Peer × Turn PeerWhy → Type 0) (b : Bool) (x y : Peer × Turn PeerWhy) → P x → P y → P (cond b x y)
on_cond P true x y f g = f
on_cond P false x y f g = g

found_by : (b : Bool) (k c : Context) → cond b (Some k) None ≡ Some c → ◌≡◌ {A = Option Context} (Some k) (Some c)
found_by true k c e = e
found_by false k c e = absurd cc

if_named_is : (name : List ℕ) (kept : Option Context) (c : Context) → if_named name kept ≡ Some c → kept ≡ Some c
if_named_is name None c e = absurd cc
if_named_is name (Some k) c e = found_by (bytes_eq k.identity name) k c e

named_is : (text : Option (List ℕ)) (kept : Option Context) (c : Context) → context_named text kept ≡ Some c → kept ≡ Some c
named_is None kept c e = absurd cc
named_is (Some text) kept c e = if_named_is (username text) kept c e

no_named : (new : Peer) → accepted_for new.next new ≡ [] → IsNamed new
no_named new e = subst (All (λ u. username (text_or_none new.identity) ≡ u.identity)) (sym e) (All-nil (λ (u : Used). username (text_or_none new.identity) ≡ u.identity))

-- the identity that was sent is the context's
named_by : (b : Bool) (k c : Context) (name : List ℕ) → bytes_eq k.identity name ≡ b → cond b (Some k) None ≡ Some c → name ≡ c.identity
named_by true k c name e f = sym ((bytes_eq-Decides k.identity name).0 e) ∙ ap identity_or f
  where
    identity_or : Option Context → List ℕ
    identity_or None = []
    identity_or (Some x) = x.identity
named_by false k c name e f = absurd cc

sent_in : (name : List ℕ) (kept : Option Context) (c : Context) → if_named name kept ≡ Some c → name ≡ c.identity
sent_in name None c e = absurd cc
sent_in name (Some k) c e = named_by (bytes_eq k.identity name) k c name refl e

sent_is : (text : Option (List ℕ)) (kept : Option Context) (c : Context) → context_named text kept ≡ Some c → username (text_or_none text) ≡ c.identity
sent_is None kept c e = absurd cc
sent_is (Some text) kept c e = sent_in (username text) kept c e

module _ (store : Option Context) (p : Peer) (quiet : IsQuiet p) where
  abbrev C : Peer × Turn PeerWhy → Type 0
  C x = Counts store p x.0 x.1.notes.counter

  same : Counts store p p None
  same = record { used = refl; quiet = quiet }

  -- the peer refuses, or its session ends
  closes : (new : Peer) → new.identity ≡ p.identity → new.next ≡ p.next → new.source ≡ p.source → new.inner ≡ p.inner → (new.state ≡ state.Waiting → ⊥) → place_of new ≡ None → Counts store p new None
  closes new i e f g ends none = record {
    used = ap (λ (following : NextContext). accepted_for following new) e ∙ accepted_same p.next p new f g;
    quiet = record {
      named = subst (λ (l : List Used). All (λ u. username (text_or_none new.identity) ≡ u.identity) l) (sym (ap (λ (following : NextContext). accepted_for following new) e ∙ accepted_same p.next p new f g))
          (subst (λ (t : Option (List ℕ)). All (λ u. username (text_or_none t) ≡ u.identity) (accepted_for p.next p)) (sym i) quiet.named);
      waits = λ w. absurd (ends w);
      first = λ c h. absurd (no_context c (sym none ∙ h));
    };
  }

  -- a waiting peer goes on, and has accepted no counter
  goes_on : (new : Peer) (n : Option CounterNote) → p.state ≡ state.Waiting → taken_in n store ≡ [] → new.next ≡ p.next → place_of new ≡ None → Counts store p new n
  goes_on new n w nothing e none =
      let q : IsNotRenamed p.next = quiet.waits w in
      let r : IsNotRenamed new.next = subst IsNotRenamed (sym e) q in record {
        used = quiet_none new.next new r ∙ sym (ap (λ (l : List Used). l ++ accepted_for p.next p) nothing ∙ quiet_none p.next p q);
        quiet = record { named = no_named new (quiet_none new.next new r); waits = λ f. r; first = λ c h. absurd (no_context c (sym none ∙ h)) };
      }

  -- a challenge is answered
  answers_c : (new : Peer) (keys : KeySet) (m : Master) (sqn : List ℕ) (identity : Option (List ℕ)) → p.state ≡ state.Waiting → new.state ≡ state.Answered keys
      → new.next ≡ context_from keys m sqn identity → Counts store p new None
  answers_c new keys m sqn identity w at is = by identity is
    where
      ends : new.state ≡ state.Waiting → ⊥
      ends e = answered_waits keys (sym at ∙ e)

      placed : (following : NextContext) → new.next ≡ following → place_of new ≡ place_in (state.Answered keys) following
      placed following e = ap (λ (now : PeerState). place_in now new.next) at ∙ ap (place_in (state.Answered keys)) e

      none : [] ≡ accepted_for p.next p
      none = sym (quiet_none p.next p (quiet.waits w))

      by : (identity : Option (List ℕ)) → new.next ≡ context_from keys m sqn identity → Counts store p new None
      by None e = record {
        used = ap (λ (following : NextContext). accepted_for following new) e ∙ none;
        quiet = record { named = no_named new (ap (λ (following : NextContext). accepted_for following new) e); waits = λ f. absurd (ends f); first = λ c h. absurd (no_context c (sym (placed next.Same e) ∙ h)) };
      }
      by (Some text) e = record {
        used = ap (λ (following : NextContext). accepted_for following new) e ∙ none;
        quiet = record {
          named = no_named new (ap (λ (following : NextContext). accepted_for following new) e);
          waits = λ f. absurd (ends f);
          first = λ c h. ap counter_or (sym (sym (placed (context_from keys m sqn (Some text)) e) ∙ h));
        };
      }
        where
          counter_or : Option Context → ℕ
          counter_or None = 0
          counter_or (Some c) = c.counter

  -- ---- a challenge

  opened_c : (q : Peer) (seen : Seen) (res sqn : List ℕ) (k : KeySet) (m : Master) (inner : Decrypted) → p.state ≡ state.Waiting → q.next ≡ p.next → C (opened q seen res sqn k m inner)
  opened_c q seen res sqn k m decrypted.Unreadable w e = goes_on _ None w refl e refl
  opened_c q seen res sqn k m (decrypted.Attributes given) w e = answers_c _ k m sqn given.identity w refl refl

  accepted_c : (seen : Seen) (c : Challenge) (res sqn : List ℕ) (k : KeySet) (m : Master) (inner : Decrypted) → p.state ≡ state.Waiting → C (accepted p seen c res sqn k m inner)
  accepted_c seen c res sqn k m inner w =
      on_cond C (not (is_sealed p.options.method k.k_aut [] seen)) (client p seen why.WrongMac (Some (note.Accepted sqn)) false) (genuine (accepting p seen c) seen res sqn k m inner)
      (goes_on _ None w refl refl refl)
      (on_cond C (differs (own_code p) (checkcode seen)) (client (accepting p seen c) seen why.WrongCheckcode (Some (note.Accepted sqn)) true) (opened (accepting p seen c) seen res sqn k m inner)
      (goes_on _ None w refl refl refl) (opened_c (accepting p seen c) seen res sqn k m inner w refl))

  answer_c : (seen : Seen) (c : Challenge) (a : Answer) (inner : Decrypted) → p.state ≡ state.Waiting → C (by_answer p seen c a inner)
  answer_c seen c answer.WrongMac inner w = goes_on _ None w refl refl refl
  answer_c seen c (answer.SyncFailure auts sqn) inner w = goes_on _ None w refl refl refl
  answer_c seen c (answer.Accepted res ck ik ak amf sqn) inner w = accepted_c seen c res sqn (keys_at p seen c ik ck) (master_at p seen c ik ck) inner w

  challenged_c : (s : Subscription) (seen : Seen) (c : Challenge) (n : Option UsimNote) (inner : Decrypted) → p.state ≡ state.Waiting → C (challenged s p seen c n inner)
  challenged_c s seen c None inner w = same
  challenged_c s seen c (Some n) inner w = answer_c seen c (answer_noted s.secret c n) inner w

  -- ---- the other rows

  succeeded_c : (now : PeerState) → C (succeeded p now)
  succeeded_c (state.Answered keys) = closes _ refl refl refl refl ended_waits refl
  succeeded_c state.Waiting = same
  succeeded_c (state.Refusing cause) = same
  succeeded_c state.Ended = same

module _ (key : List ℕ) (s : Subscription) (keeps : Keeps) (p : Peer) (quiet : IsQuiet p) where
  abbrev own : Option Context
  own = entry p.options.method keeps.contexts

  abbrev D : Peer × Turn PeerWhy → Type 0
  D x = Counts own p x.0 x.1.notes.counter

  taken_c : (seen : Seen) (c : Context) (given : Enclosed) (counter : ℕ) (nonce : List ℕ) → p.state ≡ state.Waiting → IsTaken keeps p seen c given counter nonce
      → D (taken key (opening p c (decrypted.Attributes given)) seen c given.identity counter nonce)
  taken_c seen c given counter nonce w is = record {
    used = ap (counter_used (Some c)) is.has_counter
        ∙ sym (ap (λ (o : Option Context). accepted_in counter o ++ accepted_for p.next p) (named_is p.identity own c is.context)
        ∙ ap (λ (l : List Used). (used_by counter c ∷ []) ++ l) (quiet_none p.next p (quiet.waits w)));
    quiet = record {
      named = subst (All (λ u. username (text_or_none p.identity) ≡ u.identity)) (sym (ap (counter_used (Some c)) is.has_counter))
          (All-cons (λ (u : Used). username (text_or_none p.identity) ≡ u.identity) (used_by counter c) [] (sent_is p.identity own c is.context)
          (All-nil (λ (u : Used). username (text_or_none p.identity) ≡ u.identity)));
      waits = λ e. absurd (answered_waits _ e);
      first = λ d e. absurd (no_context d e);
    };
  }

  reauth_c : (seen : Seen) (inner : Decrypted) → p.state ≡ state.Waiting → D (reauthenticated key keeps p seen inner)
  reauth_c seen inner w =
      on_reauth D key keeps p seen inner (same own p quiet)
      (λ c here. record {
        missing = goes_on own p quiet _ None w refl refl refl;
        wrong = goes_on own p quiet _ None w refl refl refl;
        other = goes_on own p quiet _ None w refl refl refl;
        hidden = goes_on own p quiet _ None w refl refl refl;
        accepts = λ given counter nonce is. taken_c seen c given counter nonce w is;
        refuses = λ given counter nonce. goes_on own p quiet _ (Some (counts.Small counter)) w refl refl refl;
      })

  row_c : (seen : Seen) (r : Row) (n : Option UsimNote) (inner : Decrypted) → Waits p r → D (peer_does key s keeps p seen r n inner)
  row_c seen (row.Ignore cause) n inner w = same own p quiet
  row_c seen row.Again n inner w = same own p quiet
  row_c seen row.First n inner w = goes_on own p quiet _ None w refl refl refl
  row_c seen (row.Identity asked) n inner w = goes_on own p quiet _ None w refl refl refl
  row_c seen (row.Client cause) n inner w = closes own p quiet _ refl refl refl refl (refuses_waits _) refl
  row_c seen (row.Reject cause) n inner w = closes own p quiet _ refl refl refl refl (refuses_waits _) refl
  row_c seen (row.Notified code) n inner w = closes own p quiet _ refl refl refl refl (refuses_waits _) refl
  row_c seen (row.Challenged c) n inner w = challenged_c own p quiet s seen c n inner w
  row_c seen row.Reauthentication n inner w = reauth_c seen inner w
  row_c seen row.Success n inner w = succeeded_c own p quiet p.state
  row_c seen (row.Failure cause) n inner w = closes own p quiet _ refl refl refl refl ended_waits refl

  -- each turn
  pub turn_counts : (seen : Seen) (n : Option UsimNote) (inner : Decrypted) → D (peer_step key s keeps p seen n inner)
  turn_counts seen n inner = row_c seen (peer_row p seen) n inner (in_waits p p.state p.last seen refl)

-- a peer gives up
pub giving_up_counts : (store : Option Context) (p : Peer) (now : PeerState) → IsQuiet p → Counts store p (gave_up p now).0 None
giving_up_counts store p state.Ended quiet = same store p quiet
giving_up_counts store p state.Waiting quiet = closes store p quiet _ refl refl refl refl ended_waits refl
giving_up_counts store p (state.Answered keys) quiet = closes store p quiet _ refl refl refl refl ended_waits refl
giving_up_counts store p (state.Refusing cause) quiet = closes store p quiet _ refl refl refl refl ended_waits refl

pub new_is_quiet : (o : peer_told.ToldSession) → IsQuiet (new_peer o)
new_is_quiet o = record { named = All-nil (λ (u : Used). username [] ≡ u.identity); waits = λ e. tt; first = λ c e. absurd (no_context c e) }
