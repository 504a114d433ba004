-- A turn of a peer makes at most one move of the places of its device's contexts.
use Rattle.std.proofs.Common.{◌≡◌, ◌≢◌, ℕ, zero, suc, ◌==◌, Bool, true, false, cond, not, List, [], Option, Some, None, refl, sym, ap, ◌∙◌, arith}
use Rattle.std.specs.Str.{bytes_eq}
use Rattle.std.proofs.lemmas.Bool.Decides.{nat_tests}
use Rattle.auc_hmac.specs.declared.keys.KeySet.{KeySet}
use Rattle.auc_hmac.specs.declared.keys.Master.{Master}
use Rattle.auc_hmac.specs.declared.method.Method.{Method}
use Rattle.auc_hmac.specs.declared.method.Method.TheVariants as method
use Rattle.auc_packet.specs.Received.{Seen, is_sealed}
use Rattle.auc_peer.specs.Asking.{answer_noted}
use Rattle.auc_peer.specs.Attributes.{checkcode}
use Rattle.auc_peer.specs.Identities.{renamed, under, with_next_context, with_next_pseudonym}
use Rattle.auc_peer.specs.Places.{EachTurnIsOfMethod, EachTurnLeavesTheOther, EachTurnMovesOnce, IsOfMethod, MovesOnce, Originates, Shows, place_in, place_of}
use Rattle.auc_peer.specs.Rows.{peer_row}
use Rattle.auc_peer.specs.Subscription.{Subscription}
use Rattle.auc_peer.specs.Table.{accepted, accepting, by_answer, challenged, client, context_from, counted_up, genuine, kept_by, keys_at, master_at, opened, own_code, peer_does, pseudonym_given, reauthenticated, succeeded, taken_up}
use Rattle.auc_peer.specs.declared.decrypted.Decrypted.{Decrypted}
use Rattle.auc_peer.specs.declared.decrypted.Decrypted.TheVariants as decrypted
use Rattle.auc_peer.specs.declared.next.NextContext.{NextContext}
use Rattle.auc_peer.specs.declared.next.NextContext.TheVariants as next
use Rattle.auc_peer.specs.declared.peer.Challenge.{Challenge}
use Rattle.auc_peer.specs.Peer.{PeerEnd}
use Rattle.auc_peer.specs.declared.peer.PeerState.{PeerState}
use Rattle.auc_peer.specs.declared.peer.PeerState.TheVariants as state
use Rattle.auc_peer.specs.declared.rows.Row.{Row}
use Rattle.auc_peer.specs.declared.rows.Row.TheVariants as row
use Rattle.auc_seal.specs.Checkcode.{differs}
use Rattle.auc_vector.specs.declared.why.PeerWhy.{PeerWhy}
use Rattle.auc_vector.specs.declared.why.PeerWhy.TheVariants as why
use Rattle.auc_reauth.specs.Device.{Keeps, accepting as accepting_counter, is_open, with_accepted, with_context}
use Rattle.auc_reauth.specs.Machine.{Accept, Adopt, Challenge as Challenges, HomePast, Lose, Move, Places, Win, renamed as renamed_at, with_place}
use Rattle.auc_reauth.specs.Store.{ByMethod, entry, method_of, with_entry}
use Rattle.auc_reauth.specs.declared.context.Context.{Context}
use Rattle.auc_usim.specs.declared.answer.Answer.{Answer}
use Rattle.auc_usim.specs.declared.answer.Answer.TheVariants as answer
use Rattle.auc_vector.specs.Keys.{master_of}
use Rattle.auc_vector.specs.declared.notes.CounterNote.{CounterNote}
use Rattle.auc_vector.specs.declared.notes.CounterNote.TheVariants as counts
use Rattle.auc_vector.specs.declared.notes.Notes.{Notes}
use Rattle.auc_vector.specs.declared.notes.UsimNote.{UsimNote}
use Rattle.auc_vector.specs.declared.notes.UsimNote.TheVariants as note
use Rattle.auc_vector.specs.declared.turn.Turn.{Turn}
use Rattle.auc_peer.proofs.MoveLemmas.{Waits, in_waits}
use Rattle.auc_peer.proofs.OptionLemmas.{on_cond}
use Rattle.auc_peer.proofs.ReauthLemmas.{on_reauth}

-- ---- places

same_number : (n : ℕ) → (n == n) ≡ true
same_number n = grind (arith, nat_tests)

other_number : (m n : ℕ) → m ≢ n → (m == n) ≡ false
other_number m n = grind (arith, nat_tests)

picks : {X : Type 0} (b : Bool) (x y : X) → b ≡ true → cond b x y ≡ x
picks true x y e = refl
picks false x y e = absurd cc

leaves : {X : Type 0} (b : Bool) (x y : X) → b ≡ false → cond b x y ≡ y
leaves true x y e = absurd cc
leaves false x y e = refl

-- what was put at a place is there
at_same : (p : ℕ) (x : Option Context) (places : Places) → with_place p x places p ≡ x
at_same p x places = picks (p == p) x (places p) (same_number p)

-- another place stays as it was
at_other : (p i : ℕ) (x : Option Context) (places : Places) → i ≢ p → with_place p x places i ≡ places i
at_other p i x places e = leaves (i == p) x (places i) (other_number i p e)

store_apart : (t : ℕ) → zero ≢ suc t
store_apart t e = cc

session_apart : (t : ℕ) → suc t ≢ zero
session_apart t e = cc

-- ---- what is kept by method

entry_same : {X : Type 0} (m : Method) (x : X) (entries : ByMethod X) → entry m (with_entry m x entries) ≡ x
entry_same method.Aka x entries = refl
entry_same method.Prime x entries = refl

entry_other : {X : Type 0} (m other : Method) (x : X) (entries : ByMethod X) → other ≢ m → entry other (with_entry m x entries) ≡ entry other entries
entry_other method.Aka method.Aka x entries e = absurd (e refl)
entry_other method.Aka method.Prime x entries e = refl
entry_other method.Prime method.Aka x entries e = refl
entry_other method.Prime method.Prime x entries e = absurd (e refl)

pseudonym_leaves : (m : Method) (pseudonym : Option (List ℕ)) (keeps : Keeps) → (with_next_pseudonym m pseudonym keeps).contexts ≡ keeps.contexts
pseudonym_leaves m None keeps = refl
pseudonym_leaves m (Some pseudonym) keeps = refl

-- ---- a turn

abbrev Untaken : Notes → Type 0
Untaken notes = (counter : ℕ) → notes.counter ≡ Some (counts.Taken counter) → ⊥

none_taken : (counter : ℕ) → ◌≡◌ {A = Option CounterNote} None (Some (counts.Taken counter)) → ⊥
none_taken counter e = cc

small_taken : (k counter : ℕ) → ◌≡◌ {A = Option CounterNote} (Some (counts.Small k)) (Some (counts.Taken counter)) → ⊥
small_taken k counter e = cc

taken_is : (k counter : ℕ) → ◌≡◌ {A = Option CounterNote} (Some (counts.Taken k)) (Some (counts.Taken counter)) → ◌≡◌ {A = Option Move} (Some (Accept k)) (Some (Accept counter))
taken_is k counter e = cc

module _ (t : ℕ) (w : HomePast) (p : PeerEnd) (keeps : Keeps) (shown : Shows w p.options.method t keeps p) where
  abbrev Once : Keeps → PeerEnd × Turn PeerWhy → Type 0
  Once kept x = MovesOnce t w p x.0 x.1.notes keeps kept

  -- nothing changes
  stays : (new : PeerEnd) (notes : Notes) (kept : Keeps) → entry p.options.method kept.contexts ≡ entry p.options.method keeps.contexts → place_of new ≡ place_of p → Untaken notes
      → MovesOnce t w p new notes keeps kept
  stays new notes kept same place untaken = record {
    move = None;
    own = tt;
    counted = λ counter e. absurd (untaken counter e);
    shows = record { store = shown.store ∙ sym same; place = shown.place ∙ sym place };
    others = λ i e f. refl;
  }

  -- the peer would put no context
  loses : (new : PeerEnd) (notes : Notes) (kept : Keeps) → entry p.options.method kept.contexts ≡ entry p.options.method keeps.contexts → place_of new ≡ None → Untaken notes
      → MovesOnce t w p new notes keeps kept
  loses new notes kept same place untaken = record {
    move = Some (Lose t);
    own = refl;
    counted = λ counter e. absurd (untaken counter e);
    shows = record {
      store = at_other (suc t) zero None w.place (store_apart t) ∙ shown.store ∙ sym same;
      place = at_same (suc t) None w.place ∙ sym place;
    };
    others = λ i e f. at_other (suc t) i None w.place f;
  }

  -- a Challenge is answered that gave an identity
  challenges : (new : PeerEnd) (notes : Notes) (c : Context) → place_of new ≡ Some c → Originates notes c → Untaken notes → MovesOnce t w p new notes keeps keeps
  challenges new notes c place comes untaken = record {
    move = Some (Challenges t c);
    own = (refl, comes);
    counted = λ counter e. absurd (untaken counter e);
    shows = record {
      store = at_other (suc t) zero (Some c) w.place (store_apart t) ∙ shown.store;
      place = at_same (suc t) (Some c) w.place ∙ sym place;
    };
    others = λ i e f. at_other (suc t) i (Some c) w.place f;
  }

  -- a counter is accepted
  accepts : (new : PeerEnd) (notes : Notes) (k : ℕ) → place_of p ≡ None → place_of new ≡ None → notes.counter ≡ Some (counts.Taken k) → is_open k (entry p.options.method keeps.contexts) ≡ true
      → MovesOnce t w p new notes keeps (with_accepted p.options.method k keeps)
  accepts new notes k before place taken is = record {
    move = Some (Accept k);
    own = (taken, is);
    counted = λ counter e. taken_is k counter (sym taken ∙ e);
    shows = record {
      store =
          at_same zero (accepting_counter k (w.place zero)) w.place ∙ ap (accepting_counter k) shown.store
          ∙ sym (entry_same p.options.method (accepting_counter k (entry p.options.method keeps.contexts)) keeps.contexts);
      place = at_other zero (suc t) (accepting_counter k (w.place zero)) w.place (session_apart t) ∙ shown.place ∙ before ∙ sym place;
    };
    others = λ i e f. at_other zero i (accepting_counter k (w.place zero)) w.place e;
  }

  -- the peer's context takes the place of the device's
  wins : (new : PeerEnd) (notes : Notes) (kept : Keeps) (c : Context) → place_of p ≡ Some c → entry p.options.method kept.contexts ≡ Some c → place_of new ≡ None → Untaken notes
      → MovesOnce t w p new notes keeps kept
  wins new notes kept c has same place untaken =
      let rest : Places = with_place (suc t) None w.place in record {
        move = Some (Win t);
        own = refl;
        counted = λ counter e. absurd (untaken counter e);
        shows = record {
          store = at_same zero (w.place (suc t)) rest ∙ shown.place ∙ has ∙ sym same;
          place = at_other zero (suc t) (w.place (suc t)) rest (session_apart t) ∙ at_same (suc t) None w.place ∙ sym place;
        };
        others = λ i e f. at_other zero i (w.place (suc t)) rest e ∙ at_other (suc t) i None w.place f;
      }

  renamed_under : (to : Option (List ℕ)) (c : Context) → renamed_at to (Some c) ≡ under to c
  renamed_under None c = refl
  renamed_under (Some identity) c = refl

  -- the device's context gets its next identity
  adopts : (new : PeerEnd) (notes : Notes) (kept : Keeps) (to : Option (List ℕ)) (c : Context) → place_of p ≡ None → entry p.options.method keeps.contexts ≡ Some c
      → entry p.options.method kept.contexts ≡ under to c → place_of new ≡ None → Untaken notes → MovesOnce t w p new notes keeps kept
  adopts new notes kept to c before has same place untaken = record {
    move = Some (Adopt to);
    own = tt;
    counted = λ counter e. absurd (untaken counter e);
    shows = record {
      store = at_same zero (renamed_at to (w.place zero)) w.place ∙ ap (renamed_at to) (shown.store ∙ has) ∙ renamed_under to c ∙ sym same;
      place = at_other zero (suc t) (renamed_at to (w.place zero)) w.place (session_apart t) ∙ shown.place ∙ before ∙ sym place;
    };
    others = λ i e f. at_other zero i (renamed_at to (w.place zero)) w.place e;
  }

  -- ---- a Challenge

  answers_once : (new : PeerEnd) (notes : Notes) (keys : KeySet) (m : Master) (sqn : List ℕ) (identity : Option (List ℕ)) → notes.usim ≡ Some (note.Accepted sqn) → Untaken notes
      → place_of new ≡ place_in (state.Answered keys) (context_from keys m sqn identity) → MovesOnce t w p new notes keeps keeps
  answers_once new notes keys m sqn None e untaken place = loses new notes keeps refl place untaken
  answers_once new notes keys m sqn (Some identity) e untaken place = challenges new notes _ place (record { sqn = sqn; accepted = e; same = refl }) untaken

  opened_once : (q : PeerEnd) (seen : Seen) (res sqn : List ℕ) (k : KeySet) (m : Master) (inner : Decrypted) → Once keeps (opened q seen res sqn k m inner)
  opened_once q seen res sqn k m decrypted.Unreadable = loses _ _ keeps refl refl none_taken
  opened_once q seen res sqn k m (decrypted.Attributes given) = answers_once _ _ k m sqn given.identity refl none_taken refl

  accepted_once : (seen : Seen) (c : Challenge) (res sqn : List ℕ) (k : KeySet) (m : Master) (inner : Decrypted) → Once keeps (accepted p seen c res sqn k m inner)
  accepted_once seen c res sqn k m inner =
      on_cond (Once keeps) (not (is_sealed p.options.method k.k_aut [] seen)) (client p seen why.WrongMac (Some (note.Accepted sqn)) false) (genuine (accepting p seen c) seen res sqn k m inner)
      (loses _ _ keeps refl refl none_taken)
      (on_cond (Once keeps) (differs (own_code p) (checkcode seen)) (client (accepting p seen c) seen why.WrongCheckcode (Some (note.Accepted sqn)) true) (opened (accepting p seen c) seen res sqn k m inner)
      (loses _ _ keeps refl refl none_taken) (opened_once (accepting p seen c) seen res sqn k m inner))

  answer_once : (seen : Seen) (c : Challenge) (a : Answer) (inner : Decrypted) → Once keeps (by_answer p seen c a inner)
  answer_once seen c answer.WrongMac inner = loses _ _ keeps refl refl none_taken
  answer_once seen c (answer.SyncFailure auts sqn) inner = loses _ _ keeps refl refl none_taken
  answer_once seen c (answer.Accepted res ck ik ak amf sqn) inner = accepted_once seen c res sqn (keys_at p seen c ik ck) (master_at p seen c ik ck) inner

  challenged_once : (s : Subscription) (seen : Seen) (c : Challenge) (n : Option UsimNote) (inner : Decrypted) → Once keeps (challenged s p seen c n inner)
  challenged_once s seen c None inner = stays _ _ keeps refl refl none_taken
  challenged_once s seen c (Some n) inner = answer_once seen c (answer_noted s.secret c n) inner

  -- ---- a Reauthentication

  waiting_none : p.state ≡ state.Waiting → place_of p ≡ None
  waiting_none e = ap (λ (at' : PeerState). place_in at' p.next) e

  reauth_once : (key : List ℕ) (seen : Seen) (inner : Decrypted) → p.state ≡ state.Waiting
      → Once (counted_up p.options.method (reauthenticated key keeps p seen inner).1.notes.counter keeps) (reauthenticated key keeps p seen inner)
  reauth_once key seen inner waits =
      on_reauth (λ x. Once (counted_up p.options.method x.1.notes.counter keeps) x) key keeps p seen inner
      (stays _ _ keeps refl refl none_taken)
      (λ c here. record {
        missing = loses _ _ keeps refl refl none_taken;
        wrong = loses _ _ keeps refl refl none_taken;
        other = loses _ _ keeps refl refl none_taken;
        hidden = loses _ _ keeps refl refl none_taken;
        accepts = λ given k nonce is. accepts _ _ k (waiting_none waits) refl refl is.was_open;
        refuses = λ given k nonce. loses _ _ keeps refl refl (small_taken k);
      })

  -- ---- Success

  renames_once : (new : PeerEnd) (notes : Notes) (from : List ℕ) (to : Option (List ℕ)) (later : Keeps) (o : Option Context) → place_of p ≡ None → place_of new ≡ None → Untaken notes
      → later.contexts ≡ keeps.contexts → entry p.options.method later.contexts ≡ o → MovesOnce t w p new notes keeps (renamed p.options.method from to o later)
  renames_once new notes from to later None before place untaken same is = loses new notes later (ap (λ (cs : ByMethod (Option Context)). entry p.options.method cs) same) place untaken
  renames_once new notes from to later (Some c) before place untaken same is = by (bytes_eq c.identity from)
    where
      by : (b : Bool) → MovesOnce t w p new notes keeps (cond b (with_context p.options.method (under to c) later) later)
      by true = adopts new notes (with_context p.options.method (under to c) later) to c before (sym (ap (λ (cs : ByMethod (Option Context)). entry p.options.method cs) same) ∙ is)
          (entry_same p.options.method (under to c) later.contexts) place untaken
      by false = loses new notes later (ap (λ (cs : ByMethod (Option Context)). entry p.options.method cs) same) place untaken

  adopts_once : (new : PeerEnd) (notes : Notes) (keys : KeySet) (following : NextContext) (later : Keeps) → IsOfMethod p → p.state ≡ state.Answered keys → p.next ≡ following → place_of new ≡ None
      → Untaken notes → later.contexts ≡ keeps.contexts → MovesOnce t w p new notes keeps (with_next_context p.options.method following later)
  adopts_once new notes keys next.Same later own answered is place untaken same = loses new notes later (ap (λ (cs : ByMethod (Option Context)). entry p.options.method cs) same) place untaken
  adopts_once new notes keys (next.New c) later own answered is place untaken same =
      let has : place_of p ≡ Some c = ap (λ (at' : PeerState). place_in at' p.next) answered ∙ ap (λ (following : NextContext). place_in (state.Answered keys) following) is in
      let stored : entry p.options.method (with_context (method_of c.master) (Some c) later).contexts ≡ Some c =
      ap (λ (m : Method). entry p.options.method (with_context m (Some c) later).contexts) (own c has) ∙ entry_same p.options.method (Some c) later.contexts in
      wins new notes (with_context (method_of c.master) (Some c) later) c has stored place untaken
  adopts_once new notes keys (next.Renamed from to) later own answered is place untaken same =
      let none : place_of p ≡ None = ap (λ (at' : PeerState). place_in at' p.next) answered ∙ ap (λ (following : NextContext). place_in (state.Answered keys) following) is in
      renames_once new notes from to later (entry p.options.method later.contexts) none place untaken same refl

  succeeded_once : (at' : PeerState) → IsOfMethod p → p.state ≡ at' → Once (taken_up at' p keeps) (succeeded p at')
  succeeded_once (state.Answered keys) own e =
      adopts_once _ _ keys p.next (with_next_pseudonym p.options.method (pseudonym_given p.inner) keeps) own e refl refl none_taken (pseudonym_leaves p.options.method (pseudonym_given p.inner) keeps)
  succeeded_once state.Waiting own e = stays _ _ keeps refl refl none_taken
  succeeded_once (state.Refusing cause) own e = stays _ _ keeps refl refl none_taken
  succeeded_once state.Ended own e = stays _ _ keeps refl refl none_taken

  -- ---- each row

  row_once : (key : List ℕ) (s : Subscription) (seen : Seen) (r : Row) (n : Option UsimNote) (inner : Decrypted) → IsOfMethod p → Waits p r
      → Once (kept_by r p (peer_does key s keeps p seen r n inner).1.notes.counter keeps) (peer_does key s keeps p seen r n inner)
  row_once key s seen (row.Ignore cause) n inner own waits = stays _ _ keeps refl refl none_taken
  row_once key s seen row.Again n inner own waits = stays _ _ keeps refl refl none_taken
  row_once key s seen row.First n inner own waits = loses _ _ keeps refl refl none_taken
  row_once key s seen (row.Identity asked) n inner own waits = loses _ _ keeps refl refl none_taken
  row_once key s seen (row.Client cause) n inner own waits = loses _ _ keeps refl refl none_taken
  row_once key s seen (row.Reject cause) n inner own waits = loses _ _ keeps refl refl none_taken
  row_once key s seen (row.Notified code) n inner own waits = loses _ _ keeps refl refl none_taken
  row_once key s seen (row.Challenged c) n inner own waits = challenged_once s seen c n inner
  row_once key s seen row.Reauthentication n inner own waits = reauth_once key seen inner waits
  row_once key s seen row.Success n inner own waits = succeeded_once p.state own refl
  row_once key s seen (row.Failure cause) n inner own waits = loses _ _ keeps refl refl none_taken

-- each turn
pub each_turn_moves_once : EachTurnMovesOnce
each_turn_moves_once key s keeps p seen n inner t w own shown = row_once t w p keeps shown key s seen (peer_row p seen) n inner own (in_waits p p.state p.last seen refl)

-- ---- the method of a context

master_is : (m : Method) (identity ik ck : List ℕ) → method_of (master_of m identity ik ck) ≡ m
unfolding master_of
master_is method.Aka identity ik ck = refl
master_is method.Prime identity ik ck = refl

abbrev Own : PeerEnd × Turn PeerWhy → Type 0
Own x = IsOfMethod x.0

no_context : (c : Context) → ◌≡◌ {A = Option Context} None (Some c) → ⊥
no_context c e = cc

same_master : (c d : Context) → ◌≡◌ {A = Option Context} (Some c) (Some d) → c.master ≡ d.master
same_master c d e = cc

from_own : (keys : KeySet) (m : Master) (own : Method) (sqn : List ℕ) (identity : Option (List ℕ)) (c : Context) → method_of m ≡ own
    → place_in (state.Answered keys) (context_from keys m sqn identity) ≡ Some c → method_of c.master ≡ own
from_own keys m own sqn None c e f = absurd (no_context c f)
from_own keys m own sqn (Some identity) c e f = ap method_of (sym (same_master _ c f)) ∙ e

opened_own : (p : PeerEnd) (seen : Seen) (res sqn : List ℕ) (k : KeySet) (m : Master) (inner : Decrypted) → method_of m ≡ p.options.method → Own (opened p seen res sqn k m inner)
opened_own p seen res sqn k m decrypted.Unreadable e = λ c f. absurd (no_context c f)
opened_own p seen res sqn k m (decrypted.Attributes given) e = λ c f. from_own k m p.options.method sqn given.identity c e f

accepted_own : (p : PeerEnd) (seen : Seen) (c : Challenge) (res sqn : List ℕ) (k : KeySet) (m : Master) (inner : Decrypted) → method_of m ≡ p.options.method → Own (accepted p seen c res sqn k m inner)
accepted_own p seen c res sqn k m inner e =
    on_cond Own (not (is_sealed p.options.method k.k_aut [] seen)) (client p seen why.WrongMac (Some (note.Accepted sqn)) false) (genuine (accepting p seen c) seen res sqn k m inner)
    (λ d f. absurd (no_context d f))
    (on_cond Own (differs (own_code p) (checkcode seen)) (client (accepting p seen c) seen why.WrongCheckcode (Some (note.Accepted sqn)) true) (opened (accepting p seen c) seen res sqn k m inner)
    (λ d f. absurd (no_context d f)) (opened_own (accepting p seen c) seen res sqn k m inner e))

answer_own : (p : PeerEnd) (seen : Seen) (c : Challenge) (a : Answer) (inner : Decrypted) → Own (by_answer p seen c a inner)
answer_own p seen c answer.WrongMac inner = λ d f. absurd (no_context d f)
answer_own p seen c (answer.SyncFailure auts sqn) inner = λ d f. absurd (no_context d f)
answer_own p seen c (answer.Accepted res ck ik ak amf sqn) inner =
    accepted_own p seen c res sqn (keys_at p seen c ik ck) (master_at p seen c ik ck) inner (master_is p.options.method _ _ _)

challenged_own : (s : Subscription) (p : PeerEnd) (seen : Seen) (c : Challenge) (n : Option UsimNote) (inner : Decrypted) → IsOfMethod p → Own (challenged s p seen c n inner)
challenged_own s p seen c None inner own = own
challenged_own s p seen c (Some n) inner own = answer_own p seen c (answer_noted s.secret c n) inner

succeeded_own : (p : PeerEnd) (at' : PeerState) → IsOfMethod p → Own (succeeded p at')
succeeded_own p (state.Answered keys) own = λ d f. absurd (no_context d f)
succeeded_own p state.Waiting own = own
succeeded_own p (state.Refusing cause) own = own
succeeded_own p state.Ended own = own

reauth_own : (key : List ℕ) (keeps : Keeps) (p : PeerEnd) (seen : Seen) (inner : Decrypted) → IsOfMethod p → Own (reauthenticated key keeps p seen inner)
reauth_own key keeps p seen inner own =
    on_reauth Own key keeps p seen inner own
    (λ c here. record {
      missing = λ d f. absurd (no_context d f);
      wrong = λ d f. absurd (no_context d f);
      other = λ d f. absurd (no_context d f);
      hidden = λ d f. absurd (no_context d f);
      accepts = λ given k nonce is d f. absurd (no_context d f);
      refuses = λ given k nonce d f. absurd (no_context d f);
    })

row_own : (key : List ℕ) (s : Subscription) (keeps : Keeps) (p : PeerEnd) (seen : Seen) (r : Row) (n : Option UsimNote) (inner : Decrypted) → IsOfMethod p → Own (peer_does key s keeps p seen r n inner)
row_own key s keeps p seen (row.Ignore cause) n inner own = own
row_own key s keeps p seen row.Again n inner own = own
row_own key s keeps p seen row.First n inner own = λ d f. absurd (no_context d f)
row_own key s keeps p seen (row.Identity asked) n inner own = λ d f. absurd (no_context d f)
row_own key s keeps p seen (row.Client cause) n inner own = λ d f. absurd (no_context d f)
row_own key s keeps p seen (row.Reject cause) n inner own = λ d f. absurd (no_context d f)
row_own key s keeps p seen (row.Notified code) n inner own = λ d f. absurd (no_context d f)
row_own key s keeps p seen (row.Challenged c) n inner own = challenged_own s p seen c n inner own
row_own key s keeps p seen row.Reauthentication n inner own = reauth_own key keeps p seen inner own
row_own key s keeps p seen row.Success n inner own = succeeded_own p p.state own
row_own key s keeps p seen (row.Failure cause) n inner own = λ d f. absurd (no_context d f)

-- each turn
pub each_turn_is_of_method : EachTurnIsOfMethod
each_turn_is_of_method key s keeps p seen n inner own = row_own key s keeps p seen (peer_row p seen) n inner own

-- ---- the other method

abbrev Left : PeerEnd → Keeps → Keeps → Type 0
Left p keeps kept = (m : Method) → m ≢ p.options.method → entry m kept.contexts ≡ entry m keeps.contexts

counted_left : (p : PeerEnd) (keeps : Keeps) (n : Option CounterNote) → Left p keeps (counted_up p.options.method n keeps)
counted_left p keeps None = λ m e. refl
counted_left p keeps (Some (counts.Small k)) = λ m e. refl
counted_left p keeps (Some (counts.Taken k)) = λ m e. entry_other p.options.method m (accepting_counter k (entry p.options.method keeps.contexts)) keeps.contexts e

renamed_left : (p : PeerEnd) (keeps later : Keeps) (from : List ℕ) (to : Option (List ℕ)) (o : Option Context) → later.contexts ≡ keeps.contexts → Left p keeps (renamed p.options.method from to o later)
renamed_left p keeps later from to None same = λ m e. ap (λ (cs : ByMethod (Option Context)). entry m cs) same
renamed_left p keeps later from to (Some c) same = by (bytes_eq c.identity from)
  where
    by : (b : Bool) → Left p keeps (cond b (with_context p.options.method (under to c) later) later)
    by true = λ m e. entry_other p.options.method m (under to c) later.contexts e ∙ ap (λ (cs : ByMethod (Option Context)). entry m cs) same
    by false = λ m e. ap (λ (cs : ByMethod (Option Context)). entry m cs) same

adopted_left : (p : PeerEnd) (keeps later : Keeps) (keys : KeySet) (following : NextContext) → IsOfMethod p → p.state ≡ state.Answered keys → p.next ≡ following → later.contexts ≡ keeps.contexts
    → Left p keeps (with_next_context p.options.method following later)
adopted_left p keeps later keys next.Same own answered is same = λ m e. ap (λ (cs : ByMethod (Option Context)). entry m cs) same
adopted_left p keeps later keys (next.New c) own answered is same =
    let has : place_of p ≡ Some c = ap (λ (at' : PeerState). place_in at' p.next) answered ∙ ap (λ (following : NextContext). place_in (state.Answered keys) following) is in
    λ m e. ap (λ (other : Method). entry m (with_context other (Some c) later).contexts) (own c has) ∙ entry_other p.options.method m (Some c) later.contexts e
    ∙ ap (λ (cs : ByMethod (Option Context)). entry m cs) same
adopted_left p keeps later keys (next.Renamed from to) own answered is same = renamed_left p keeps later from to (entry p.options.method later.contexts) same

taken_left : (p : PeerEnd) (keeps : Keeps) (at' : PeerState) → IsOfMethod p → p.state ≡ at' → Left p keeps (taken_up at' p keeps)
taken_left p keeps (state.Answered keys) own e =
    adopted_left p keeps (with_next_pseudonym p.options.method (pseudonym_given p.inner) keeps) keys p.next own e refl (pseudonym_leaves p.options.method (pseudonym_given p.inner) keeps)
taken_left p keeps state.Waiting own e = λ m f. refl
taken_left p keeps (state.Refusing cause) own e = λ m f. refl
taken_left p keeps state.Ended own e = λ m f. refl

row_left : (p : PeerEnd) (keeps : Keeps) (r : Row) (n : Option CounterNote) → IsOfMethod p → Left p keeps (kept_by r p n keeps)
row_left p keeps (row.Ignore cause) n own = λ m e. refl
row_left p keeps row.Again n own = λ m e. refl
row_left p keeps row.First n own = λ m e. refl
row_left p keeps (row.Identity asked) n own = λ m e. refl
row_left p keeps (row.Client cause) n own = λ m e. refl
row_left p keeps (row.Reject cause) n own = λ m e. refl
row_left p keeps (row.Notified code) n own = λ m e. refl
row_left p keeps (row.Challenged c) n own = λ m e. refl
row_left p keeps row.Reauthentication n own = counted_left p keeps n
row_left p keeps row.Success n own = taken_left p keeps p.state own refl
row_left p keeps (row.Failure cause) n own = λ m e. refl

-- each turn
pub each_turn_leaves_the_other : EachTurnLeavesTheOther
each_turn_leaves_the_other key s keeps p seen n inner m own e =
    row_left p keeps (peer_row p seen) (peer_does key s keeps p seen (peer_row p seen) n inner).1.notes.counter own m e
