-- What was given is taken up with a right AT_MAC, and adopted at Success; and which counters are accepted.
use Rattle.std.proofs.Common.{◌≡◌, ◌⊎◌, ℕ, Bool, true, false, cond, not, List, [], Option, Some, None, refl, sym, ap, ◌∙◌, subst, inl, inr}
use Rattle.std.specs.Str.{bytes_eq}
use Rattle.std.proofs.lemmas.Bool.{leb-true}
use Rattle.std.proofs.lemmas.Slice.Eq.{bytes_eq-Decides}
use Rattle.auc_hmac.specs.declared.keys.KeySet.{KeySet}
use Rattle.auc_hmac.specs.declared.keys.Master.{Master}
use Rattle.auc_hmac.specs.declared.method.Method.{Method}
use Rattle.auc_packet.specs.Received.{Seen, is_sealed}
use Rattle.auc_peer.specs.Asking.{answer_noted}
use Rattle.auc_peer.specs.Attributes.{checkcode}
use Rattle.auc_peer.specs.Identities.{context_or}
use Rattle.auc_peer.specs.Laws.{AcceptedIsOfTheContext, Adopted, Counted, EachTurnAdopts, MayResume}
use Rattle.auc_peer.specs.Rows.{peer_row}
use Rattle.auc_peer.specs.Subscription.{Subscription}
use Rattle.auc_peer.specs.Table.{accepted, accepting, by_answer, challenged, client, context_named, counted_up, genuine, kept_by, keys_at, master_at, opened, own_code, peer_does, reauthenticated, succeeded, taken_up}
use Rattle.auc_peer.specs.declared.decrypted.Decrypted.{Decrypted}
use Rattle.auc_peer.specs.declared.decrypted.Decrypted.TheVariants as decrypted
use Rattle.auc_peer.specs.declared.peer.Challenge.{Challenge}
use Rattle.auc_peer.specs.Peer.{PeerEnd}
use Rattle.auc_peer.specs.declared.peer.PeerState.{PeerState}
use Rattle.auc_peer.specs.declared.peer.PeerState.TheVariants as state
use Rattle.auc_peer.specs.declared.rows.Row.{Row}
use Rattle.auc_peer.specs.declared.rows.Row.TheVariants as row
use Rattle.auc_seal.specs.Checkcode.{differs}
use Rattle.auc_vector.specs.declared.why.PeerWhy.{PeerWhy}
use Rattle.auc_vector.specs.declared.why.PeerWhy.TheVariants as why
use Rattle.auc_ident.specs.Permanent.{username}
use Rattle.auc_reauth.specs.Device.{Keeps, is_open}
use Rattle.auc_reauth.specs.Server.{if_named}
use Rattle.auc_reauth.specs.Store.{entry}
use Rattle.auc_reauth.specs.declared.context.Context.{Context}
use Rattle.auc_usim.specs.declared.answer.Answer.{Answer}
use Rattle.auc_usim.specs.declared.answer.Answer.TheVariants as answer
use Rattle.auc_vector.specs.declared.notes.CounterNote.{CounterNote}
use Rattle.auc_vector.specs.declared.notes.CounterNote.TheVariants as counts
use Rattle.auc_vector.specs.declared.notes.UsimNote.{UsimNote}
use Rattle.auc_vector.specs.declared.notes.UsimNote.TheVariants as note
use Rattle.auc_vector.specs.declared.turn.Turn.{Turn}
use Rattle.auc_peer.proofs.OptionLemmas.{on_cond}
use Rattle.auc_peer.proofs.ReauthLemmas.{on_reauth}

-- ---- what was given

abbrev Taken : PeerEnd → PeerEnd × Turn PeerWhy → Type 0
Taken p t = ((t.0.inner ≡ p.inner) × (t.0.next ≡ p.next)) ⊎ (t.1.checked ≡ true)

opened_taken : (p : PeerEnd) (seen : Seen) (res sqn : List ℕ) (k : KeySet) (m : Master) (inner : Decrypted) → (opened p seen res sqn k m inner).1.checked ≡ true
opened_taken p seen res sqn k m decrypted.Unreadable = refl
opened_taken p seen res sqn k m (decrypted.Attributes next) = refl

accepted_taken : (p : PeerEnd) (seen : Seen) (c : Challenge) (res sqn : List ℕ) (k : KeySet) (m : Master) (inner : Decrypted) → Taken p (accepted p seen c res sqn k m inner)
accepted_taken p seen c res sqn k m inner =
    on_cond (Taken p) (not (is_sealed p.options.method k.k_aut [] seen)) (client p seen why.WrongMac (Some (note.Accepted sqn)) false) (genuine (accepting p seen c) seen res sqn k m inner) (inl (refl, refl))
    (on_cond (Taken p) (differs (own_code p) (checkcode seen)) (client (accepting p seen c) seen why.WrongCheckcode (Some (note.Accepted sqn)) true) (opened (accepting p seen c) seen res sqn k m inner) (inr refl)
    (inr (opened_taken (accepting p seen c) seen res sqn k m inner)))

answer_taken : (p : PeerEnd) (seen : Seen) (c : Challenge) (a : Answer) (inner : Decrypted) → Taken p (by_answer p seen c a inner)
answer_taken p seen c answer.WrongMac inner = inl (refl, refl)
answer_taken p seen c (answer.SyncFailure auts sqn) inner = inl (refl, refl)
answer_taken p seen c (answer.Accepted res ck ik ak amf sqn) inner = accepted_taken p seen c res sqn (keys_at p seen c ik ck) (master_at p seen c ik ck) inner

challenged_taken : (s : Subscription) (p : PeerEnd) (seen : Seen) (c : Challenge) (n : Option UsimNote) (inner : Decrypted) → Taken p (challenged s p seen c n inner)
challenged_taken s p seen c None inner = inl (refl, refl)
challenged_taken s p seen c (Some n) inner = answer_taken p seen c (answer_noted s.secret c n) inner

succeeded_taken : (p : PeerEnd) (s : PeerState) → Taken p (succeeded p s)
succeeded_taken p (state.Answered keys) = inl (refl, refl)
succeeded_taken p state.Waiting = inl (refl, refl)
succeeded_taken p (state.Refusing cause) = inl (refl, refl)
succeeded_taken p state.Ended = inl (refl, refl)

reauth_taken : (key : List ℕ) (keeps : Keeps) (p : PeerEnd) (seen : Seen) (inner : Decrypted) → Taken p (reauthenticated key keeps p seen inner)
reauth_taken key keeps p seen inner =
    on_reauth (Taken p) key keeps p seen inner (inl (refl, refl))
    (λ c here. record {
      missing = inl (refl, refl);
      wrong = inl (refl, refl);
      other = inr refl;
      hidden = inr refl;
      accepts = λ given counter nonce is. inr refl;
      refuses = λ given counter nonce. inr refl;
    })

row_taken : (key : List ℕ) (s : Subscription) (keeps : Keeps) (p : PeerEnd) (seen : Seen) (r : Row) (n : Option UsimNote) (inner : Decrypted) → Taken p (peer_does key s keeps p seen r n inner)
row_taken key s keeps p seen (row.Ignore cause) n inner = inl (refl, refl)
row_taken key s keeps p seen row.Again n inner = inl (refl, refl)
row_taken key s keeps p seen row.First n inner = inl (refl, refl)
row_taken key s keeps p seen (row.Identity asked) n inner = inl (refl, refl)
row_taken key s keeps p seen (row.Client cause) n inner = inl (refl, refl)
row_taken key s keeps p seen (row.Reject cause) n inner = inl (refl, refl)
row_taken key s keeps p seen (row.Notified code) n inner = inl (refl, refl)
row_taken key s keeps p seen (row.Challenged c) n inner = challenged_taken s p seen c n inner
row_taken key s keeps p seen row.Reauthentication n inner = reauth_taken key keeps p seen inner
row_taken key s keeps p seen row.Success n inner = succeeded_taken p p.state
row_taken key s keeps p seen (row.Failure cause) n inner = inl (refl, refl)

-- ---- what the device keeps

abbrev Stored : PeerEnd → Keeps → Keeps → Turn PeerWhy → Type 0
Stored p keeps kept turn = (kept ≡ keeps) ⊎ (Adopted p turn keeps kept ⊎ Counted p turn keeps kept)

succeeded_stored : (p : PeerEnd) (s : PeerState) (keeps : Keeps) → Stored p keeps (taken_up s p keeps) (succeeded p s).1
succeeded_stored p (state.Answered keys) keeps = inr (inl (record { keys = keys; succeeded = refl; stored = refl }))
succeeded_stored p state.Waiting keeps = inl refl
succeeded_stored p (state.Refusing cause) keeps = inl refl
succeeded_stored p state.Ended keeps = inl refl

reauth_stored : (key : List ℕ) (keeps : Keeps) (p : PeerEnd) (seen : Seen) (inner : Decrypted)
    → Stored p keeps (counted_up p.options.method (reauthenticated key keeps p seen inner).1.notes.counter keeps) (reauthenticated key keeps p seen inner).1
reauth_stored key keeps p seen inner =
    on_reauth (λ t. Stored p keeps (counted_up p.options.method t.1.notes.counter keeps) t.1) key keeps p seen inner (inl refl)
    (λ c here. record {
      missing = inl refl;
      wrong = inl refl;
      other = inl refl;
      hidden = inl refl;
      accepts = λ given counter nonce is. inr (inr (record { counter = counter; noted = refl; checked = refl; stored = refl }));
      refuses = λ given counter nonce. inl refl;
    })

row_stored : (key : List ℕ) (s : Subscription) (keeps : Keeps) (p : PeerEnd) (seen : Seen) (r : Row) (n : Option UsimNote) (inner : Decrypted)
    → Stored p keeps (kept_by r p (peer_does key s keeps p seen r n inner).1.notes.counter keeps) (peer_does key s keeps p seen r n inner).1
row_stored key s keeps p seen (row.Ignore cause) n inner = inl refl
row_stored key s keeps p seen row.Again n inner = inl refl
row_stored key s keeps p seen row.First n inner = inl refl
row_stored key s keeps p seen (row.Identity asked) n inner = inl refl
row_stored key s keeps p seen (row.Client cause) n inner = inl refl
row_stored key s keeps p seen (row.Reject cause) n inner = inl refl
row_stored key s keeps p seen (row.Notified code) n inner = inl refl
row_stored key s keeps p seen (row.Challenged c) n inner = inl refl
row_stored key s keeps p seen row.Reauthentication n inner = reauth_stored key keeps p seen inner
row_stored key s keeps p seen row.Success n inner = succeeded_stored p p.state keeps
row_stored key s keeps p seen (row.Failure cause) n inner = inl refl

-- each turn
pub each_turn_adopts : EachTurnAdopts
each_turn_adopts key s keeps p seen n inner = record {
  taken = row_taken key s keeps p seen (peer_row p seen) n inner;
  stored = row_stored key s keeps p seen (peer_row p seen) n inner;
}

-- ---- the context of a counter that is accepted

abbrev Resumes : Keeps → PeerEnd → ℕ → PeerEnd × Turn PeerWhy → Type 0
Resumes keeps p counter t = t.1.notes.counter ≡ Some (counts.Taken counter) → MayResume keeps p counter

not_taken : (counter : ℕ) → ◌≡◌ {A = Option CounterNote} None (Some (counts.Taken counter)) → ⊥
not_taken counter e = cc

small_or_taken : (k counter : ℕ) → ◌≡◌ {A = Option CounterNote} (Some (counts.Small k)) (Some (counts.Taken counter)) → ⊥
small_or_taken k counter e = cc

same_taken : (k counter : ℕ) → ◌≡◌ {A = Option CounterNote} (Some (counts.Taken k)) (Some (counts.Taken counter)) → k ≡ counter
same_taken k counter e = cc

-- a context that has a name is the device's
named_is : (m : Method) (name : List ℕ) (o : Option Context) (c : Context) → if_named name o ≡ Some c → (o ≡ Some c) × (name ≡ c.identity)
named_is m name None c e = absurd cc
named_is m name (Some d) c e = by (bytes_eq d.identity name) refl e
  where
    by : (b : Bool) → bytes_eq d.identity name ≡ b → cond b (Some d) None ≡ Some c → (Some d ≡ Some c) × (name ≡ c.identity)
    by true f g = (g, sym ((bytes_eq-Decides d.identity name).0 f) ∙ ap (λ (o : Option Context). context_or [] o) g)
    by false f g = absurd cc

-- it is the device's, under the identity that was sent last
context_is : (keeps : Keeps) (p : PeerEnd) (sent : Option (List ℕ)) (c : Context) (counter : ℕ) → p.identity ≡ sent → context_named sent (entry p.options.method keeps.contexts) ≡ Some c
    → is_open counter (entry p.options.method keeps.contexts) ≡ true → MayResume keeps p counter
context_is keeps p None c counter is e o = absurd cc
context_is keeps p (Some text) c counter is e o =
    let found = named_is p.options.method (username text) (entry p.options.method keeps.contexts) c e in record {
      context = c;
      has = found.0;
      text = text;
      sent = is;
      same = found.1;
      is_open = leb-true c.counter counter (ap (λ (d : Option Context). is_open counter d) (sym found.0) ∙ o);
    }

succeeded_resumes : (keeps : Keeps) (p : PeerEnd) (counter : ℕ) (s : PeerState) → Resumes keeps p counter (succeeded p s)
succeeded_resumes keeps p counter (state.Answered keys) = λ e. absurd (not_taken counter e)
succeeded_resumes keeps p counter state.Waiting = λ e. absurd (not_taken counter e)
succeeded_resumes keeps p counter (state.Refusing cause) = λ e. absurd (not_taken counter e)
succeeded_resumes keeps p counter state.Ended = λ e. absurd (not_taken counter e)

-- a Challenge accepts no counter
opened_resumes : (keeps : Keeps) (q p : PeerEnd) (seen : Seen) (res sqn : List ℕ) (k : KeySet) (m : Master) (inner : Decrypted) (counter : ℕ) → Resumes keeps q counter (opened p seen res sqn k m inner)
opened_resumes keeps q p seen res sqn k m decrypted.Unreadable counter = λ e. absurd (not_taken counter e)
opened_resumes keeps q p seen res sqn k m (decrypted.Attributes given) counter = λ e. absurd (not_taken counter e)

accepted_resumes : (keeps : Keeps) (p : PeerEnd) (seen : Seen) (c : Challenge) (res sqn : List ℕ) (k : KeySet) (m : Master) (inner : Decrypted) (counter : ℕ)
    → Resumes keeps p counter (accepted p seen c res sqn k m inner)
accepted_resumes keeps p seen c res sqn k m inner counter =
    on_cond (Resumes keeps p counter) (not (is_sealed p.options.method k.k_aut [] seen)) (client p seen why.WrongMac (Some (note.Accepted sqn)) false) (genuine (accepting p seen c) seen res sqn k m inner)
    (λ e. absurd (not_taken counter e))
    (on_cond (Resumes keeps p counter) (differs (own_code p) (checkcode seen)) (client (accepting p seen c) seen why.WrongCheckcode (Some (note.Accepted sqn)) true) (opened (accepting p seen c) seen res sqn k m inner)
    (λ e. absurd (not_taken counter e)) (opened_resumes keeps p (accepting p seen c) seen res sqn k m inner counter))

answer_resumes : (keeps : Keeps) (p : PeerEnd) (seen : Seen) (c : Challenge) (a : Answer) (inner : Decrypted) (counter : ℕ) → Resumes keeps p counter (by_answer p seen c a inner)
answer_resumes keeps p seen c answer.WrongMac inner counter = λ e. absurd (not_taken counter e)
answer_resumes keeps p seen c (answer.SyncFailure auts sqn) inner counter = λ e. absurd (not_taken counter e)
answer_resumes keeps p seen c (answer.Accepted res ck ik ak amf sqn) inner counter =
    accepted_resumes keeps p seen c res sqn (keys_at p seen c ik ck) (master_at p seen c ik ck) inner counter

challenged_resumes : (s : Subscription) (keeps : Keeps) (p : PeerEnd) (seen : Seen) (c : Challenge) (n : Option UsimNote) (inner : Decrypted) (counter : ℕ) → Resumes keeps p counter (challenged s p seen c n inner)
challenged_resumes s keeps p seen c None inner counter = λ e. absurd (not_taken counter e)
challenged_resumes s keeps p seen c (Some n) inner counter = answer_resumes keeps p seen c (answer_noted s.secret c n) inner counter

reauth_resumes : (key : List ℕ) (keeps : Keeps) (p : PeerEnd) (seen : Seen) (inner : Decrypted) (counter : ℕ) → Resumes keeps p counter (reauthenticated key keeps p seen inner)
reauth_resumes key keeps p seen inner counter =
    on_reauth (Resumes keeps p counter) key keeps p seen inner (λ e. absurd (not_taken counter e))
    (λ c here. record {
      missing = λ e. absurd (not_taken counter e);
      wrong = λ e. absurd (not_taken counter e);
      other = λ e. absurd (not_taken counter e);
      hidden = λ e. absurd (not_taken counter e);
      accepts = λ given k nonce is e. subst (MayResume keeps p) (same_taken k counter e) (context_is keeps p p.identity c k refl is.context is.was_open);
      refuses = λ given k nonce e. absurd (small_or_taken k counter e);
    })

row_resumes : (key : List ℕ) (s : Subscription) (keeps : Keeps) (p : PeerEnd) (seen : Seen) (r : Row) (n : Option UsimNote) (inner : Decrypted) (counter : ℕ)
    → Resumes keeps p counter (peer_does key s keeps p seen r n inner)
row_resumes key s keeps p seen (row.Ignore cause) n inner counter = λ e. absurd (not_taken counter e)
row_resumes key s keeps p seen row.Again n inner counter = λ e. absurd (not_taken counter e)
row_resumes key s keeps p seen row.First n inner counter = λ e. absurd (not_taken counter e)
row_resumes key s keeps p seen (row.Identity asked) n inner counter = λ e. absurd (not_taken counter e)
row_resumes key s keeps p seen (row.Client cause) n inner counter = λ e. absurd (not_taken counter e)
row_resumes key s keeps p seen (row.Reject cause) n inner counter = λ e. absurd (not_taken counter e)
row_resumes key s keeps p seen (row.Notified code) n inner counter = λ e. absurd (not_taken counter e)
row_resumes key s keeps p seen (row.Challenged c) n inner counter = challenged_resumes s keeps p seen c n inner counter
row_resumes key s keeps p seen row.Reauthentication n inner counter = reauth_resumes key keeps p seen inner counter
row_resumes key s keeps p seen row.Success n inner counter = succeeded_resumes keeps p counter p.state
row_resumes key s keeps p seen (row.Failure cause) n inner counter = λ e. absurd (not_taken counter e)

-- each turn
pub accepted_is_of_the_context : AcceptedIsOfTheContext
accepted_is_of_the_context key s keeps p seen n inner counter e = row_resumes key s keeps p seen (peer_row p seen) n inner counter e
