-- For events: what they hand a USIM, and the USIMs after that.
use Rattle.std.proofs.lemmas.Bool.{ne_eqb}
use Rattle.std.proofs.Common.{◌≡◌, ◌≢◌, ℕ, ◌⊎◌, not, Bool, true, false, List, [], ◌∷◌, ◌++◌, refl, sym, ◌∙◌, ap, subst, inl, inr, append-nil, eq-eqb}
use Rattle.std.specs.Prelude.{Option, Some, None, slice_get, if◌then◌else◌}
use Rattle.std.proofs.lemmas.List.Sums.{fold_push}
use Rattle.auc_hmac.specs.declared.keys.KeySet.{KeySet}
use Rattle.auc_hmac.specs.declared.keys.Master.{Master}
use Rattle.auc_lines.specs.Part.{is_that}
use Rattle.auc_packet.specs.Received.{Seen, is_sealed}
use Rattle.auc_peer.specs.Asking.{answer_noted, note_of}
use Rattle.auc_peer.specs.Attributes.{checkcode}
use Rattle.auc_peer.specs.Rows.{peer_row}
use Rattle.auc_peer.specs.Subscription.{Subscription}
use Rattle.auc_peer.specs.Table.{accepted as accepted_turn, accepting, by_answer, client, genuine, keys_at, master_at, opened, own_code, peer_does}
use Rattle.auc_peer.specs.Turn.{AskedUsim as AsksDevice, asked}
use Rattle.auc_peer.specs.declared.decrypted.Decrypted.{Decrypted}
use Rattle.auc_peer.specs.declared.decrypted.Decrypted.TheVariants as decrypted
use Rattle.auc_peer.specs.declared.peer.Challenge.{Challenge}
use Rattle.auc_peer.specs.declared.peer.Peer.{Peer}
use Rattle.auc_peer.specs.declared.rows.Row.{Row as PeerRow}
use Rattle.auc_peer.specs.declared.rows.Row.TheVariants as row
use Rattle.auc_seal.specs.Checkcode.{differs}
use Rattle.auc_vector.specs.declared.why.PeerWhy.{PeerWhy}
use Rattle.auc_vector.specs.declared.why.PeerWhy.TheVariants as why
use Rattle.auc_reauth.specs.Device.{Keeps}
use Rattle.auc_sqn.specs.Number.{ind_of, seq_of}
use Rattle.auc_sqn.specs.Past.{ArrayValue, Past, Remembers, opening_past}
use Rattle.auc_subs.specs.Subscriber.{AreSubscribers}
use Rattle.auc_subs.specs.declared.row.Row.{Row}
use Rattle.auc_usim.specs.Usim.{IsAnswer, Memory, past_after_answer}
use Rattle.auc_usim.specs.declared.answer.Answer.{Answer}
use Rattle.auc_usim.specs.declared.answer.Answer.TheVariants as answer
use Rattle.auc_vector.specs.declared.notes.UsimNote.{UsimNote}
use Rattle.auc_vector.specs.declared.notes.UsimNote.TheVariants as note
use Rattle.auc_vector.specs.declared.turn.Turn.{Turn}
use Rattle.auc_world.proofs.Facts.{accepted-append}
use Rattle.auc_record.specs.Event.{Came, device_in, sqn_accepted, usim_in}
use Rattle.auc_world.specs.Came.{Presented}
use Rattle.auc_world.specs.Given.{AsksUsim, Before, UsimNotes, past_before, past_by, past_of}
use Rattle.auc_world.specs.Happened.{ToldEvent, peer_turn}
use Rattle.auc_record.specs.Lines.{accepted, accepted_by}
use Rattle.auc_world.specs.Net.{device_place, keeps_at}
use Rattle.auc_subs.specs.Setting.{Setting}
use Rattle.auc_world.specs.World.{IsHanded, WorldState, memory_of, usim_at, usim_of}
use Rattle.auc_record.specs.declared.event.EventRecord.{EventRecord}
use Rattle.auc_record.specs.declared.record.LineRecord.{LineRecord}
use Rattle.auc_record.specs.declared.record.LineRecord.TheVariants.{Event as Happening}
use Rattle.auc_cards.specs.Usims.{IsOfRow}
use Rattle.auc_jobs.specs.Usims.{AreBehind, HaveSecrets}
use Rattle.auc_jobs.proofs.PlaceLemmas.{one_place, placed_row}
use Rattle.auc_jobs.proofs.UsimLemmas.{Changes, changed_cases}

-- ---- the note of a USIM's answer

if_note : (b : Bool) (x y : Peer × Turn PeerWhy) (n : Option UsimNote) → x.1.notes.usim ≡ n → y.1.notes.usim ≡ n → (if b then x else y).1.notes.usim ≡ n
if_note true x y n first second = first
if_note false x y n first second = second

-- the turn tells the answer's note
noted_is : (p : Peer) (seen : Seen) (c : Challenge) (a : Answer) (inner : Decrypted) → (by_answer p seen c a inner).1.notes.usim ≡ Some (note_of a)
noted_is p seen c answer.WrongMac inner = refl
noted_is p seen c (answer.SyncFailure auts sqn) inner = refl
noted_is p seen c (answer.Accepted res ck ik ak amf sqn) inner = with_keys (keys_at p seen c ik ck) (master_at p seen c ik ck)
  where
    opened_note : (q : Peer) (keys : KeySet) (m : Master) (d : Decrypted) → (opened q seen res sqn keys m d).1.notes.usim ≡ Some (note.Accepted sqn)
    opened_note q keys m decrypted.Unreadable = refl
    opened_note q keys m (decrypted.Attributes next) = refl

    with_keys : (keys : KeySet) (m : Master) → (accepted_turn p seen c res sqn keys m inner).1.notes.usim ≡ Some (note.Accepted sqn)
    with_keys keys m =
        if_note (not (is_sealed p.options.method keys.k_aut [] seen)) (client p seen why.WrongMac (Some (note.Accepted sqn)) false) (genuine (accepting p seen c) seen res sqn keys m inner)
        (Some (note.Accepted sqn)) refl
        (if_note (differs (own_code (accepting p seen c)) (checkcode seen)) (client (accepting p seen c) seen why.WrongCheckcode (Some (note.Accepted sqn)) true) (opened (accepting p seen c) seen res sqn keys m inner)
        (Some (note.Accepted sqn)) refl (opened_note (accepting p seen c) keys m inner))

-- the row of a challenge that is handed to the USIM
challenged_row : (r : PeerRow) (c : Challenge) → asked r ≡ Some c → r ≡ row.Challenged c
challenged_row (row.Challenged d) c e = ap row.Challenged (one d c e)
  where
    one : (a b : Challenge) → Some a ≡ Some b → a ≡ b
    one a b e = cc
challenged_row (row.Ignore cause) c e = absurd (cc)
challenged_row row.Again c e = absurd (cc)
challenged_row row.First c e = absurd (cc)
challenged_row (row.Identity kind) c e = absurd (cc)
challenged_row (row.Client cause) c e = absurd (cc)
challenged_row (row.Reject cause) c e = absurd (cc)
challenged_row (row.Notified code) c e = absurd (cc)
challenged_row row.Reauthentication c e = absurd (cc)
challenged_row row.Success c e = absurd (cc)
challenged_row (row.Failure cause) c e = absurd (cc)

turn_note : (key : List ℕ) (s : Subscription) (keeps : Keeps) (p : Peer) (seen : Seen) (r : PeerRow) (c : Challenge) (n : UsimNote) (inner : Decrypted) → r ≡ row.Challenged c
    → (peer_does key s keeps p seen r (Some n) inner).1.notes.usim ≡ Some (note_of (answer_noted s.secret c n))
turn_note key s keeps p seen r c n inner is =
    ap (λ (x : PeerRow). (peer_does key s keeps p seen x (Some n) inner).1.notes.usim) is ∙ noted_is p seen c (answer_noted s.secret c n) inner

-- so the told note is the one of its answer
told_note : (set : Setting) (told : ToldEvent) (keeps : Keeps) (p : Presented) (c : Challenge) (n : UsimNote) → told.notes.usim ≡ Some n → p.challenge ≡ Some c → p.challenge ≡ asked (peer_row p.delivery.session.peer told.seen)
    → told.notes.usim ≡ (peer_turn set p.device keeps p.delivery.session told).1.notes.usim → told.notes.usim ≡ Some (note_of (answer_noted p.device.secret c n))
told_note set told keeps p c n is handed row_is turn =
    turn ∙ ap (λ (o : Option UsimNote). (peer_does set.key p.device keeps p.delivery.session.peer told.seen (peer_row p.delivery.session.peer told.seen) o told.inner).1.notes.usim) is
    ∙ turn_note set.key p.device keeps p.delivery.session.peer told.seen (peer_row p.delivery.session.peer told.seen) c n told.inner
    (challenged_row (peer_row p.delivery.session.peer told.seen) c (sym row_is ∙ handed))

-- the past after an answer, by its note
past_noted : (bits opening : ℕ) (sqns : List (List ℕ)) (a : Answer) → past_of bits opening (sqns ++ sqn_accepted (Some (note_of a))) ≡ past_after_answer bits (past_of bits opening sqns) a
past_noted bits opening sqns answer.WrongMac = ap (past_of bits opening) (append-nil sqns)
past_noted bits opening sqns (answer.SyncFailure auts sqn) = ap (past_of bits opening) (append-nil sqns)
past_noted bits opening sqns (answer.Accepted res ck ik ak amf sqn) = fold_push (λ (past : Past) (s : List ℕ). (seq_of bits s, ind_of bits s) ∷ past) (opening_past bits opening) sqns sqn

-- ---- the USIMs

-- what an event that reaches a device says of its USIM
pub record Hands (rows : List Row) (w new : WorldState) (told : ToldEvent) (c : Came) (p : Presented) : Type 0 where
  pub set : Setting
  pub at : device_place rows w.net.devices p.delivery.session.sub ≡ Some p.delivery.session.device
  pub same : new.net.devices ≡ w.net.devices
  pub subscribers : AreSubscribers rows
  pub secrets : HaveSecrets rows (usim_of rows w)
  pub handed : IsHanded p told w.devices new.devices
  pub reaches : device_in c ≡ Some p.delivery.session.sub
  pub usim : usim_in c ≡ told.notes.usim
  pub turn : told.notes.usim ≡ (peer_turn set p.device (keeps_at w.net p.delivery.session.device) p.delivery.session told).1.notes.usim
  pub hands : p.challenge ≡ asked (peer_row p.delivery.session.peer told.seen)

module _ (rows : List Row) (w new : WorldState) (told : ToldEvent) (c : Came) (p : Presented) (h : Hands rows w new told c p) where
  -- the other places stay
  pub elsewhere : (i : ℕ) → i ≢ p.delivery.session.sub → (o : Option ℕ) → device_place rows w.net.devices i ≡ o → usim_at new.devices o ≡ usim_at w.devices o
  elsewhere i other None is = refl
  elsewhere i other (Some place) is =
      ap memory_of (h.handed.others place (λ same. other (one_place rows w.net.devices i p.delivery.session.sub place h.subscribers is (h.at ∙ ap Some (sym same)))))

  -- its USIM changes
  abbrev pub hands_changes : Changes (usim_of rows w) p.delivery.session.sub (usim_of rows new)
  hands_changes = record {
    before = h.handed.before.usim;
    there = ap (usim_at w.devices) h.at ∙ ap memory_of h.handed.there;
    after = h.handed.after.usim;
    here = ap (λ (ds : List Subscription). usim_at new.devices (device_place rows ds p.delivery.session.sub)) h.same ∙ ap (usim_at new.devices) h.at ∙ ap memory_of h.handed.here;
    others = λ i other. ap (λ (ds : List Subscription). usim_at new.devices (device_place rows ds i)) h.same ∙ elsewhere i other (device_place rows w.net.devices i) refl;
    secret = h.handed.secret;
    bits = h.handed.bits;
    age = h.handed.age;
  }

  -- it is its row's
  before_row : (row : Row) → slice_get rows p.delivery.session.sub ≡ Some row → IsOfRow row h.handed.before.usim
  before_row row at = h.secrets p.delivery.session.sub row h.handed.before.usim at hands_changes.there

  -- what it remembers of its answers
  remembers : (challenge : Option Challenge) (n : Option UsimNote) (row : Row) (lines : List LineRecord) → IsOfRow row h.handed.before.usim → p.challenge ≡ challenge → told.notes.usim ≡ n
      → AsksDevice p.device challenge n h.handed.before.usim.array h.handed.after.usim.array
      → Remembers h.handed.before.usim.array (past_by row p.delivery.session.sub lines)
      → Remembers h.handed.after.usim.array (past_of row.bits row.usim (accepted row.bits p.delivery.session.sub lines ++ sqn_accepted told.notes.usim))
  remembers None n row lines of handed is asks past =
      subst (λ (array : ArrayValue). Remembers array (past_of row.bits row.usim (accepted row.bits p.delivery.session.sub lines ++ sqn_accepted told.notes.usim))) (sym asks.1)
      (subst (λ (sqns : List (List ℕ)). Remembers h.handed.before.usim.array (past_of row.bits row.usim sqns))
      (sym (ap (λ (o : Option UsimNote). accepted row.bits p.delivery.session.sub lines ++ sqn_accepted o) (is ∙ asks.0) ∙ append-nil (accepted row.bits p.delivery.session.sub lines))) past)
  remembers (Some challenge) None row lines of handed is asks past = absurd asks
  remembers (Some challenge) (Some n) row lines of handed is asks past =
      let a : Answer = answer_noted p.device.secret challenge n in
      subst (λ (x : Past). Remembers h.handed.after.usim.array x)
      (ap (λ (b : ℕ). past_after_answer b (past_by row p.delivery.session.sub lines) a) of.bits
      ∙ sym (ap (λ (o : Option UsimNote). past_of row.bits row.usim (accepted row.bits p.delivery.session.sub lines ++ sqn_accepted o)) (told_note h.set told (keeps_at w.net p.delivery.session.device) p challenge n is handed h.hands h.turn)
      ∙ past_noted row.bits row.usim (accepted row.bits p.delivery.session.sub lines) a))
      (asks (past_by row p.delivery.session.sub lines) past).1

  -- what the line says that it accepted
  accepted_own : (bits : ℕ) (r : EventRecord) (lines : List LineRecord) → r.result ≡ c
      → accepted bits p.delivery.session.sub (lines ++ Happening r ∷ []) ≡ accepted bits p.delivery.session.sub lines ++ sqn_accepted told.notes.usim
  accepted_own bits r lines is =
      accepted-append bits p.delivery.session.sub lines (Happening r ∷ [])
      ∙ ap (λ (sqns : List (List ℕ)). accepted bits p.delivery.session.sub lines ++ sqns) (append-nil (accepted_by bits p.delivery.session.sub (Happening r))
      ∙ rw (is, h.reaches, eq-eqb p.delivery.session.sub p.delivery.session.sub refl, h.usim) refl)

  accepted_other : (bits i : ℕ) (r : EventRecord) (lines : List LineRecord) → r.result ≡ c → p.delivery.session.sub ≢ i → accepted bits i (lines ++ Happening r ∷ []) ≡ accepted bits i lines
  accepted_other bits i r lines is other =
      accepted-append bits i lines (Happening r ∷ []) ∙ ap (λ (sqns : List (List ℕ)). accepted bits i lines ++ sqns) (none (is_that i (device_in c)) (ap (is_that i) h.reaches ∙ ne_eqb p.delivery.session.sub i other))
      ∙ append-nil (accepted bits i lines)
    where
      none : (b : Bool) → is_that i (device_in c) ≡ false → accepted bits i (Happening r ∷ []) ≡ []
      none b e = append-nil (accepted_by bits i (Happening r)) ∙ rw (is, e) refl

  -- all of them after it
  pub hands_behind : (r : EventRecord) (lines : List LineRecord) → r.result ≡ c → AreBehind rows lines (usim_of rows w) → AreBehind rows (lines ++ Happening r ∷ []) (usim_of rows new)
  hands_behind r lines is behind i row usim at there = step (changed_cases (usim_of rows w) (usim_of rows new) p.delivery.session.sub i usim hands_changes there)
    where
      step : ((p.delivery.session.sub ≡ i) × (h.handed.after.usim ≡ usim)) ⊎ ((p.delivery.session.sub ≢ i) × (usim_of rows w i ≡ Some usim))
          → Remembers usim.array (past_by row i (lines ++ Happening r ∷ []))
      step (inl (same, one)) =
          let there : slice_get rows p.delivery.session.sub ≡ Some row = subst (λ (s : ℕ). slice_get rows s ≡ Some row) (sym same) at in
          subst (λ (m : Memory). Remembers m.array (past_by row i (lines ++ Happening r ∷ []))) one
          (subst (λ (s : ℕ). Remembers h.handed.after.usim.array (past_by row s (lines ++ Happening r ∷ []))) same
          (subst (λ (sqns : List (List ℕ)). Remembers h.handed.after.usim.array (past_of row.bits row.usim sqns)) (sym (accepted_own row.bits r lines is))
          (remembers p.challenge told.notes.usim row lines (before_row row there) refl refl h.handed.asked
          (behind p.delivery.session.sub row h.handed.before.usim there hands_changes.there))))
      step (inr (other, one)) =
          subst (λ (sqns : List (List ℕ)). Remembers usim.array (past_of row.bits row.usim sqns)) (sym (accepted_other row.bits i r lines is other)) (behind i row usim at one)

  -- what it answered
  notes : (row : Row) (past : Past) (challenge : Option Challenge) (n : Option UsimNote) → IsOfRow row h.handed.before.usim
      → AsksDevice p.device challenge n h.handed.before.usim.array h.handed.after.usim.array
      → Remembers h.handed.before.usim.array past → UsimNotes p.device.secret row past challenge n
  notes row past None n of asks remember = asks.0
  notes row past (Some challenge) None of asks remember = asks
  notes row past (Some challenge) (Some n) of asks remember =
      let a : Answer = answer_noted p.device.secret challenge n in
      subst (λ (b : ℕ). IsAnswer p.device.secret b row.age past challenge.rand challenge.autn a) of.bits
      (subst (λ (age : Option ℕ). IsAnswer p.device.secret h.handed.before.usim.array.bits age past challenge.rand challenge.autn a) of.age (asks past remember).0)

  pub hands_asked : (set : Setting) (before : Before) → set.rows ≡ rows → AreBehind rows (before.early ++ before.beside ++ before.own) (usim_of rows w) → AsksUsim set before p told
  hands_asked set before is behind =
      let (row, there) = placed_row rows w.net.devices p.delivery.session.sub p.delivery.session.device h.at in
      let past : Remembers h.handed.before.usim.array (past_before before row p.delivery.session.sub) = behind p.delivery.session.sub row h.handed.before.usim there hands_changes.there in
      record {
        row = row;
        there = ap (λ (rs : List Row). slice_get rs p.delivery.session.sub) is ∙ there;
        answers = notes row (past_before before row p.delivery.session.sub) p.challenge told.notes.usim (before_row row there) h.handed.asked past;
        decrypts = h.handed.decrypts (past_before before row p.delivery.session.sub) past;
      }
