-- For the law of contexts: what an event does to homes: ordinals rise, a new context is of a number that was drawn for its
-- subscriber, and no server takes up a context of a subscriber whose home isn't there.
use Rattle.std.proofs.Common.{◌≡◌, ◌≢◌, ◌⊎◌, ℕ, suc, ◌≤◌, ◌==◌, Bool, true, false, cond, List, [], ◌∷◌, ◌++◌, length, map, All, Option, Some, None, slice_get, slice_set, refl, sym, ap, ◌∙◌, subst, arith, inl, inr, ⊎_elim}
use Rattle.std.specs.Prelude.{if◌then◌else◌}
use Rattle.std.proofs.lemmas.Bool.{eq-eqb, eqb-true}
use Rattle.std.proofs.lemmas.List.{length-map}
use Rattle.std.proofs.lemmas.List.Elements.{All-set}
use Rattle.std.proofs.lemmas.List.Quantifiers.{position-Some}
use Rattle.std.proofs.lemmas.Option.{get_or_from_slice_get, slice_get_within}
use Rattle.auc_hmac.specs.declared.method.Method.{Method}
use Rattle.auc_lines.specs.Part.{is_that}
use Rattle.auc_reauth.specs.Server.{no_contexts}
use Rattle.auc_reauth.specs.declared.context.Context.{Context}
use Rattle.auc_server.proofs.Facts.{turn_options}
use Rattle.auc_server.specs.Laws.{OrdinalsRise}
use Rattle.auc_server.specs.Moves.{is_at, waiting, waiting_at}
use Rattle.auc_server.specs.Ordinals.{home_at, home_place}
use Rattle.auc_server.specs.Rows.{server_row}
use Rattle.auc_server.specs.Server.{ServerEnd}
use Rattle.auc_subs.specs.Setting.{Setting}
use Rattle.auc_server.specs.Steps.{asking}
use Rattle.auc_server.specs.declared.options.ServerOptions.{ServerOptions}
use Rattle.auc_server.specs.declared.setting.HomeRow.{HomeRow}
use Rattle.auc_vector.specs.Notes.{Asking}
use Rattle.auc_vector.specs.declared.notes.Notes.{Notes}
use Rattle.auc_vector.specs.declared.notes.NumberNote.{NumberNote}
use Rattle.auc_vector.specs.declared.notes.NumberNote.TheVariants as number
use Rattle.auc_world.proofs.Facts.{homes_alike, turn_subs}
use Rattle.auc_record.specs.Event.{Came, number_released}
use Rattle.auc_world.specs.Came.{TellsNotes, asked_sub, came}
use Rattle.auc_world.specs.Happened.{ToldEvent, happened, server_turn}
use Rattle.auc_record.specs.Lines.{numbers_of}
use Rattle.auc_world.specs.Net.{Net, same_method}
use Rattle.auc_world.specs.Places.{home_places, server_at, server_leaves}
use Rattle.auc_record.specs.declared.event.Event.{Event as Happens}
use Rattle.auc_world.specs.declared.net.Session.{Session}
use Rattle.auc_record.specs.declared.record.LineRecord.TheVariants.{Event}
use Rattle.auc_transcript.proofs.HomeEventLemmas.{IsQuiet, ResumeOthers, ResumesAnother, TakesTurn, event_changes, other_place, same_place, set_elsewhere, set_here}
use Rattle.auc_transcript.proofs.HomeTurnLemmas.{AreOthers, AsksFor, IsWithin, turn_apart, turn_leaves, turn_within}
use Rattle.auc_transcript.proofs.PutBackLemmas.{home_among, place_among}

-- ---- places of homes

abbrev pub AreAlike : List HomeRow → List HomeRow → Type 0
AreAlike later homes = map (λ (home : HomeRow). home.sub) later ≡ map (λ (home : HomeRow). home.sub) homes

-- the place of a home stays if the homes' subscribers do
pub place_stays : (homes later : List HomeRow) (sub : ℕ) → AreAlike later homes → home_place later sub ≡ home_place homes sub
place_stays homes later sub same = home_among later sub ∙ ap (place_among sub) same ∙ sym (home_among homes sub)

abbrev nobody : HomeRow
nobody = record { sub = 0; ordinals = 0; store = no_contexts }

-- a home is that of its subscriber
pub is_placed : (homes : List HomeRow) (sub place : ℕ) → home_place homes sub ≡ Some place → (home_at homes place).sub ≡ sub
is_placed homes sub place e = eqb-true (home_at homes place).sub sub (position-Some (λ (home : HomeRow). home.sub == sub) homes place nobody e).1

waiting_stays : (place : ℕ) (homes later : List HomeRow) (left : Option (ℕ × Context)) → AreAlike later homes → waiting_at place later left ≡ waiting_at place homes left
waiting_stays place homes later None same = refl
waiting_stays place homes later (Some c) same = ap (λ (p : Option ℕ). cond (is_at place p) (Some c.1) None) (place_stays homes later c.0 same)

leaves_stays : (m : Method) (place : ℕ) (homes later : List HomeRow) (o : Option ServerEnd) → AreAlike later homes → server_leaves m place later o ≡ server_leaves m place homes o
leaves_stays m place homes later None alike = refl
leaves_stays m place homes later (Some s) alike =
    ap (λ (c : Option Context). cond (same_method s.options.method m) c None) (waiting_stays place homes later (waiting s.state) alike)

server_stays : (m : Method) (place : ℕ) (homes later : List HomeRow) (o : Option Session) → AreAlike later homes → server_at m place later o ≡ server_at m place homes o
server_stays m place homes later None alike = refl
server_stays m place homes later (Some session) alike = leaves_stays m place homes later session.server alike

-- ---- what waits

picked : (b : Bool) (x : Option Context) (c : Context) → cond b x None ≡ Some c → (b ≡ true) × (x ≡ Some c)
picked true x c e = (refl, e)
picked false x c e = absurd cc

at_is : (place : ℕ) (o : Option ℕ) → is_at place o ≡ true → o ≡ Some place
at_is place None e = absurd cc
at_is place (Some p) e = ap (λ (n : ℕ). Some n) (eqb-true p place e)

-- a context that waits for the home of a place is of the home's subscriber
waits_for : (homes : List HomeRow) (sub place : ℕ) (left : Option (ℕ × Context)) (c : Context) → home_place homes sub ≡ Some place → waiting_at place homes left ≡ Some c → left ≡ Some (sub, c)
waits_for homes sub place None c placed e = absurd cc
waits_for homes sub place (Some x) c placed e =
    let (at, is) = picked (is_at place (home_place homes x.0)) (Some x.1) c e in
    let same = sym (is_placed homes x.0 place (at_is place (home_place homes x.0) at)) ∙ is_placed homes sub place placed in
    pair x sub c same is
  where
    pair : (x : ℕ × Context) (sub : ℕ) (c : Context) → x.0 ≡ sub → ◌≡◌ {A = Option Context} (Some x.1) (Some c) → ◌≡◌ {A = Option (ℕ × Context)} (Some x) (Some (sub, c))
    pair (a, b) sub c e f = let same : b ≡ c = cc in cc

waits_here : (homes : List HomeRow) (sub place : ℕ) (c : Context) → home_place homes sub ≡ Some place → waiting_at place homes (Some (sub, c)) ≡ Some c
waits_here homes sub place c placed =
    ap (λ (o : Option ℕ). cond (is_at place o) (Some c) None) placed ∙ ap (λ (b : Bool). cond b (Some c) None) (eq-eqb place place refl)

-- the number that was drawn for a subscriber is that of the line
asked_number : (sub n : ℕ) (asked : Option Asking) (drew : Option NumberNote) → AsksFor sub asked → drew ≡ Some (number.Drew n)
    → number_released (if is_that sub (asked_sub asked) then drew else None) ++ [] ≡ n ∷ []
asked_number sub n None drew is drawn = absurd is
asked_number sub n (Some request) drew is drawn =
    ap (λ (b : Bool). number_released (if b then drew else None) ++ []) (eq-eqb request.sub sub is) ∙ ap (λ (o : Option NumberNote). number_released o ++ []) drawn

-- ---- an event

pub record HomesNext (set : Setting) (w next : Net) (told : ToldEvent) (result : Came) : Type 0 where
  pub alike : AreAlike next.homes w.homes
  pub rises : (place : ℕ) → (home_at w.homes place).ordinals ≤ (home_at next.homes place).ordinals
  pub within : (place : ℕ) → IsWithin place w.homes → IsWithin place next.homes
  pub stores : length next.stores ≡ length w.stores
  -- a new context is of a number that was drawn for its subscriber
  pub asks : (m : Method) (sub place t : ℕ) (c : Context) (n : ℕ) → home_place w.homes sub ≡ Some place → TellsNotes told result → home_places m place next (suc t) ≡ Some c
      → told.notes.number ≡ Some (number.Drew n)
      → (home_places m place w (suc t) ≡ Some c) ⊎ ((e : Happens) → numbers_of sub (Event (record { event = e; result = result }) ∷ []) ≡ n ∷ [])
  -- no server takes up a context of a subscriber whose home isn't there
  pub others : (sub : ℕ) → AreOthers sub w.homes → ResumeOthers sub w.sessions → ResumeOthers sub next.sessions

quiet_next : (set : Setting) (w next : Net) (told : ToldEvent) (result : Came) → IsQuiet w next → HomesNext set w next told result
quiet_next set w next told result q = record {
  alike = ap (λ (hs : List HomeRow). map (λ (home : HomeRow). home.sub) hs) q.homes;
  rises = λ place. let same = ap (λ (hs : List HomeRow). (home_at hs place).ordinals) q.homes in omega (arith, same);
  within = λ place within. subst (IsWithin place) (sym q.homes) within;
  stores = q.stores;
  asks = λ m sub place t c n placed tells left drawn.
      inl (q.leaves m place t c (ap (λ (hs : List HomeRow). server_at m place hs (slice_get next.sessions t)) (sym q.homes) ∙ left));
  others = λ sub others all. q.resumes sub all;
}

module _ (law : OrdinalsRise) (set : Setting) (w next : Net) (told : ToldEvent) (result : Came) (t : TakesTurn set w next told result) where
  new : ServerEnd
  new = (server_turn set w t.server told).0

  abbrev changed : Session
  changed = record t.session { server = Some (server_turn set w t.server told).0 }

  alike : AreAlike next.homes w.homes
  alike = ap (λ (hs : List HomeRow). map (λ (home : HomeRow). home.sub) hs) t.homes ∙ turn_subs set w.homes t.server told.seen told.reply told.notes

  notes_are : TellsNotes told result → told.notes ≡ (server_turn set w t.server told).1.notes
  notes_are tells = subst (TellsNotes told) t.comes tells

  -- what the server left before
  left_before : (m : Method) (sub place : ℕ) (c : Context) → home_place w.homes sub ≡ Some place → same_method t.server.options.method m ≡ true
      → waiting t.server.state ≡ Some (sub, c) → home_places m place w (suc t.place) ≡ Some c
  left_before m sub place c placed same waits =
      ap (server_at m place w.homes) t.there ∙ ap (server_leaves m place w.homes) t.is
      ∙ ap (λ (b : Bool). cond b (waiting_at place w.homes (waiting t.server.state)) None) same
      ∙ ap (waiting_at place w.homes) waits ∙ waits_here w.homes sub place c placed

  numbers_are : (sub n : ℕ) (e : Happens) → AsksFor sub (asking (server_row set w.homes t.server told.seen told.reply))
      → (server_turn set w t.server told).1.notes.number ≡ Some (number.Drew n) → numbers_of sub (Event (record { event = e; result = result }) ∷ []) ≡ n ∷ []
  numbers_are sub n e asks drawn =
      ap (λ (r : Came). numbers_of sub (Event (record { event = e; result = r }) ∷ [])) t.comes
      ∙ asked_number sub n (asking (server_row set w.homes t.server told.seen told.reply)) (server_turn set w t.server told).1.notes.number asks drawn

  asks_here : (m : Method) (sub place : ℕ) (c : Context) (n : ℕ) → home_place w.homes sub ≡ Some place → TellsNotes told result
      → cond (same_method (server_turn set w t.server told).0.options.method m)
      (waiting_at place next.homes (waiting (server_turn set w t.server told).0.state)) None ≡ Some c
      → told.notes.number ≡ Some (number.Drew n)
      → (home_places m place w (suc t.place) ≡ Some c) ⊎ ((e : Happens) → numbers_of sub (Event (record { event = e; result = result }) ∷ []) ≡ n ∷ [])
  asks_here m sub place c n placed tells left drawn =
      let turn = server_turn set w t.server told in
      let (same, waits) = picked (same_method turn.0.options.method m) (waiting_at place next.homes (waiting turn.0.state)) c left in
      let waits_now = waits_for w.homes sub place (waiting turn.0.state) c placed (sym (waiting_stays place w.homes next.homes (waiting turn.0.state) alike) ∙ waits) in
      let drawn_now = sym (ap (λ (ns : Notes). ns.number) (notes_are tells)) ∙ drawn in
      let same_before = sym (ap (λ (o : ServerOptions). same_method o.method m) (turn_options set w.homes t.server told.seen told.reply told.notes)) ∙ same in
      ⊎_elim (λ (before : waiting t.server.state ≡ Some (sub, c)). inl (left_before m sub place c placed same_before before))
      (λ (asks : AsksFor sub (asking (server_row set w.homes t.server told.seen told.reply))). inr (λ e. numbers_are sub n e asks drawn_now))
      (turn_leaves sub c n set w.homes t.server told.seen told.reply told.notes waits_now drawn_now)

  turn_asks : (m : Method) (sub place i : ℕ) (c : Context) (n : ℕ) → home_place w.homes sub ≡ Some place → TellsNotes told result → home_places m place next (suc i) ≡ Some c
      → told.notes.number ≡ Some (number.Drew n)
      → (home_places m place w (suc i) ≡ Some c) ⊎ ((e : Happens) → numbers_of sub (Event (record { event = e; result = result }) ∷ []) ≡ n ∷ [])
  turn_asks m sub place i c n placed tells left drawn = by (i == t.place) refl (ap (λ (l : List Session). server_at m place next.homes (slice_get l i)) (sym t.sessions) ∙ left)
    where
      by : (b : Bool) → (i == t.place) ≡ b → server_at m place next.homes (slice_get (slice_set w.sessions t.place changed) i) ≡ Some c
          → (home_places m place w (suc i) ≡ Some c) ⊎ ((e : Happens) → numbers_of sub (Event (record { event = e; result = result }) ∷ []) ≡ n ∷ [])
      by true e there =
          let at = same_place i t.place e in
          let here = sym (ap (λ (j : ℕ). server_at m place next.homes (slice_get (slice_set w.sessions t.place changed) j)) at
          ∙ ap (server_at m place next.homes) (set_here w.sessions t.place t.session changed t.there)) ∙ there in
          subst (λ (j : ℕ). (home_places m place w (suc j) ≡ Some c) ⊎ ((e : Happens) → numbers_of sub (Event (record { event = e; result = result }) ∷ []) ≡ n ∷ [])) (sym at)
          (asks_here m sub place c n placed tells here drawn)
      by false e there =
          inl (sym (ap (server_at m place next.homes) (set_elsewhere w.sessions t.place i changed (other_place i t.place e))
          ∙ server_stays m place w.homes next.homes (slice_get w.sessions i) alike) ∙ there)

  turn_others : (sub : ℕ) → AreOthers sub w.homes → ResumeOthers sub w.sessions → ResumeOthers sub next.sessions
  turn_others sub others all =
      let before = subst (ResumesAnother sub) t.is (at (λ (s : Session). ResumesAnother sub s.server) w.sessions t.place t.session all t.there) in
      subst (ResumeOthers sub) (sym t.sessions)
      (All-set (λ (s : Session). ResumesAnother sub s.server) w.sessions t.place changed
      (turn_apart sub set w.homes t.server told.seen told.reply told.notes others before) all)
    where
      at : {X : Type 0} (P : X → Type 0) (xs : List X) (i : ℕ) (x : X) → All P xs → slice_get xs i ≡ Some x → P x
      at P xs i x all there = subst P (get_or_from_slice_get xs i x x there) (all i x (slice_get_within xs i x there))

  turn_next : HomesNext set w next told result
  turn_next = record {
    alike = alike;
    rises = λ place.
        let same = ap (λ (hs : List HomeRow). (home_at hs place).ordinals) t.homes in
        let rise = (law set w.homes t.server told.seen told.reply told.notes place).ordinals in omega (arith, same, rise);
    within = λ place within. subst (IsWithin place) (sym t.homes) (turn_within place set w.homes t.server told.seen told.reply told.notes within);
    stores = t.stores;
    asks = turn_asks;
    others = turn_others;
  }

pub homes_next : OrdinalsRise → (set : Setting) (w : Net) (e : Happens) (told : ToldEvent) → HomesNext set w (happened set w e told) told (came set w e told)
homes_next law set w e told =
    ⊎_elim (λ (t : TakesTurn set w (happened set w e told) told (came set w e told)). turn_next law set w (happened set w e told) told (came set w e told) t)
    (λ (q : IsQuiet w (happened set w e told)). quiet_next set w (happened set w e told) told (came set w e told) q) (event_changes set w e told)

-- as many homes
pub as_many : (homes later : List HomeRow) → AreAlike later homes → length later ≡ length homes
as_many homes later same =
    sym (length-map later (λ (home : HomeRow). home.sub)) ∙ ap (λ (l : List ℕ). length l) same ∙ length-map homes (λ (home : HomeRow). home.sub)

pub others_stay : (sub : ℕ) (homes later : List HomeRow) → AreAlike later homes → AreOthers sub homes → AreOthers sub later
others_stay sub homes later same others = homes_alike (λ (n : ℕ). n ≢ sub) homes later same others
