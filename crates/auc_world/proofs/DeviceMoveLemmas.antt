-- Each event makes at most one move of the contexts on each device.
use Rattle.std.proofs.Common.{◌≡◌, ◌≢◌, ◌⊎◌, ℕ, zero, suc, ◌==◌, ◌&&◌, Bool, true, false, cond, List, [], ◌∷◌, ◌++◌, All, Option, Some, None, slice_get, slice_set, refl, sym, ap, ◌∙◌, subst, inl, inr, ⊎_elim}
use Rattle.std.specs.Prelude.{IsPermutation}
use Rattle.std.proofs.lemmas.List.Elements.{All-nil, All-push, All-set, All-weaker}
use Rattle.std.proofs.lemmas.List.Sorted.{IsPermutation-refl}
use Rattle.auc_hmac.specs.declared.keys.KeySet.{KeySet}
use Rattle.auc_hmac.specs.declared.method.Method.{Method}
use Rattle.auc_hmac.specs.declared.method.Method.TheVariants as method
use Rattle.auc_lines.specs.declared.part.End.{End}
use Rattle.auc_lines.specs.declared.part.End.TheVariants as end
use Rattle.auc_lines.specs.declared.part.SessionLine.{SessionLine}
use Rattle.auc_peer.specs.Laws.{EachTurnMoves}
use Rattle.auc_peer.specs.Places.{EachTurnIsOfMethod, EachTurnLeavesTheOther, EachTurnMovesOnce, IsMoveOf, IsOfMethod, MovesOnce, Originates, Shows, place_of}
use Rattle.auc_peer.specs.Places as peer_places
use Rattle.auc_peer.specs.Subscription.{Subscription}
use Rattle.auc_peer.specs.Table.{gave_up as peer_gave_up}
use Rattle.auc_peer.specs.declared.peer.Peer.{Peer}
use Rattle.auc_peer.specs.declared.peer.PeerState.{PeerState}
use Rattle.auc_peer.specs.declared.peer.PeerState.TheVariants as peer_state
use Rattle.auc_reauth.specs.Device.{Keeps, is_open, nothing_kept}
use Rattle.auc_reauth.specs.Machine.{Accept, Adopt, Challenge, HomePast, Lose, Move, Places, Resume, Used, Win, accepted_in, renamed, with_place}
use Rattle.auc_reauth.specs.Store.{entry}
use Rattle.auc_reauth.specs.declared.context.Context.{Context}
use Rattle.auc_server.specs.Moves.{moved_by}
use Rattle.auc_server.specs.Server.{ServerEnd, started}
use Rattle.auc_subs.specs.Setting.{Setting}
use Rattle.auc_server.specs.Table.{gave_up}
use Rattle.auc_subs.specs.Subscriber.{AreSubscribers}
use Rattle.auc_vector.specs.declared.notes.CounterNote.{CounterNote}
use Rattle.auc_vector.specs.declared.notes.CounterNote.TheVariants as counts
use Rattle.auc_vector.specs.declared.notes.Notes.{Notes}
use Rattle.auc_world.specs.Agreement.{Happening, IsFresh, Noted, Occurs, after, after_one}
use Rattle.auc_world.specs.Came.{TellsNotes, came, came_at_peer, came_delivered}
use Rattle.auc_world.specs.Happened.{Delivery, ToldEvent, at_place, at_session, delivered, delivery_at, delivery_of, give_up, happened, in_session, kept_after, keys_won, moved, new_session, opened, peer_turn, repeat, server_gives_up, server_turn, start, to_peer, to_server, changed_in, with_copy}
use Rattle.auc_world.specs.Net.{Net, device_place, keeps_at, keeps_or, packet_at, same_method, session_place}
use Rattle.auc_world.specs.Places.{DeviceMoves, EachEventMovesDevicesOnce, EachMoves, IsDeviceMove, TellsItsNotes, device_places, only, peer_at}
use Rattle.auc_world.specs.Resumption.{accepted_for, accepted_of, counters_accepted}
use Rattle.auc_record.specs.declared.event.Event.{Event}
use Rattle.auc_record.specs.declared.event.Event.TheVariants as event
use Rattle.auc_world.specs.declared.net.SentPacket.{SentPacket}
use Rattle.auc_world.specs.declared.net.Session.{Session}
use Rattle.auc_world.proofs.HomeMoveLemmas.{leaves, other_number, picks, same_number, session_apart, is_same, store_apart, at_same, at_other}
use Rattle.auc_world.proofs.PeerMoveLemmas.{Counts, IsNamed, IsQuiet, giving_up_counts, new_is_quiet, taken_in, turn_counts}
use Rattle.auc_world.proofs.PlaceMoveLemmas.{adds, apart, at, get_here, get_there, method_is, method_other, method_same, pushes, same_both, suc_is}
use Rattle.auc_world.proofs.RowPlaceLemmas.{places_differ}

-- the laws of a peer
pub record PeerLaws : Type 0 where
  pub moves : EachTurnMovesOnce
  pub of_method : EachTurnIsOfMethod
  pub leaves : EachTurnLeavesTheOther
  pub options : EachTurnMoves

-- ---- what a network's peers keep

pub record PeerFine (set : Setting) (devices : List Subscription) (session : Session) : Type 0 where
  pub own : IsOfMethod session.peer
  pub quiet : IsQuiet session.peer
  pub placed : device_place set.rows devices session.sub ≡ Some session.device

abbrev AllFine : Setting → Net → Type 0
AllFine set w = All (PeerFine set w.devices) w.sessions

-- a network after an event
pub record DeviceNext (set : Setting) (w v : Net) (notes : Notes) (T : Type 0) : Type 0 where
  pub devices : v.devices ≡ w.devices
  pub fine : AllFine set w → AllFine set v
  pub moves : T → AllFine set w → AreSubscribers set.rows → (m : Method) (sub place : ℕ) → device_place set.rows w.devices sub ≡ Some place → DeviceMoves m sub place w v notes

unmoved : (m : Method) (sub place : ℕ) (w v : Net) (notes : Notes) → ((i : ℕ) → device_places m place v i ≡ device_places m place w i)
    → counters_accepted m sub v.sessions ≡ counters_accepted m sub w.sessions → DeviceMoves m sub place w v notes
unmoved m sub place w v notes same used = record {
  move = None;
  is_allowed = tt;
  places = same;
  used = subst (IsPermutation (counters_accepted m sub w.sessions)) (sym used) (IsPermutation-refl (counters_accepted m sub w.sessions));
}

still : (set : Setting) (w : Net) (notes : Notes) (T : Type 0) → DeviceNext set w w notes T
still set w notes T = record {
  devices = refl;
  fine = λ h. h;
  moves = λ told h are m sub place e. unmoved m sub place w w notes (λ i. refl) refl;
}

one_sub : (set : Setting) (devices : List Subscription) (sub other place : ℕ) → AreSubscribers set.rows → device_place set.rows devices sub ≡ Some place
    → device_place set.rows devices other ≡ Some place → other ≡ sub
one_sub set devices sub other place are e f = by (other == sub) refl
  where
    by : (b : Bool) → (other == sub) ≡ b → other ≡ sub
    by true g = same_number other sub g
    by false g = absurd (places_differ set.rows devices sub other place are e (apart other sub g) f)

some_place : (a b : ℕ) → ◌≡◌ {A = Option ℕ} (Some a) (Some b) → a ≡ b
some_place a b e = cc

both_true : (a b : Bool) → a ≡ true → b ≡ true → (a && b) ≡ true
both_true a b e f = ap (λ (c : Bool). c && b) e ∙ f

first_false : (a b : Bool) → a ≡ false → (a && b) ≡ false
first_false a b e = ap (λ (c : Bool). c && b) e

second_false : (a b : Bool) → b ≡ false → (a && b) ≡ false
second_false true b e = e
second_false false b e = refl

-- ---- one session changes

module _ (w v : Net) (notes : Notes) (t : ℕ) (session changed : Session) (there : slice_get w.sessions t ≡ Some session)
    (now : v.sessions ≡ slice_set w.sessions t changed) where
  others_stay : (m : Method) (place i : ℕ) → i ≢ t → device_places m place v (suc i) ≡ device_places m place w (suc i)
  others_stay m place i e = ap (λ (l : List Session). peer_at m place (slice_get l i)) now ∙ ap (peer_at m place) (get_there w.sessions t i changed e)

  here_now : (m : Method) (place : ℕ) → device_places m place v (suc t) ≡ peer_at m place (Some changed)
  here_now m place = ap (λ (l : List Session). peer_at m place (slice_get l t)) now ∙ ap (peer_at m place) (get_here w.sessions t session changed there)

  pub here_was : (m : Method) (place : ℕ) → device_places m place w (suc t) ≡ peer_at m place (Some session)
  here_was m place = ap (peer_at m place) there

  pub one_moves : (m : Method) (sub place : ℕ) (move : Option Move) → IsDeviceMove (device_places m place w) notes move
      → entry m (keeps_at v place).contexts ≡ (moved_by move (only (device_places m place w))).place zero
      → peer_at m place (Some changed) ≡ (moved_by move (only (device_places m place w))).place (suc t)
      → ((i : ℕ) → i ≢ zero → i ≢ suc t → (moved_by move (only (device_places m place w))).place i ≡ device_places m place w i)
      → accepted_of m sub changed ≡ (moved_by move (only (device_places m place w))).used ++ accepted_of m sub session → DeviceMoves m sub place w v notes
  one_moves m sub place move allowed store own others used = record {
    move = move;
    is_allowed = allowed;
    places = places;
    used = subst (λ (l : List Session). IsPermutation ((moved_by move (only (device_places m place w))).used ++ counters_accepted m sub w.sessions) (counters_accepted m sub l)) (sym now)
        (adds (accepted_of m sub) w.sessions t session changed (moved_by move (only (device_places m place w))).used there used);
  }
    where
      by : (i : ℕ) (b : Bool) → (i == t) ≡ b → device_places m place v (suc i) ≡ (moved_by move (only (device_places m place w))).place (suc i)
      by i true e =
          subst (λ (k : ℕ). device_places m place v (suc k) ≡ (moved_by move (only (device_places m place w))).place (suc k)) (sym (same_number i t e)) (here_now m place ∙ own)
      by i false e = others_stay m place i (apart i t e) ∙ sym (others (suc i) (session_apart i) (λ same. apart i t e (suc_is i t same)))

      places : (i : ℕ) → device_places m place v i ≡ (moved_by move (only (device_places m place w))).place i
      places zero = store
      places (suc i) = by i (i == t) refl

  pub stays_there : (m : Method) (sub place : ℕ) → entry m (keeps_at v place).contexts ≡ entry m (keeps_at w place).contexts → peer_at m place (Some changed) ≡ peer_at m place (Some session)
      → accepted_of m sub changed ≡ accepted_of m sub session → DeviceMoves m sub place w v notes
  stays_there m sub place store own used = one_moves m sub place None tt store (own ∙ sym (here_was m place)) (λ i e f. refl) used

-- a session whose peer stays
server_next : (set : Setting) (w v : Net) (notes : Notes) (T : Type 0) (t : ℕ) (session : Session) (server : Option ServerEnd) → slice_get w.sessions t ≡ Some session
    → v.sessions ≡ slice_set w.sessions t (record session { server = server }) → v.devices ≡ w.devices → v.stores ≡ w.stores → DeviceNext set w v notes T
server_next set w v notes T t session server there now devices stores =
    let changed : Session = record session { server = server } in record {
      devices = devices;
      fine = λ h.
          let f = at (PeerFine set w.devices) w.sessions t session h there in
          subst (λ (ds : List Subscription). All (PeerFine set ds) v.sessions) (sym devices)
          (subst (All (PeerFine set w.devices)) (sym now) (All-set (PeerFine set w.devices) w.sessions t changed (record { own = f.own; quiet = f.quiet; placed = f.placed }) h));
      moves = λ told h are m sub place placed.
          stays_there w v notes t session changed there now m sub place (ap (λ (s : List Keeps). entry m (keeps_or (slice_get s place)).contexts) stores) refl refl;
    }

-- ---- a turn of a peer

-- what the device of a place keeps after a turn: what was put, or nothing if there is no such place
pub record Puts (w v : Net) (place : ℕ) (kept : Keeps) : Type 0 where
  pub others : (other : ℕ) → other ≢ place → keeps_at v other ≡ keeps_at w other
  pub own : (keeps_at v place ≡ kept) ⊎ ((keeps_at v place ≡ nothing_kept) × (keeps_at w place ≡ nothing_kept))

get_none : {X : Type 0} (xs : List X) (i : ℕ) (y : X) → slice_get xs i ≡ None → slice_get (slice_set xs i y) i ≡ None
get_none [] i y e = refl
get_none (z ∷ xs) zero y e = absurd cc
get_none (z ∷ xs) (suc i) y e = get_none xs i y e

puts : (stores : List Keeps) (place : ℕ) (kept : Keeps) (o : Option Keeps) → slice_get stores place ≡ o
    → (keeps_or (slice_get (slice_set stores place kept) place) ≡ kept) ⊎ ((keeps_or (slice_get (slice_set stores place kept) place) ≡ nothing_kept) × (keeps_or (slice_get stores place) ≡ nothing_kept))
puts stores place kept None e = inr (ap keeps_or (get_none stores place kept e), ap keeps_or e)
puts stores place kept (Some keeps) e = inl (ap keeps_or (get_here stores place keeps kept e))

no_entry : (m : Method) (keeps : Keeps) → keeps ≡ nothing_kept → entry m keeps.contexts ≡ None
no_entry m keeps e = ap (λ (k : Keeps). entry m k.contexts) e ∙ by m
  where
    by : (m : Method) → entry m nothing_kept.contexts ≡ None
    by method.Aka = refl
    by method.Prime = refl

-- ---- moves

not_none : (k : ℕ) → ◌≡◌ {A = Option Move} None (Some (Accept k)) → ⊥
not_none k e = cc

not_challenge : (t k : ℕ) (c : Context) → ◌≡◌ {A = Option Move} (Some (Challenge t c)) (Some (Accept k)) → ⊥
not_challenge t k c e = cc

not_win : (t k : ℕ) → ◌≡◌ {A = Option Move} (Some (Win t)) (Some (Accept k)) → ⊥
not_win t k e = cc

not_lose : (t k : ℕ) → ◌≡◌ {A = Option Move} (Some (Lose t)) (Some (Accept k)) → ⊥
not_lose t k e = cc

not_adopt : (identity : Option (List ℕ)) (k : ℕ) → ◌≡◌ {A = Option Move} (Some (Adopt identity)) (Some (Accept k)) → ⊥
not_adopt identity k e = cc

none_taken : (n : Option CounterNote) (store : Option Context) → ((k : ℕ) → n ≡ Some (counts.Taken k) → ⊥) → taken_in n store ≡ []
none_taken None store e = refl
none_taken (Some (counts.Small k)) store e = refl
none_taken (Some (counts.Taken k)) store e = absurd (e k refl)

accepted_all : (k : ℕ) (store : Option Context) → accepted_in k store ≡ accepted_in k store ++ []
accepted_all k None = refl
accepted_all k (Some c) = refl

not_open : (k : ℕ) (store : Option Context) → store ≡ None → is_open k store ≡ true → ⊥
not_open k store e f = no_bool (is_open k store) (ap (is_open k) e) f
  where
    no_bool : (b : Bool) → b ≡ false → b ≡ true → ⊥
    no_bool b e f = cc

renamed_none : (identity : Option (List ℕ)) (store : Option Context) → store ≡ None → renamed identity store ≡ None
renamed_none None store e = refl
renamed_none (Some identity) store e = ap (renamed (Some identity)) e

-- a peer takes a turn
module _ (set : Setting) (w v : Net) (notes : Notes) (t : ℕ) (session : Session) (new : Peer) (won : Option KeySet) (there : slice_get w.sessions t ≡ Some session)
    (now : v.sessions ≡ slice_set w.sessions t (record session { peer = new; peer_keys = won })) (f : PeerFine set w.devices session) (are : AreSubscribers set.rows)
    (options : new.options ≡ session.peer.options) (told : Notes) (same : (c : Context) → Originates told c → Originates notes c) (kept : Keeps)
    (counted : Counts (entry session.peer.options.method (keeps_at w session.device).contexts) session.peer new told.counter) (put : Puts w v session.device kept)
    (turn : (h : HomePast) → Shows h session.peer.options.method t (keeps_at w session.device) session.peer → MovesOnce t h session.peer new told (keeps_at w session.device) kept)
    (left : (m : Method) → m ≢ session.peer.options.method → entry m kept.contexts ≡ entry m (keeps_at w session.device).contexts) where
  now_at : (m : Method) (place : ℕ) → peer_at m place (Some (record session { peer = new; peer_keys = won })) ≡ cond (session.device == place && same_method session.peer.options.method m) (place_of new) None
  now_at m place = ap (λ (o : Method). cond (session.device == place && same_method o m) (place_of new) None) (ap (λ (p : Peer). p.options.method) peers)
    where
      peers : record new { options = new.options } ≡ record new { options = session.peer.options }
      peers = ap (λ o. record new { options = o }) options

  counted_now : (m : Method) (sub : ℕ) → accepted_of m sub (record session { peer = new; peer_keys = won }) ≡ cond (session.sub == sub && same_method session.peer.options.method m) (accepted_for new.next new) []
  counted_now m sub = ap (λ o. cond (session.sub == sub && same_method o m) (accepted_for new.next new) []) (ap (λ o. o.method) options)

  -- at another device
  elsewhere : (m : Method) (sub place : ℕ) → (session.device == place) ≡ false → device_place set.rows w.devices sub ≡ Some place → DeviceMoves m sub place w v notes
  elsewhere m sub place away placed =
      let differ : session.device ≢ place = apart session.device place away in
      let other : session.sub ≢ sub = λ e. differ (some_place session.device place (sym f.placed ∙ ap (device_place set.rows w.devices) e ∙ placed)) in
      let test = same_method session.peer.options.method m in
      stays_there w v notes t session (record session { peer = new; peer_keys = won }) there now m sub place
      (ap (λ (k : Keeps). entry m k.contexts) (put.others place (λ e. differ (sym e))))
      (now_at m place ∙ leaves (session.device == place && test) (place_of new) None (first_false (session.device == place) test away)
      ∙ sym (leaves (session.device == place && test) (place_of session.peer) None (first_false (session.device == place) test away)))
      (counted_now m sub ∙ leaves (session.sub == sub && test) (accepted_for new.next new) [] (first_false (session.sub == sub) test (other_number session.sub sub other))
      ∙ sym (leaves (session.sub == sub && test) (accepted_for session.peer.next session.peer) [] (first_false (session.sub == sub) test (other_number session.sub sub other))))

  -- for the other method
  otherwise : (m : Method) (sub : ℕ) → same_method session.peer.options.method m ≡ false → DeviceMoves m sub session.device w v notes
  otherwise m sub away =
      let test = same_method session.peer.options.method m in
      let place = session.device in
      stays_there w v notes t session (record session { peer = new; peer_keys = won }) there now m sub place
      (⊎_elim (λ e. ap (λ (k : Keeps). entry m k.contexts) e ∙ left m (method_other session.peer.options.method m away))
      (λ (e : (keeps_at v place ≡ nothing_kept) × (keeps_at w place ≡ nothing_kept)). no_entry m (keeps_at v place) e.0 ∙ sym (no_entry m (keeps_at w place) e.1)) put.own)
      (now_at m place ∙ leaves (session.device == place && test) (place_of new) None (second_false (session.device == place) test away)
      ∙ sym (leaves (session.device == place && test) (place_of session.peer) None (second_false (session.device == place) test away)))
      (counted_now m sub ∙ leaves (session.sub == sub && test) (accepted_for new.next new) [] (second_false (session.sub == sub) test away)
      ∙ sym (leaves (session.sub == sub && test) (accepted_for session.peer.next session.peer) [] (second_false (session.sub == sub) test away)))

  -- ---- at its own

  module _ (sub : ℕ) (one : session.sub ≡ sub) where
    abbrev old : Places
    old = device_places session.peer.options.method session.device w

    abbrev M : Type 0
    M = DeviceMoves session.peer.options.method sub session.device w v notes

    here : (session.device == session.device && same_method session.peer.options.method session.peer.options.method) ≡ true
    here = both_true (session.device == session.device) (same_method session.peer.options.method session.peer.options.method) (is_same session.device) (method_same session.peer.options.method)

    mine : (session.sub == sub && same_method session.peer.options.method session.peer.options.method) ≡ true
    mine = both_true (session.sub == sub) (same_method session.peer.options.method session.peer.options.method) (ap (λ (n : ℕ). n == sub) one ∙ is_same sub) (method_same session.peer.options.method)

    finish : (move : Option Move) → IsDeviceMove old notes move → entry session.peer.options.method (keeps_at v session.device).contexts ≡ (moved_by move (only old)).place zero
        → (moved_by move (only old)).place (suc t) ≡ place_of new → ((i : ℕ) → i ≢ zero → i ≢ suc t → (moved_by move (only old)).place i ≡ old i)
        → taken_in told.counter (old zero) ≡ (moved_by move (only old)).used → M
    finish move allowed store placed others used =
        let m = session.peer.options.method in
        let test = session.device == session.device && same_method m m in
        let mine_test = session.sub == sub && same_method m m in
        one_moves w v notes t session (record session { peer = new; peer_keys = won }) there now m sub session.device move allowed store
        (now_at m session.device ∙ picks test (place_of new) None here ∙ sym placed) others
        (counted_now m sub ∙ picks mine_test (accepted_for new.next new) [] mine ∙ counted.used
        ∙ ap (λ (l : List Used). l ++ accepted_for session.peer.next session.peer) used
        ∙ ap (λ (l : List Used). (moved_by move (only old)).used ++ l) (sym (picks mine_test (accepted_for session.peer.next session.peer) [] mine)))

    shown : Shows (only old) session.peer.options.method t (keeps_at w session.device) session.peer
    shown =
        let m = session.peer.options.method in record {
          store = refl;
          place = here_was w v notes t session (record session { peer = new; peer_keys = won }) there now m session.device
              ∙ picks (session.device == session.device && same_method m m) (place_of session.peer) None here;
        }

    challenge_may : (u : ℕ) (c : Context) → (u ≡ t) × Originates told c → Shows (peer_places.moved_by (Some (Challenge u c)) (only old)) session.peer.options.method t kept new
        → IsDeviceMove old notes (Some (Challenge u c))
    challenge_may u c own shows = (
      same c own.1,
      counted.quiet.first c (sym shows.place ∙ ap (λ (k : ℕ). with_place (suc k) (Some c) old (suc t)) own.0 ∙ at_same (suc t) (Some c) old),
    )

    abbrev Counted : Option Move → Type 0
    Counted move = (k : ℕ) → told.counter ≡ Some (counts.Taken k) → move ≡ Some (Accept k)

    abbrev Others : Option Move → Type 0
    Others move = (i : ℕ) → i ≢ zero → i ≢ suc t → (peer_places.moved_by move (only old)).place i ≡ old i

    -- the device keeps what the turn leaves
    put_moves : keeps_at v session.device ≡ kept → (move : Option Move) → IsMoveOf t (old zero) told move → Counted move
        → Shows (peer_places.moved_by move (only old)) session.peer.options.method t kept new → Others move → M
    put_moves e None own c shows others = finish None tt (ap (λ (k : Keeps). entry session.peer.options.method k.contexts) e ∙ sym shows.store) shows.place others
        (none_taken told.counter (old zero) (λ k g. not_none k (c k g)))
    put_moves e (Some (Challenge u x)) own c shows others =
        finish (Some (Challenge u x)) (challenge_may u x own shows) (ap (λ (k : Keeps). entry session.peer.options.method k.contexts) e ∙ sym shows.store) shows.place others
        (none_taken told.counter (old zero) (λ k g. not_challenge u k x (c k g)))
    put_moves e (Some (Resume u identity)) own c shows others = absurd own
    put_moves e (Some (Accept k)) own c shows others =
        finish (Some (Accept k)) own.1 (ap (λ (k : Keeps). entry session.peer.options.method k.contexts) e ∙ sym shows.store) shows.place others
        (ap (λ (n : Option CounterNote). taken_in n (old zero)) own.0 ∙ accepted_all k (old zero))
    put_moves e (Some (Win u)) own c shows others =
        finish (Some (Win u)) tt (ap (λ (k : Keeps). entry session.peer.options.method k.contexts) e ∙ sym shows.store) shows.place others
        (none_taken told.counter (old zero) (λ k g. not_win u k (c k g)))
    put_moves e (Some (Lose u)) own c shows others =
        finish (Some (Lose u)) tt (ap (λ (k : Keeps). entry session.peer.options.method k.contexts) e ∙ sym shows.store) shows.place others
        (none_taken told.counter (old zero) (λ k g. not_lose u k (c k g)))
    put_moves e (Some (Adopt identity)) own c shows others =
        finish (Some (Adopt identity)) tt (ap (λ (k : Keeps). entry session.peer.options.method k.contexts) e ∙ sym shows.store) shows.place others
        (none_taken told.counter (old zero) (λ k g. not_adopt identity k (c k g)))

    -- there is no place to keep anything
    lost_moves : entry session.peer.options.method (keeps_at v session.device).contexts ≡ None → old zero ≡ None → (move : Option Move) → IsMoveOf t (old zero) told move → Counted move
        → Shows (peer_places.moved_by move (only old)) session.peer.options.method t kept new → Others move → M
    lost_moves e n None own c shows others = finish None tt (e ∙ sym n) shows.place others (none_taken told.counter (old zero) (λ k g. not_none k (c k g)))
    lost_moves e n (Some (Challenge u x)) own c shows others =
        finish (Some (Challenge u x)) (challenge_may u x own shows) (e ∙ sym (at_other (suc u) zero (Some x) old (store_apart u) ∙ n)) shows.place others
        (none_taken told.counter (old zero) (λ k g. not_challenge u k x (c k g)))
    lost_moves e n (Some (Resume u identity)) own c shows others = absurd own
    lost_moves e n (Some (Accept k)) own c shows others = absurd (not_open k (old zero) n own.1)
    lost_moves e n (Some (Win u)) own c shows others =
        let gone : place_of new ≡ None =
        sym shows.place ∙ at_other zero (suc t) (old (suc u)) (with_place (suc u) None old) (session_apart t) ∙ ap (λ (k : ℕ). with_place (suc k) None old (suc t)) own ∙ at_same (suc t) None old in
        finish (Some (Lose t)) tt (e ∙ sym (at_other (suc t) zero None old (store_apart t) ∙ n)) (at_same (suc t) None old ∙ sym gone) (λ i g h. at_other (suc t) i None old h)
        (none_taken told.counter (old zero) (λ k g. not_win u k (c k g)))
    lost_moves e n (Some (Lose u)) own c shows others =
        finish (Some (Lose u)) tt (e ∙ sym (at_other (suc u) zero None old (store_apart u) ∙ n)) shows.place others (none_taken told.counter (old zero) (λ k g. not_lose u k (c k g)))
    lost_moves e n (Some (Adopt identity)) own c shows others =
        finish (Some (Adopt identity)) tt (e ∙ sym (at_same zero (renamed identity (old zero)) old ∙ renamed_none identity (old zero) n)) shows.place others
        (none_taken told.counter (old zero) (λ k g. not_adopt identity k (c k g)))

    own_moves : M
    own_moves =
        let m = session.peer.options.method in
        let x = turn (only old) shown in
        ⊎_elim (λ (e : keeps_at v session.device ≡ kept). put_moves e x.move x.own x.counted x.shows x.others)
        (λ (e : (keeps_at v session.device ≡ nothing_kept) × (keeps_at w session.device ≡ nothing_kept)).
        lost_moves (no_entry m (keeps_at v session.device) e.0) (no_entry m (keeps_at w session.device) e.1) x.move x.own x.counted x.shows x.others) put.own

  pub peer_moves : (m : Method) (sub place : ℕ) → device_place set.rows w.devices sub ≡ Some place → DeviceMoves m sub place w v notes
  peer_moves m sub place placed = by (session.device == place) refl
    where
      at_own : (b : Bool) → same_method session.peer.options.method m ≡ b → device_place set.rows w.devices sub ≡ Some session.device → DeviceMoves m sub session.device w v notes
      at_own true e p =
          subst (λ (k : Method). DeviceMoves k sub session.device w v notes) (method_is session.peer.options.method m e)
          (own_moves sub (one_sub set w.devices sub session.sub session.device are p f.placed))
      at_own false e p = otherwise m sub e

      by : (b : Bool) → (session.device == place) ≡ b → DeviceMoves m sub place w v notes
      by true e =
          let s = same_number session.device place e in
          subst (λ (p : ℕ). DeviceMoves m sub p w v notes) s (at_own (same_method session.peer.options.method m) refl (placed ∙ ap (λ (n : ℕ). Some n) (sym s)))
      by false e = elsewhere m sub place e placed

-- ---- deliveries

to_peer_next : PeerLaws → (set : Setting) (w : Net) (d : Delivery) (told : ToldEvent) (o : Option Subscription) → slice_get w.sessions d.place ≡ Some d.session
    → DeviceNext set w (to_peer set w d told o) told.notes (TellsNotes told (came_at_peer set w d told o))
to_peer_next laws set w d told None there = still set w told.notes (TellsNotes told (came_at_peer set w d told None))
to_peer_next laws set w d told (Some device) there =
    let keeps = keeps_at w d.session.device in
    let p = d.session.peer in
    let turn = peer_turn set device keeps d.session told in
    let kept = kept_after keeps d.session told turn.1 in
    let v = to_peer set w d told (Some device) in
    let won = keys_won d.session.peer_keys turn.1.step in
    let changed : Session = record d.session { peer = turn.0; peer_keys = won } in
    let options = (laws.options set.key device keeps p told.seen told.notes.usim told.inner).options in record {
      devices = refl;
      fine = λ h.
          let f = at (PeerFine set w.devices) w.sessions d.place d.session h there in
          All-set (PeerFine set w.devices) w.sessions d.place changed (record {
            own = laws.of_method set.key device keeps p told.seen told.notes.usim told.inner f.own;
            quiet = (turn_counts set.key device keeps p f.quiet told.seen told.notes.usim told.inner).quiet;
            placed = f.placed;
          }) h;
      moves = λ same h are m sub place placed.
          let f = at (PeerFine set w.devices) w.sessions d.place d.session h there in
          peer_moves set w v told.notes d.place d.session turn.0 won there refl f are options turn.1.notes (λ c. subst (λ (n : Notes). Originates n c) (sym same)) kept
          (turn_counts set.key device keeps p f.quiet told.seen told.notes.usim told.inner)
          (record {
            others = λ other e. ap keeps_or (get_there w.stores d.session.device other kept e);
            own = puts w.stores d.session.device kept (slice_get w.stores d.session.device) refl;
          })
          (λ x shows. laws.moves set.key device keeps p told.seen told.notes.usim told.inner d.place x f.own shows)
          (λ k e. laws.leaves set.key device keeps p told.seen told.notes.usim told.inner k f.own e) m sub place placed;
    }

to_server_next : (set : Setting) (w : Net) (d : Delivery) (told : ToldEvent) (o : Option ServerEnd) (T : Type 0) → slice_get w.sessions d.place ≡ Some d.session
    → DeviceNext set w (to_server set w d told o) told.notes T
to_server_next set w d told None T there = still set w told.notes T
to_server_next set w d told (Some s) T there =
    server_next set w (to_server set w d told (Some s)) told.notes T d.place d.session (Some (server_turn set w s told).0) there refl refl refl

server_delivered : (set : Setting) (w : Net) (told : ToldEvent) (packet : ℕ) (o : Option ℕ) (T : Type 0) → DeviceNext set w (delivered set w end.Server told (delivery_at w packet o)) told.notes T
server_delivered set w told packet None T = still set w told.notes T
server_delivered set w told packet (Some place) T = by (slice_get w.sessions place) (packet_at w.packets packet) refl
  where
    by : (x : Option Session) (y : Option SentPacket) → slice_get w.sessions place ≡ x → DeviceNext set w (delivered set w end.Server told (delivery_of packet place x y)) told.notes T
    by (Some session) (Some sent) e = to_server_next set w (record { place = place; session = session; bytes = sent.bytes; packet = packet }) told session.server T e
    by (Some session) None e = still set w told.notes T
    by None (Some sent) e = still set w told.notes T
    by None None e = still set w told.notes T

peer_delivered : PeerLaws → (set : Setting) (w : Net) (told : ToldEvent) (packet : ℕ) (o : Option ℕ)
    → DeviceNext set w (delivered set w end.Peer told (delivery_at w packet o)) told.notes (TellsNotes told (came_delivered set w end.Peer told (packet_at w.packets packet) (delivery_at w packet o)))
peer_delivered laws set w told packet None = still set w told.notes (TellsNotes told (came_delivered set w end.Peer told (packet_at w.packets packet) None))
peer_delivered laws set w told packet (Some place) = by (slice_get w.sessions place) (packet_at w.packets packet) refl
  where
    by : (x : Option Session) (y : Option SentPacket) → slice_get w.sessions place ≡ x
        → DeviceNext set w (delivered set w end.Peer told (delivery_of packet place x y)) told.notes (TellsNotes told (came_delivered set w end.Peer told y (delivery_of packet place x y)))
    by (Some session) (Some sent) e =
        to_peer_next laws set w (record { place = place; session = session; bytes = sent.bytes; packet = packet }) told (slice_get w.devices session.device) e
    by (Some session) None e = still set w told.notes (TellsNotes told (came_delivered set w end.Peer told None None))
    by None (Some sent) e = still set w told.notes (TellsNotes told (came_delivered set w end.Peer told (Some sent) None))
    by None None e = still set w told.notes (TellsNotes told (came_delivered set w end.Peer told None None))

-- ---- the other events

start_next : (set : Setting) (w : Net) (notes : Notes) (T : Type 0) (t : ℕ) (session : Session) (o : Option ServerEnd) → slice_get w.sessions t ≡ Some session
    → DeviceNext set w (start w t session o) notes T
start_next set w notes T t session (Some s) there = still set w notes T
start_next set w notes T t session None there = server_next set w (start w t session None) notes T t session (Some (started session.options)) there refl refl refl

repeat_next : (set : Setting) (w : Net) (notes : Notes) (T : Type 0) (t : ℕ) (session : Session) (o : Option ServerEnd) → slice_get w.sessions t ≡ Some session
    → DeviceNext set w (repeat w t session o) notes T
repeat_next set w notes T t session None there = still set w notes T
repeat_next set w notes T t session (Some s) there = server_next set w (repeat w t session (Some s)) notes T t session (Some s) there refl refl refl

server_ends : (set : Setting) (w : Net) (notes : Notes) (T : Type 0) (t : ℕ) (session : Session) (o : Option ServerEnd) → slice_get w.sessions t ≡ Some session
    → DeviceNext set w (server_gives_up w t session o) notes T
server_ends set w notes T t session None there = still set w notes T
server_ends set w notes T t session (Some s) there = server_next set w (server_gives_up w t session (Some s)) notes T t session (Some (gave_up s s.state).0) there refl refl refl

-- a peer gives up: it would put nothing any more
no_context : (c : Context) → ◌≡◌ {A = Option Context} None (Some c) → ⊥
no_context c e = cc

over_own : (p : Peer) (now : PeerState) → IsOfMethod p → IsOfMethod (peer_gave_up p now).0
over_own p peer_state.Ended own = own
over_own p peer_state.Waiting own = λ c e. absurd (no_context c e)
over_own p (peer_state.Answered keys) own = λ c e. absurd (no_context c e)
over_own p (peer_state.Refusing cause) own = λ c e. absurd (no_context c e)

over_options : (p : Peer) (now : PeerState) → (peer_gave_up p now).0.options ≡ p.options
over_options p peer_state.Ended = refl
over_options p peer_state.Waiting = refl
over_options p (peer_state.Answered keys) = refl
over_options p (peer_state.Refusing cause) = refl

no_note : (k : ℕ) → ◌≡◌ {A = Option CounterNote} None (Some (counts.Taken k)) → ⊥
no_note k e = cc

module _ (t : ℕ) (h : HomePast) (keeps : Keeps) (p : Peer) (shown : Shows h p.options.method t keeps p) (notes : Notes) (quiet : notes.counter ≡ None) where
  untaken : (k : ℕ) → notes.counter ≡ Some (counts.Taken k) → ⊥
  untaken k e = no_note k (sym quiet ∙ e)

  over_lost : (new : Peer) → place_of new ≡ None → MovesOnce t h p new notes keeps keeps
  over_lost new none = record {
    move = Some (Lose t);
    own = refl;
    counted = λ k e. absurd (untaken k e);
    shows = record {
      store = at_other (suc t) zero None h.place (store_apart t) ∙ shown.store;
      place = at_same (suc t) None h.place ∙ sym none;
    };
    others = λ i e f. at_other (suc t) i None h.place f;
  }

  over_moves : (now : PeerState) → MovesOnce t h p (peer_gave_up p now).0 notes keeps keeps
  over_moves peer_state.Ended = record {
    move = None;
    own = tt;
    counted = λ k e. absurd (untaken k e);
    shows = record { store = shown.store; place = shown.place };
    others = λ i e f. refl;
  }
  over_moves peer_state.Waiting = over_lost (peer_gave_up p peer_state.Waiting).0 refl
  over_moves (peer_state.Answered keys) = over_lost (peer_gave_up p (peer_state.Answered keys)).0 refl
  over_moves (peer_state.Refusing cause) = over_lost (peer_gave_up p (peer_state.Refusing cause)).0 refl

no_origin : (told : Notes) (c : Context) → told.usim ≡ None → Originates told c → ⊥
no_origin told c e o = none_is told.usim e o.accepted
  where
    none_is : {X : Type 0} {x : X} (o : Option X) → o ≡ None → o ≡ Some x → ⊥
    none_is o e f = cc

peer_ends : (set : Setting) (w : Net) (notes : Notes) (T : Type 0) (t : ℕ) (session : Session) → slice_get w.sessions t ≡ Some session → DeviceNext set w (give_up w end.Peer t session) notes T
peer_ends set w notes T t session there =
    let p = session.peer in
    let gave = peer_gave_up p p.state in
    let won = keys_won session.peer_keys gave.1 in
    let changed : Session = record session { peer = gave.0; peer_keys = won } in
    let keeps = keeps_at w session.device in
    let silent : Notes = record { resync = None; number = None; resumed = None; usim = None; counter = None } in record {
      devices = refl;
      fine = λ h.
          let f = at (PeerFine set w.devices) w.sessions t session h there in
          All-set (PeerFine set w.devices) w.sessions t changed
          (record { own = over_own p p.state f.own; quiet = (giving_up_counts None p p.state f.quiet).quiet; placed = f.placed }) h;
      moves = λ told h are m sub place placed.
          let f = at (PeerFine set w.devices) w.sessions t session h there in
          peer_moves set w (give_up w end.Peer t session) notes t session gave.0 won there refl f are (over_options p p.state) silent (λ c o. absurd (no_origin silent c refl o)) keeps
          (giving_up_counts (entry p.options.method keeps.contexts) p p.state f.quiet) (record { others = λ other e. refl; own = inl refl })
          (λ x shows. over_moves t x keeps p shows silent refl p.state) (λ k e. refl) m sub place placed;
    }

give_up_next : (set : Setting) (w : Net) (notes : Notes) (T : Type 0) (at' : End) (t : ℕ) (session : Session) → slice_get w.sessions t ≡ Some session
    → DeviceNext set w (give_up w at' t session) notes T
give_up_next set w notes T end.Server t session there = server_ends set w notes T t session session.server there
give_up_next set w notes T end.Peer t session there = peer_ends set w notes T t session there

session_next : (set : Setting) (w : Net) (notes : Notes) (T : Type 0) (session : ℕ) (does : ℕ → Session → Net)
    → ((t : ℕ) (s : Session) → slice_get w.sessions t ≡ Some s → DeviceNext set w (does t s) notes T) → DeviceNext set w (at_session w session does) notes T
session_next set w notes T session does each = by (session_place w.sessions session)
  where
    found_one : (place : ℕ) (x : Option Session) → slice_get w.sessions place ≡ x → DeviceNext set w (in_session w does place x) notes T
    found_one place None e = still set w notes T
    found_one place (Some s) e = each place s e

    by : (o : Option ℕ) → DeviceNext set w (at_place w does o) notes T
    by None = still set w notes T
    by (Some place) = found_one place (slice_get w.sessions place) refl

-- a session that is opened
new_puts : (m : Method) (place : ℕ) (opening : SessionLine) (device : ℕ) → peer_at m place (Some (new_session opening device)) ≡ None
new_puts m place opening device = same_both (device == place && same_method opening.method m) None

pushed_puts : (m : Method) (place : ℕ) (sessions : List Session) (new : Session) (i : ℕ) → peer_at m place (Some new) ≡ None
    → peer_at m place (slice_get (sessions ++ new ∷ []) i) ≡ peer_at m place (slice_get sessions i)
pushed_puts m place [] new zero e = e
pushed_puts m place [] new (suc i) e = refl
pushed_puts m place (session ∷ sessions) new zero e = refl
pushed_puts m place (session ∷ sessions) new (suc i) e = pushed_puts m place sessions new i e

opened_next : (set : Setting) (w : Net) (notes : Notes) (T : Type 0) (opening : SessionLine) (found place : Option ℕ) → device_place set.rows w.devices opening.sub ≡ place
    → DeviceNext set w (opened w opening found place) notes T
opened_next set w notes T opening (Some first) place is = still set w notes T
opened_next set w notes T opening None None is = still set w notes T
opened_next set w notes T opening None (Some place) is =
    let new = new_session opening place in record {
      devices = refl;
      fine = λ h. All-push (PeerFine set w.devices) w.sessions new h (record { own = λ c e. absurd (no_context c e); quiet = new_is_quiet new.peer.options; placed = is });
      moves = λ told h are m sub at' placed.
          unmoved m sub at' w (opened w opening None (Some place)) notes (places m at')
          (pushes (accepted_of m sub) w.sessions new (same_both (opening.sub == sub && same_method opening.method m) []));
    }
  where
    places : (m : Method) (at' i : ℕ) → device_places m at' (opened w opening None (Some place)) i ≡ device_places m at' w i
    places m at' zero = refl
    places m at' (suc i) = pushed_puts m at' w.sessions (new_session opening place) i (new_puts m at' opening place)

-- a changed packet moves nothing
copy_next : (set : Setting) (w : Net) (notes : Notes) (T : Type 0) (copy : Option (List ℕ)) → DeviceNext set w (with_copy w copy) notes T
copy_next set w notes T copy = record {
  devices = refl;
  fine = λ h. h;
  moves = λ told h are m sub place e. unmoved m sub place w (with_copy w copy) notes (copy_places m place) refl;
}
  where
    copy_places : (m : Method) (place i : ℕ) → device_places m place (with_copy w copy) i ≡ device_places m place w i
    copy_places m place zero = refl
    copy_places m place (suc i) = refl

moved_next : PeerLaws → (set : Setting) (w : Net) (e : Event) (told : ToldEvent) → DeviceNext set w (moved set w e told) told.notes (TellsNotes told (came set w e told))
moved_next laws set w (event.Open opening) told =
    opened_next set w told.notes (TellsNotes told (came set w (event.Open opening) told)) opening (session_place w.sessions opening.session) (device_place set.rows w.devices opening.sub) refl
moved_next laws set w (event.Start session) told =
    session_next set w told.notes (TellsNotes told (came set w (event.Start session) told)) session (λ t s. start w t s s.server)
    (λ t s there. start_next set w told.notes (TellsNotes told (came set w (event.Start session) told)) t s s.server there)
moved_next laws set w (event.Deliver session end.Server packet) told =
    server_delivered set w told packet (session_place w.sessions session) (TellsNotes told (came set w (event.Deliver session end.Server packet) told))
moved_next laws set w (event.Deliver session end.Peer packet) told = peer_delivered laws set w told packet (session_place w.sessions session)
moved_next laws set w (event.Repeat session) told =
    session_next set w told.notes (TellsNotes told (came set w (event.Repeat session) told)) session (λ t s. repeat w t s s.server)
    (λ t s there. repeat_next set w told.notes (TellsNotes told (came set w (event.Repeat session) told)) t s s.server there)
moved_next laws set w (event.GiveUp session at') told =
    session_next set w told.notes (TellsNotes told (came set w (event.GiveUp session at') told)) session (give_up w at')
    (λ t s there. give_up_next set w told.notes (TellsNotes told (came set w (event.GiveUp session at') told)) at' t s there)
moved_next laws set w (event.Tamper packet place byte) told =
    copy_next set w told.notes (TellsNotes told (came set w (event.Tamper packet place byte) told)) (changed_in w.packets (event.Tamper packet place byte))
moved_next laws set w (event.Cut packet count) told =
    copy_next set w told.notes (TellsNotes told (came set w (event.Cut packet count) told)) (changed_in w.packets (event.Cut packet count))

event_next : PeerLaws → (set : Setting) (w : Net) (e : Event) (told : ToldEvent) → DeviceNext set w (happened set w e told) told.notes (TellsNotes told (came set w e told))
event_next laws set w e told = let n = moved_next laws set w e told in record { devices = n.devices; fine = n.fine; moves = n.moves }

-- ---- runs

pub record Stays (set : Setting) (w v : Net) : Type 0 where
  pub devices : v.devices ≡ w.devices
  pub fine : AllFine set v

one_stays : PeerLaws → (set : Setting) (w : Net) (h : Happening) → AllFine set w → Stays set w (after_one set w h)
one_stays laws set w (Occurs e told) fine = let n = event_next laws set w e told in record { devices = n.devices; fine = n.fine fine }
one_stays laws set w (Noted number) fine = record { devices = refl; fine = fine }

run_stays : PeerLaws → (set : Setting) (w : Net) (hs : List Happening) → AllFine set w → Stays set w (after set w hs)
run_stays laws set w [] fine = record { devices = refl; fine = fine }
run_stays laws set w (h ∷ hs) fine =
    let one = one_stays laws set w h fine in
    let rest = run_stays laws set (after_one set w h) hs one.fine in record { devices = rest.devices ∙ one.devices; fine = rest.fine }

pub events_move_devices_once : PeerLaws → EachEventMovesDevicesOnce
events_move_devices_once laws set w hs h m sub place fresh are placed tells =
    let v = run_stays laws set w hs (subst (All (PeerFine set w.devices)) (sym fresh.sessions) (All-nil (PeerFine set w.devices))) in
    by h v tells (ap (λ (ds : List Subscription). device_place set.rows ds sub) v.devices ∙ placed)
  where
    by : (h : Happening) → Stays set w (after set w hs) → TellsItsNotes set (after set w hs) h → device_place set.rows (after set w hs).devices sub ≡ Some place
        → EachMoves set (after set w hs) h (DeviceMoves m sub place)
    by (Occurs e told) v tells there = (event_next laws set (after set w hs) e told).moves tells v.fine are m sub place there
    by (Noted number) v tells there = tt

-- after whatever events each peer that accepted a counter had sent the identity of its context
pub run_is_named : PeerLaws → (set : Setting) (w : Net) (hs : List Happening) → IsFresh w → All (λ session. IsNamed session.peer) (after set w hs).sessions
run_is_named laws set w hs fresh =
    let v = run_stays laws set w hs (subst (All (PeerFine set w.devices)) (sym fresh.sessions) (All-nil (PeerFine set w.devices))) in
    All-weaker (PeerFine set (after set w hs).devices) (λ session. IsNamed session.peer) (λ session f. f.quiet.named) (after set w hs).sessions v.fine
