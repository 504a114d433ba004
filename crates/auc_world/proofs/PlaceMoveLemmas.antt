-- Each event makes at most one move of the contexts in each home.
use Rattle.std.proofs.Common.{◌≡◌, ◌≢◌, ℕ, zero, suc, ◌==◌, Bool, true, false, cond, List, [], ◌∷◌, ◌++◌, map, All, Option, Some, None, slice_get, slice_set, refl, sym, ap, ◌∙◌, subst, arith, append_assoc}
use Rattle.std.specs.Prelude.{IsPermutation, flat_map}
use Rattle.std.proofs.lemmas.List.Elements.{All-nil, All-push, All-set}
use Rattle.std.proofs.lemmas.List.Sorted.{IsPermutation-append_comm, IsPermutation-append_left, IsPermutation-append_right, IsPermutation-refl, IsPermutation-trans}
use Rattle.std.proofs.lemmas.Option.{get_or_from_slice_get, slice_get_within}
use Rattle.auc_hmac.specs.declared.method.Method.{Method}
use Rattle.auc_hmac.specs.declared.method.Method.TheVariants as method
use Rattle.auc_lines.specs.declared.part.End.{End}
use Rattle.auc_lines.specs.declared.part.End.TheVariants as end
use Rattle.auc_lines.specs.declared.part.SessionLine.{SessionLine}
use Rattle.auc_peer.specs.Subscription.{Subscription}
use Rattle.auc_peer.specs.Table.{gave_up as peer_gave_up}
use Rattle.auc_reauth.specs.Machine.{Move, Places, Used}
use Rattle.auc_reauth.specs.Store.{entry}
use Rattle.auc_reauth.specs.declared.context.Context.{Context}
use Rattle.auc_server.proofs.Facts.{gave_up_fits, gave_up_options, started_fits, turn_options}
use Rattle.auc_server.specs.Laws.{EachTurnFits, Fits}
use Rattle.auc_server.specs.Moves.{moved_by, waiting, waiting_at}
use Rattle.auc_server.specs.Ordinals.{home_at, home_place}
use Rattle.auc_server.specs.Server.{ServerEnd, resumed_of, started}
use Rattle.auc_subs.specs.Setting.{Setting}
use Rattle.auc_server.specs.Table.{gave_up}
use Rattle.auc_server.specs.declared.options.ServerOptions.{ServerOptions}
use Rattle.auc_server.specs.declared.server.Resumed.{Resumed}
use Rattle.auc_server.specs.declared.setting.HomeRow.{HomeRow}
use Rattle.auc_vector.specs.declared.notes.Notes.{Notes}
use Rattle.auc_world.specs.Agreement.{Happening, Noted, Occurs, after, after_one}
use Rattle.auc_world.specs.Happened.{Delivery, ToldEvent, at_place, at_session, delivered, delivery_at, delivery_of, give_up, happened, in_session, keys_won, moved, new_session, opened, peer_turn, repeat, server_gives_up, server_turn, start, to_peer, to_server, changed_in, with_copy}
use Rattle.auc_world.specs.Net.{Net, device_place, keeps_at, packet_at, same_method, session_place}
use Rattle.auc_world.specs.Places.{EachEventMovesHomesOnce, EachMoves, HomeMoves, IsHomeMove, home_places, only, server_at, server_leaves}
use Rattle.auc_world.specs.Resumption.{counters_in, counters_resumed, resumed_for}
use Rattle.auc_record.specs.declared.event.Event.{Event}
use Rattle.auc_record.specs.declared.event.Event.TheVariants as event
use Rattle.auc_world.specs.declared.net.SentPacket.{SentPacket}
use Rattle.auc_world.specs.declared.net.Session.{Session}
use Rattle.auc_world.proofs.HomeMoveLemmas.{HomeTurn, giving_up_moves_home, is_same, leaves, picks, place_stays, same_number, session_apart, turn_keeps_subs, turn_leaves_other, turn_moves_home, waiting_stays}

-- ---- lists

pub get_here : {X : Type 0} (xs : List X) (i : ℕ) (x y : X) → slice_get xs i ≡ Some x → slice_get (slice_set xs i y) i ≡ Some y
get_here [] i x y e = absurd cc
get_here (z ∷ xs) zero x y e = refl
get_here (z ∷ xs) (suc i) x y e = get_here xs i x y e

pub get_there : {X : Type 0} (xs : List X) (i j : ℕ) (y : X) → j ≢ i → slice_get (slice_set xs i y) j ≡ slice_get xs j
get_there [] i j y e = refl
get_there (z ∷ xs) zero zero y e = absurd (e refl)
get_there (z ∷ xs) zero (suc j) y e = refl
get_there (z ∷ xs) (suc i) zero y e = refl
get_there (z ∷ xs) (suc i) (suc j) y e = get_there xs i j y (λ same. e (ap (λ (n : ℕ). suc n) same))

some_is : {X : Type 0} (a b : X) → ◌≡◌ {A = Option X} (Some a) (Some b) → a ≡ b
some_is a b e = cc

-- what one item gives more comes in front of what all give
pub adds : {X A : Type 0} (f : X → List A) (xs : List X) (i : ℕ) (x y : X) (zs : List A) → slice_get xs i ≡ Some x → f y ≡ zs ++ f x
    → IsPermutation (zs ++ flat_map f xs) (flat_map f (slice_set xs i y))
adds {A = A} f [] i x y zs e same = absurd cc
adds {A = A} f (z ∷ xs) zero x y zs e same =
    let rest = flat_map f xs in
    let is : zs ++ (f z ++ rest) ≡ f y ++ rest = sym (append_assoc zs (f z) rest) ∙ ap (λ (l : List A). l ++ rest) (ap (λ u. zs ++ f u) (some_is z x e) ∙ sym same) in
    subst (IsPermutation (zs ++ (f z ++ rest))) is (IsPermutation-refl (zs ++ (f z ++ rest)))
adds {A = A} f (z ∷ xs) (suc i) x y zs e same =
    let rest = flat_map f xs in
    let swapped : IsPermutation ((zs ++ f z) ++ rest) ((f z ++ zs) ++ rest) = IsPermutation-append_left rest (zs ++ f z) (f z ++ zs) (IsPermutation-append_comm zs (f z)) in
    let left : IsPermutation (zs ++ (f z ++ rest)) ((f z ++ zs) ++ rest) = subst (λ (l : List A). IsPermutation l ((f z ++ zs) ++ rest)) (append_assoc zs (f z) rest) swapped in
    let both : IsPermutation (zs ++ (f z ++ rest)) (f z ++ (zs ++ rest)) = subst (IsPermutation (zs ++ (f z ++ rest))) (append_assoc (f z) zs rest) left in
    IsPermutation-trans (zs ++ (f z ++ rest)) (f z ++ (zs ++ rest)) (f z ++ flat_map f (slice_set xs i y)) both
    (IsPermutation-append_right (f z) (zs ++ rest) (flat_map f (slice_set xs i y)) (adds f xs i x y zs e same))

pub pushes : {X A : Type 0} (f : X → List A) (xs : List X) (y : X) → f y ≡ [] → flat_map f (xs ++ y ∷ []) ≡ flat_map f xs
pushes {A = A} f [] y e = ap (λ (l : List A). l ++ []) e
pushes {A = A} f (x ∷ xs) y e = ap (λ (l : List A). f x ++ l) (pushes f xs y e)

pub same_both : {X : Type 0} (b : Bool) (x : X) → cond b x x ≡ x
same_both true x = refl
same_both false x = refl

-- what holds of all holds of the one at a place
pub at : {X : Type 0} (P : X → Type 0) (xs : List X) (i : ℕ) (x : X) → All P xs → slice_get xs i ≡ Some x → P x
at P xs i x all there = subst P (get_or_from_slice_get xs i x x there) (all i x (slice_get_within xs i x there))

-- ---- methods

pub method_same : (m : Method) → same_method m m ≡ true
method_same method.Aka = refl
method_same method.Prime = refl

pub method_is : (m other : Method) → same_method m other ≡ true → m ≡ other
method_is method.Aka method.Aka e = refl
method_is method.Aka method.Prime e = absurd cc
method_is method.Prime method.Aka e = absurd cc
method_is method.Prime method.Prime e = refl

pub method_other : (m other : Method) → same_method m other ≡ false → other ≢ m
method_other method.Aka method.Aka e = absurd cc
method_other method.Aka method.Prime e = λ same. cc
method_other method.Prime method.Aka e = λ same. cc
method_other method.Prime method.Prime e = absurd cc

-- ---- what a network's servers keep

abbrev FitsIn : Option ServerEnd → Type 0
FitsIn None = Unit {0}
FitsIn (Some s) = Fits s

abbrev AllFit : List Session → Type 0
AllFit sessions = All (λ session. FitsIn session.server) sessions

abbrev AreAlike : List HomeRow → List HomeRow → Type 0
AreAlike later homes = map (λ (home : HomeRow). home.sub) later ≡ map (λ (home : HomeRow). home.sub) homes

-- ---- a network after an event

pub record HomeNext (set : Setting) (w v : Net) (notes : Notes) : Type 0 where
  pub alike : AreAlike v.homes w.homes
  pub fits : AllFit w.sessions → AllFit v.sessions
  pub moves : AllFit w.sessions → (m : Method) (sub place : ℕ) → home_place w.homes sub ≡ Some place → HomeMoves set m sub place w v notes

leaves_stays : (m : Method) (place : ℕ) (homes later : List HomeRow) (o : Option ServerEnd) → AreAlike later homes → server_leaves m place later o ≡ server_leaves m place homes o
leaves_stays m place homes later None alike = refl
leaves_stays m place homes later (Some s) alike =
    ap (λ (c : Option Context). cond (same_method s.options.method m) c None) (waiting_stays place homes later (waiting s.state) alike)

server_stays : (m : Method) (place : ℕ) (homes later : List HomeRow) (o : Option Session) → AreAlike later homes → server_at m place later o ≡ server_at m place homes o
server_stays m place homes later None alike = refl
server_stays m place homes later (Some session) alike = leaves_stays m place homes later session.server alike

-- nothing is moved
unmoved : (set : Setting) (w v : Net) (notes : Notes) (m : Method) (sub place : ℕ) → ((i : ℕ) → home_places m place v i ≡ home_places m place w i)
    → counters_resumed m sub v.sessions ≡ counters_resumed m sub w.sessions → HomeMoves set m sub place w v notes
unmoved set w v notes m sub place same used = record {
  move = None;
  is_allowed = tt;
  places = same;
  used = subst (IsPermutation (counters_resumed m sub w.sessions)) (sym used) (IsPermutation-refl (counters_resumed m sub w.sessions));
}

still : (set : Setting) (w : Net) (notes : Notes) → HomeNext set w w notes
still set w notes = record {
  alike = refl;
  fits = λ h. h;
  moves = λ h m sub place e. unmoved set w w notes m sub place (λ i. refl) refl;
}

pub suc_is : (i t : ℕ) → suc i ≡ suc t → i ≡ t
suc_is i t e = omega (arith, e)

pub apart : (i t : ℕ) → (i == t) ≡ false → i ≢ t
apart i t e = λ same. true_false (i == t) (ap (λ (n : ℕ). n == t) same ∙ is_same t) e
  where
    true_false : (b : Bool) → b ≡ true → b ≡ false → ⊥
    true_false b e f = cc

-- a session changes
module _ (set : Setting) (w v : Net) (notes : Notes) (t : ℕ) (session changed : Session) (there : slice_get w.sessions t ≡ Some session)
    (now : v.sessions ≡ slice_set w.sessions t changed) (alike : AreAlike v.homes w.homes) where
  others_stay : (m : Method) (place i : ℕ) → i ≢ t → home_places m place v (suc i) ≡ home_places m place w (suc i)
  others_stay m place i e =
      ap (λ (l : List Session). server_at m place v.homes (slice_get l i)) now ∙ ap (server_at m place v.homes) (get_there w.sessions t i changed e)
      ∙ server_stays m place w.homes v.homes (slice_get w.sessions i) alike

  here_now : (m : Method) (place : ℕ) → home_places m place v (suc t) ≡ server_leaves m place v.homes changed.server
  here_now m place = ap (λ (l : List Session). server_at m place v.homes (slice_get l t)) now ∙ ap (server_at m place v.homes) (get_here w.sessions t session changed there)

  here_was : (m : Method) (place : ℕ) → home_places m place w (suc t) ≡ server_leaves m place w.homes session.server
  here_was m place = ap (server_at m place w.homes) there

  one_moves : (m : Method) (sub place : ℕ) (move : Option Move) → IsHomeMove set m (home_at w.homes place) (home_at v.homes place) notes move
      → entry m (home_at v.homes place).store ≡ (moved_by move (only (home_places m place w))).place zero
      → server_leaves m place v.homes changed.server ≡ (moved_by move (only (home_places m place w))).place (suc t)
      → ((i : ℕ) → i ≢ zero → i ≢ suc t → (moved_by move (only (home_places m place w))).place i ≡ home_places m place w i)
      → counters_in m sub changed.server ≡ (moved_by move (only (home_places m place w))).used ++ counters_in m sub session.server → HomeMoves set m sub place w v notes
  one_moves m sub place move allowed store own others used = record {
    move = move;
    is_allowed = allowed;
    places = places;
    used = subst (λ (l : List Session). IsPermutation ((moved_by move (only (home_places m place w))).used ++ counters_resumed m sub w.sessions) (counters_resumed m sub l)) (sym now)
        (adds (λ (s : Session). counters_in m sub s.server) w.sessions t session changed (moved_by move (only (home_places m place w))).used there used);
  }
    where
      later : Places
      later = (moved_by move (only (home_places m place w))).place

      by : (i : ℕ) (b : Bool) → (i == t) ≡ b → home_places m place v (suc i) ≡ (moved_by move (only (home_places m place w))).place (suc i)
      by i true e =
          subst (λ (k : ℕ). home_places m place v (suc k) ≡ (moved_by move (only (home_places m place w))).place (suc k)) (sym (same_number i t e)) (here_now m place ∙ own)
      by i false e = others_stay m place i (apart i t e) ∙ sym (others (suc i) (session_apart i) (λ same. apart i t e (suc_is i t same)))

      places : (i : ℕ) → home_places m place v i ≡ (moved_by move (only (home_places m place w))).place i
      places zero = store
      places (suc i) = by i (i == t) refl

  -- the server stays, and so do the homes
  peer_moves : v.homes ≡ w.homes → changed.server ≡ session.server → (m : Method) (sub place : ℕ) → HomeMoves set m sub place w v notes
  peer_moves homes server m sub place =
      one_moves m sub place None tt (ap (λ (hs : List HomeRow). entry m (home_at hs place).store) homes)
      (ap (server_leaves m place v.homes) server ∙ leaves_stays m place w.homes v.homes session.server alike ∙ sym (here_was m place)) (λ i e f. refl) (ap (counters_in m sub) server)

  -- a server that waits for an identity comes
  server_comes : (new : ServerEnd) → v.homes ≡ w.homes → session.server ≡ None → changed.server ≡ Some new → waiting new.state ≡ None → resumed_of new ≡ None → (m : Method) (sub place : ℕ)
      → HomeMoves set m sub place w v notes
  server_comes new homes none comes nothing fresh m sub place =
      one_moves m sub place None tt (ap (λ (hs : List HomeRow). entry m (home_at hs place).store) homes)
      (ap (server_leaves m place v.homes) comes ∙ ap (λ (c : Option (ℕ × Context)). cond (same_method new.options.method m) (waiting_at place v.homes c) None) nothing
      ∙ same_both (same_method new.options.method m) None ∙ sym (here_was m place ∙ ap (server_leaves m place w.homes) none)) (λ i e f. refl)
      (ap (counters_in m sub) comes ∙ ap (λ (r : Option Resumed). cond (same_method new.options.method m) (resumed_for sub r) []) fresh ∙ same_both (same_method new.options.method m) []
      ∙ sym (ap (counters_in m sub) none))

  -- a server takes a turn
  module _ (s new : ServerEnd) (is : session.server ≡ Some s) (becomes : changed.server ≡ Some new) (options : new.options ≡ s.options)
      (turn : (sub place : ℕ) (places : Places) → home_place w.homes sub ≡ Some place → places zero ≡ entry s.options.method (home_at w.homes place).store
      → places (suc t) ≡ waiting_at place w.homes (waiting s.state) → HomeTurn set s.options.method sub place t w.homes v.homes (resumed_of s) new notes places)
      (left : (m : Method) (place : ℕ) → m ≢ s.options.method → entry m (home_at v.homes place).store ≡ entry m (home_at w.homes place).store) where
    was : (m : Method) (place : ℕ) → home_places m place w (suc t) ≡ cond (same_method s.options.method m) (waiting_at place w.homes (waiting s.state)) None
    was m place = here_was m place ∙ ap (server_leaves m place w.homes) is

    becoming : (m : Method) (place : ℕ) → server_leaves m place v.homes changed.server ≡ cond (same_method s.options.method m) (waiting_at place v.homes (waiting new.state)) None
    becoming m place = ap (server_leaves m place v.homes) becomes
        ∙ ap (λ (o : ServerOptions). cond (same_method o.method m) (waiting_at place v.homes (waiting new.state)) None) options

    counted_now : (m : Method) (sub : ℕ) → counters_in m sub changed.server ≡ cond (same_method s.options.method m) (resumed_for sub (resumed_of new)) []
    counted_now m sub = ap (counters_in m sub) becomes ∙ ap (λ (o : ServerOptions). cond (same_method o.method m) (resumed_for sub (resumed_of new)) []) options

    counted_was : (m : Method) (sub : ℕ) → counters_in m sub session.server ≡ cond (same_method s.options.method m) (resumed_for sub (resumed_of s)) []
    counted_was m sub = ap (counters_in m sub) is

    own_moves : (sub place : ℕ) → home_place w.homes sub ≡ Some place → HomeMoves set s.options.method sub place w v notes
    own_moves sub place placed =
        let m = s.options.method in
        let x = turn sub place (home_places m place w) placed refl (was m place ∙ picks (same_method m m) (waiting_at place w.homes (waiting s.state)) None (method_same m)) in
        one_moves m sub place x.move x.allowed (sym x.store)
        (becoming m place ∙ picks (same_method m m) (waiting_at place v.homes (waiting new.state)) None (method_same m) ∙ sym x.session) x.others
        (counted_now m sub ∙ picks (same_method m m) (resumed_for sub (resumed_of new)) [] (method_same m) ∙ x.used
        ∙ ap (λ (l : List Used). (moved_by x.move (only (home_places m place w))).used ++ l) (sym (counted_was m sub ∙ picks (same_method m m) (resumed_for sub (resumed_of s)) [] (method_same m))))

    other_moves : (m : Method) (sub place : ℕ) → same_method s.options.method m ≡ false → HomeMoves set m sub place w v notes
    other_moves m sub place e =
        one_moves m sub place None tt (left m place (method_other s.options.method m e))
        (becoming m place ∙ leaves (same_method s.options.method m) (waiting_at place v.homes (waiting new.state)) None e
        ∙ sym (was m place ∙ leaves (same_method s.options.method m) (waiting_at place w.homes (waiting s.state)) None e)) (λ i e f. refl)
        (counted_now m sub ∙ leaves (same_method s.options.method m) (resumed_for sub (resumed_of new)) [] e
        ∙ sym (counted_was m sub ∙ leaves (same_method s.options.method m) (resumed_for sub (resumed_of s)) [] e))

    server_moves : (m : Method) (sub place : ℕ) → home_place w.homes sub ≡ Some place → HomeMoves set m sub place w v notes
    server_moves m sub place placed = by (same_method s.options.method m) refl
      where
        by : (b : Bool) → same_method s.options.method m ≡ b → HomeMoves set m sub place w v notes
        by true e = subst (λ (k : Method). HomeMoves set k sub place w v notes) (method_is s.options.method m e) (own_moves sub place placed)
        by false e = other_moves m sub place e

-- ---- the events

set_fits : (sessions : List Session) (t : ℕ) (changed : Session) → FitsIn changed.server → AllFit sessions → AllFit (slice_set sessions t changed)
set_fits sessions t changed f all = All-set (λ (session : Session). FitsIn session.server) sessions t changed f all

fits_at : (sessions : List Session) (t : ℕ) (session : Session) (o : Option ServerEnd) → AllFit sessions → slice_get sessions t ≡ Some session → session.server ≡ o → FitsIn o
fits_at sessions t session o all there is = subst FitsIn is (at (λ (x : Session). FitsIn x.server) sessions t session all there)

to_server_next : EachTurnFits → (set : Setting) (w : Net) (d : Delivery) (told : ToldEvent) (o : Option ServerEnd) → d.session.server ≡ o → slice_get w.sessions d.place ≡ Some d.session
    → HomeNext set w (to_server set w d told o) told.notes
to_server_next law set w d told None is there = still set w told.notes
to_server_next law set w d told (Some s) is there =
    let turn = server_turn set w s told in
    let v = to_server set w d told (Some s) in
    let changed : Session = record d.session { server = Some turn.0 } in record {
      alike = turn_keeps_subs set w.homes s told.seen told.reply told.notes;
      fits = λ h. set_fits w.sessions d.place changed (law set w.homes s told.seen told.reply told.notes (fits_at w.sessions d.place d.session (Some s) h there is)) h;
      moves = λ h m sub place placed.
          let f = fits_at w.sessions d.place d.session (Some s) h there is in
          server_moves set w v told.notes d.place d.session changed there refl (turn_keeps_subs set w.homes s told.seen told.reply told.notes) s turn.0 is refl
          (turn_options set w.homes s told.seen told.reply told.notes)
          (λ i p places here stored waits. turn_moves_home set i p d.place w.homes s places here stored waits told.seen told.reply told.notes)
          (λ k p e. turn_leaves_other k p set w.homes s told.seen told.reply told.notes e) m sub place placed;
    }

-- a session whose server stays
peer_next : (set : Setting) (w v : Net) (notes : Notes) (t : ℕ) (session changed : Session) → slice_get w.sessions t ≡ Some session → v.sessions ≡ slice_set w.sessions t changed
    → v.homes ≡ w.homes → changed.server ≡ session.server → HomeNext set w v notes
peer_next set w v notes t session changed there now homes server =
    let alike : AreAlike v.homes w.homes = ap (λ (hs : List HomeRow). map (λ (home : HomeRow). home.sub) hs) homes in record {
      alike = alike;
      fits = λ h. subst AllFit (sym now) (set_fits w.sessions t changed (subst FitsIn (sym server) (fits_at w.sessions t session session.server h there refl)) h);
      moves = λ h m sub place placed. peer_moves set w v notes t session changed there now alike homes server m sub place;
    }

to_peer_next : (set : Setting) (w : Net) (d : Delivery) (told : ToldEvent) (o : Option Subscription) → slice_get w.sessions d.place ≡ Some d.session → HomeNext set w (to_peer set w d told o) told.notes
to_peer_next set w d told None there = still set w told.notes
to_peer_next set w d told (Some device) there =
    let turn = peer_turn set device (keeps_at w d.session.device) d.session told in
    peer_next set w (to_peer set w d told (Some device)) told.notes d.place d.session
    (record d.session { peer = turn.0; peer_keys = keys_won d.session.peer_keys turn.1.step }) there refl refl refl

server_delivered : EachTurnFits → (set : Setting) (w : Net) (told : ToldEvent) (packet : ℕ) (o : Option ℕ) → HomeNext set w (delivered set w end.Server told (delivery_at w packet o)) told.notes
server_delivered law set w told packet None = still set w told.notes
server_delivered law set w told packet (Some place) = by (slice_get w.sessions place) (packet_at w.packets packet) refl
  where
    by : (x : Option Session) (y : Option SentPacket) → slice_get w.sessions place ≡ x → HomeNext set w (delivered set w end.Server told (delivery_of packet place x y)) told.notes
    by (Some session) (Some sent) e = to_server_next law set w (record { place = place; session = session; bytes = sent.bytes; packet = packet }) told session.server refl e
    by (Some session) None e = still set w told.notes
    by None (Some sent) e = still set w told.notes
    by None None e = still set w told.notes

peer_delivered : (set : Setting) (w : Net) (told : ToldEvent) (packet : ℕ) (o : Option ℕ) → HomeNext set w (delivered set w end.Peer told (delivery_at w packet o)) told.notes
peer_delivered set w told packet None = still set w told.notes
peer_delivered set w told packet (Some place) = by (slice_get w.sessions place) (packet_at w.packets packet) refl
  where
    by : (x : Option Session) (y : Option SentPacket) → slice_get w.sessions place ≡ x → HomeNext set w (delivered set w end.Peer told (delivery_of packet place x y)) told.notes
    by (Some session) (Some sent) e =
        to_peer_next set w (record { place = place; session = session; bytes = sent.bytes; packet = packet }) told (slice_get w.devices session.device) e
    by (Some session) None e = still set w told.notes
    by None (Some sent) e = still set w told.notes
    by None None e = still set w told.notes

start_next : (set : Setting) (w : Net) (notes : Notes) (t : ℕ) (session : Session) (o : Option ServerEnd) → session.server ≡ o → slice_get w.sessions t ≡ Some session
    → HomeNext set w (start w t session o) notes
start_next set w notes t session (Some s) is there = still set w notes
start_next set w notes t session None is there =
    let new = started session.options in
    let changed : Session = record session { server = Some new } in record {
      alike = refl;
      fits = λ h. set_fits w.sessions t changed (started_fits session.options) h;
      moves = λ h m sub place placed. server_comes set w (start w t session None) notes t session changed there refl refl new refl is refl refl refl m sub place;
    }

repeat_next : (set : Setting) (w : Net) (notes : Notes) (t : ℕ) (session : Session) (o : Option ServerEnd) → session.server ≡ o → slice_get w.sessions t ≡ Some session
    → HomeNext set w (repeat w t session o) notes
repeat_next set w notes t session None is there = still set w notes
repeat_next set w notes t session (Some s) is there = peer_next set w (repeat w t session (Some s)) notes t session (record session { server = Some s }) there refl refl (sym is)

server_ends : (set : Setting) (w : Net) (notes : Notes) (t : ℕ) (session : Session) (o : Option ServerEnd) → session.server ≡ o → slice_get w.sessions t ≡ Some session
    → HomeNext set w (server_gives_up w t session o) notes
server_ends set w notes t session None is there = still set w notes
server_ends set w notes t session (Some s) is there =
    let new = (gave_up s s.state).0 in
    let changed : Session = record session { server = Some new } in record {
      alike = refl;
      fits = λ h. set_fits w.sessions t changed (gave_up_fits s s.state (fits_at w.sessions t session (Some s) h there is)) h;
      moves = λ h m sub place placed.
          server_moves set w (server_gives_up w t session (Some s)) notes t session changed there refl refl s new is refl (gave_up_options s)
          (λ i p places here stored waits. giving_up_moves_home set i p t w.homes s places here stored waits s.state notes refl) (λ k p e. refl) m sub place placed;
    }

give_up_next : (set : Setting) (w : Net) (notes : Notes) (at' : End) (t : ℕ) (session : Session) → slice_get w.sessions t ≡ Some session → HomeNext set w (give_up w at' t session) notes
give_up_next set w notes end.Server t session there = server_ends set w notes t session session.server refl there
give_up_next set w notes end.Peer t session there =
    let gave = peer_gave_up session.peer session.peer.state in
    peer_next set w (give_up w end.Peer t session) notes t session (record session { peer = gave.0; peer_keys = keys_won session.peer_keys gave.1 }) there refl refl refl

session_next : (set : Setting) (w : Net) (notes : Notes) (session : ℕ) (does : ℕ → Session → Net)
    → ((t : ℕ) (s : Session) → slice_get w.sessions t ≡ Some s → HomeNext set w (does t s) notes) → HomeNext set w (at_session w session does) notes
session_next set w notes session does each = by (session_place w.sessions session)
  where
    found_one : (place : ℕ) (x : Option Session) → slice_get w.sessions place ≡ x → HomeNext set w (in_session w does place x) notes
    found_one place None e = still set w notes
    found_one place (Some s) e = each place s e

    by : (o : Option ℕ) → HomeNext set w (at_place w does o) notes
    by None = still set w notes
    by (Some place) = found_one place (slice_get w.sessions place) refl

-- a session without a server
new_leaves : (m : Method) (place : ℕ) (homes : List HomeRow) (sessions : List Session) (new : Session) (i : ℕ) → new.server ≡ None
    → server_at m place homes (slice_get (sessions ++ new ∷ []) i) ≡ server_at m place homes (slice_get sessions i)
new_leaves m place homes [] new zero e = ap (server_leaves m place homes) e
new_leaves m place homes [] new (suc i) e = refl
new_leaves m place homes (session ∷ sessions) new zero e = refl
new_leaves m place homes (session ∷ sessions) new (suc i) e = new_leaves m place homes sessions new i e

opened_next : (set : Setting) (w : Net) (notes : Notes) (opening : SessionLine) (found place : Option ℕ) → HomeNext set w (opened w opening found place) notes
opened_next set w notes opening (Some first) place = still set w notes
opened_next set w notes opening None None = still set w notes
opened_next set w notes opening None (Some place) =
    let new = new_session opening place in record {
      alike = refl;
      fits = λ h. All-push (λ (session : Session). FitsIn session.server) w.sessions new h tt;
      moves = λ h m sub at' placed.
          unmoved set w (opened w opening None (Some place)) notes m sub at' (places m at') (pushes (λ (session : Session). counters_in m sub session.server) w.sessions new refl);
    }
  where
    places : (m : Method) (at' i : ℕ) → home_places m at' (opened w opening None (Some place)) i ≡ home_places m at' w i
    places m at' zero = refl
    places m at' (suc i) = new_leaves m at' w.homes w.sessions (new_session opening place) i refl

-- a changed packet moves nothing
copy_next : (set : Setting) (w : Net) (notes : Notes) (copy : Option (List ℕ)) → HomeNext set w (with_copy w copy) notes
copy_next set w notes copy = record {
  alike = refl;
  fits = λ h. h;
  moves = λ h m sub place e. unmoved set w (with_copy w copy) notes m sub place (copy_places m place) refl;
}
  where
    copy_places : (m : Method) (place i : ℕ) → home_places m place (with_copy w copy) i ≡ home_places m place w i
    copy_places m place zero = refl
    copy_places m place (suc i) = refl

moved_next : EachTurnFits → (set : Setting) (w : Net) (e : Event) (told : ToldEvent) → HomeNext set w (moved set w e told) told.notes
moved_next law set w (event.Open opening) told =
    opened_next set w told.notes opening (session_place w.sessions opening.session) (device_place set.rows w.devices opening.sub)
moved_next law set w (event.Start session) told = session_next set w told.notes session (λ t s. start w t s s.server) (λ t s there. start_next set w told.notes t s s.server refl there)
moved_next law set w (event.Deliver session end.Server packet) told = server_delivered law set w told packet (session_place w.sessions session)
moved_next law set w (event.Deliver session end.Peer packet) told = peer_delivered set w told packet (session_place w.sessions session)
moved_next law set w (event.Repeat session) told = session_next set w told.notes session (λ t s. repeat w t s s.server) (λ t s there. repeat_next set w told.notes t s s.server refl there)
moved_next law set w (event.GiveUp session at') told = session_next set w told.notes session (give_up w at') (λ t s there. give_up_next set w told.notes at' t s there)
moved_next law set w (event.Tamper packet place byte) told = copy_next set w told.notes (changed_in w.packets (event.Tamper packet place byte))
moved_next law set w (event.Cut packet count) told = copy_next set w told.notes (changed_in w.packets (event.Cut packet count))

event_next : EachTurnFits → (set : Setting) (w : Net) (e : Event) (told : ToldEvent) → HomeNext set w (happened set w e told) told.notes
event_next law set w e told = let n = moved_next law set w e told in record { alike = n.alike; fits = n.fits; moves = n.moves }

-- ---- runs

pub record Stays (w v : Net) : Type 0 where
  pub alike : AreAlike v.homes w.homes
  pub fits : AllFit v.sessions

one_stays : EachTurnFits → (set : Setting) (w : Net) (h : Happening) → AllFit w.sessions → Stays w (after_one set w h)
one_stays law set w (Occurs e told) fits = let n = event_next law set w e told in record { alike = n.alike; fits = n.fits fits }
one_stays law set w (Noted number) fits = record { alike = refl; fits = fits }

run_stays : EachTurnFits → (set : Setting) (w : Net) (hs : List Happening) → AllFit w.sessions → Stays w (after set w hs)
run_stays law set w [] fits = record { alike = refl; fits = fits }
run_stays law set w (h ∷ hs) fits =
    let one = one_stays law set w h fits in
    let rest = run_stays law set (after_one set w h) hs one.fits in record { alike = rest.alike ∙ one.alike; fits = rest.fits }

pub events_move_homes_once : EachTurnFits → EachEventMovesHomesOnce
events_move_homes_once law set w hs h m sub place fresh placed =
    let v = run_stays law set w hs (subst AllFit (sym fresh.sessions) (All-nil (λ (session : Session). FitsIn session.server))) in
    by h v (place_stays w.homes (after set w hs).homes sub v.alike ∙ placed)
  where
    by : (h : Happening) → Stays w (after set w hs) → home_place (after set w hs).homes sub ≡ Some place → EachMoves set (after set w hs) h (HomeMoves set m sub place)
    by (Occurs e told) v there = (event_next law set (after set w hs) e told).moves v.fits m sub place there
    by (Noted number) v there = tt
