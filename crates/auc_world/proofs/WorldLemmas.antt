-- For `acting` and `world`: networks in which one session or one device changes.
use Rattle.std.proofs.Common.{◌≡◌, ℕ, ◌==◌, true, false, List, [], ◌∷◌, ◌++◌, map, zero, suc, Option, Some, None, Result, Ok, Err, is_some, true≢false, refl, sym, ap, ◌∙◌, subst, arith, All}
use Rattle.std.specs.Prelude.{OnErr, slice_get, slice_set}
use Rattle.std.specs.List.{position, position_or_len}
use Rattle.std.proofs.lemmas.Bool.Decides.{nat_tests}
use Rattle.std.proofs.lemmas.List.{length-map, map-append, set-get_or}
use Rattle.std.proofs.lemmas.List.Elements.{All-push, All-set, All-weaker}
use Rattle.std.proofs.lemmas.Option.{get_or_from_slice_get, slice_get_within}
use Rattle.std.proofs.Math.Seq.{map-set_same}
use Rattle.indexmap.specs.IndexMap.{set_value_at}
use Rattle.auc_lines.specs.declared.part.SessionLine.{SessionLine}
use Rattle.auc_peer.specs.Subscription.{Subscription, subscription_of}
use Rattle.auc_peer.specs.declared.device.Device.{Device}
use Rattle.auc_released.specs.declared.numbers.Number.{Number}
use Rattle.auc_server.specs.Server.{ServerEnd}
use Rattle.auc_server.specs.Steps.{IsHome, IsServed}
use Rattle.auc_server.specs.declared.options.ServerOptions.{ServerOptions}
use Rattle.auc_server.specs.declared.setting.HomeRow.{HomeRow}
use Rattle.auc_world.proofs.HomeLemmas.{held_alike}
use Rattle.auc_record.specs.Event.{Came}
use Rattle.auc_world.specs.Came.{came_in, came_opened, of_opening, session_at, session_of}
use Rattle.auc_world.specs.Happened.{at_place, at_session, new_session, opened}
use Rattle.auc_world.specs.InnerWorld.{Acts, AreNumbered, ArePlaced, IsKept, SessionStands, came_of, device_with, net_of, state_of, with_session}
use Rattle.auc_subs.specs.declared.row.Row.{Row}
use Rattle.auc_world.specs.Net.{Net, device_place, place_with, session_place}
use Rattle.auc_world.specs.World.{AreOfSame, HasHeld, IsName, WorldState}
use Rattle.auc_world.specs.declared.acting.Deed.{Deed}
use Rattle.auc_record.specs.declared.event.WorldRefusal.TheVariants as refused
use Rattle.auc_record.specs.declared.record.Breach.{Breach}
use Rattle.auc_world.specs.declared.net.SentPacket.{SentPacket}
use Rattle.auc_world.specs.declared.net.Session.{Session}
use Rattle.auc_memory.specs.declared.identity_key.IdentityKey.{IdentityKey}

-- ---- lists

-- an item that is put where it stands changes nothing
pub set_same : {A : Type 0} (xs : List A) (place : ℕ) (x : A) → slice_get xs place ≡ Some x → slice_set xs place x ≡ xs
set_same xs place x there = subst (λ y. slice_set xs place y ≡ xs) (get_or_from_slice_get xs place x x there) (set-get_or xs place x)

-- what holds of all holds of one of them
pub of_all : {A : Type 0} (P : A → Type 0) (xs : List A) (place : ℕ) (x : A) → All P xs → slice_get xs place ≡ Some x → P x
of_all P xs place x all there = subst P (get_or_from_slice_get xs place x x there) (all place x (slice_get_within xs place x there))

-- an item is replaced by one that f cannot tell from it
pub map_same : {A B : Type 0} (f : A → B) (xs : List A) (place : ℕ) (x y : A) → slice_get xs place ≡ Some x → f y ≡ f x → map f (slice_set xs place y) ≡ map f xs
map_same f xs place x y there same = map-set_same f xs place y x (same ∙ ap f (sym (get_or_from_slice_get xs place x x there)))

-- the values of a map after one is written
pub values_set : (entries : List (ℕ × Session)) (place : ℕ) (session : Session)
    → map (λ e. e.1) (set_value_at entries place session) ≡ slice_set (map (λ e. e.1) entries) place session
values_set [] place session = refl
values_set (e ∷ entries) zero session = refl
values_set (e ∷ entries) (suc place) session = ap (λ (all : List Session). e.1 ∷ all) (values_set entries place session)

-- ---- look-ups by a session's number

same_test : (a b : ℕ) → (a == b) ≡ (b == a)
same_test a b = grind (arith, nat_tests)

first_number : (sessions : List Session) (number : ℕ) → position_or_len (λ k. number == k) (map (λ s. s.number) sessions) ≡ position_or_len (λ s. s.number == number) sessions
first_number [] number = refl
first_number (session ∷ sessions) number = rw (same_test number session.number, first_number sessions number) refl

pub place_by_number : (numbers : List ℕ) (sessions : List Session) (number : ℕ) → AreNumbered numbers sessions → position (λ k. number == k) numbers ≡ session_place sessions number
place_by_number numbers sessions number numbered = rw (numbered, first_number sessions number, length-map sessions (λ s. s.number)) refl

-- ---- a network in which one session changes

-- a network in which nothing was posted and the session stays is the same
pub stays : (w : Net) (place : ℕ) (packets : List SentPacket) (session : Session) → SessionStands w place packets session → w ≡ with_session w place packets session
stays w place packets session at' =
    let same : w.sessions ≡ slice_set w.sessions place session = sym (set_same w.sessions place session at'.there) in
    λ j. record w { packets = at'.packets_are j; sessions = same j }

-- the session of a number, by its place
pub session_is : (w : Net) (number place : ℕ) (session : Session) → session_place w.sessions number ≡ Some place → slice_get w.sessions place ≡ Some session
    → session_of w number ≡ Some session
session_is w number place session found there = rw found there

pub happens_there : (w : Net) (number place : ℕ) (session : Session) (does : ℕ → Session → Net) → session_place w.sessions number ≡ Some place → slice_get w.sessions place ≡ Some session
    → at_session w number does ≡ does place session
happens_there w number place session does found there = rw (found, there) refl

module _ (w : Net) (number place : ℕ) (session changed : Session) (sent : List SentPacket) (what : Deed) (came : Came)
    (found : session_place w.sessions number ≡ Some place) (there : slice_get w.sessions place ≡ Some session) (acts : Acts what w.packets session sent changed came) where
  stands : SessionStands w place w.packets session
  stands = record { packets_are = refl; there = there }

  pub came_there : came ≡ came_in (came_of w what) (session_of w number)
  came_there = acts.is w place stands ∙ ap (came_in (came_of w what)) (sym (session_is w number place session found there))

  pub net_there : with_session w place sent changed ≡ at_session w number (net_of w what)
  net_there = sym (acts.leads w place stands) ∙ sym (happens_there w number place session (net_of w what) found there)

-- ---- what is kept

module _ (numbers : List ℕ) (found : IdentityKey → Option ℕ) (packets : List SentPacket) (sessions : List Session) (released : List Number) (homes : List HomeRow)
    (broken : Option Breach) (devices : List Device) (kept : IsKept numbers found (state_of packets sessions released homes broken devices)) where
  -- a session changes, but not its number
  pub kept_session : (numbers' : List ℕ) (packets' : List SentPacket) (sessions' : List Session) (released' : List Number) (broken' : Option Breach) (place : ℕ) (session changed : Session)
      → numbers' ≡ numbers → sessions' ≡ slice_set sessions place changed → slice_get sessions place ≡ Some session → changed.number ≡ session.number → changed.options ≡ session.options
      → HasHeld homes changed.server → IsKept numbers' found (state_of packets' sessions' released' homes broken' devices)
  kept_session numbers' packets' sessions' released' broken' place session changed same_numbers same_sessions there same_number same_options held = record {
    world = record {
      subscriptions = refl;
      stores = refl;
      held = subst (All (λ s. HasHeld homes s.server)) (sym same_sessions) (All-set (λ s. HasHeld homes s.server) sessions place changed held kept.world.held);
      names = subst (All (λ s. IsName s.options.name)) (sym same_sessions)
          (All-set (λ s. IsName s.options.name) sessions place changed
          (subst (λ (o : ServerOptions). IsName o.name) (sym same_options) (of_all (λ (s : Session). IsName s.options.name) sessions place session kept.world.names there)) kept.world.names);
    };
    numbered = same_numbers ∙ kept.numbered ∙ sym (map_same (λ (s : Session). s.number) sessions place session changed there same_number)
        ∙ ap (map (λ (s : Session). s.number)) (sym same_sessions);
    placed = kept.placed;
  }

  -- a device changes, but not its subscription
  pub kept_device : (place : ℕ) (device card : Device) → slice_get devices place ≡ Some device → subscription_of card ≡ subscription_of device
      → IsKept numbers found (state_of packets sessions released homes broken (slice_set devices place card))
  kept_device place device card there same = record {
    world = record {
      subscriptions = refl;
      stores = refl;
      held = kept.world.held;
      names = kept.world.names;
    };
    numbered = kept.numbered;
    placed = subst (λ (all : List Subscription). ArePlaced found all) (sym (map_same subscription_of devices place device card there same)) kept.placed;
  }

-- ---- answers

-- what holds, holds if there is an error
pub on_error : {A E : Type 0} (r : Result A E) (P : Type 0) → P → OnErr r P
on_error (Ok a) P p = tt
on_error (Err e) P p = p

-- a state by its parts
pub states : (packets packets' : List SentPacket) (sessions sessions' : List Session) (released : List Number) (homes : List HomeRow) (broken : Option Breach) (devices : List Device)
    → packets ≡ packets' → sessions ≡ sessions' → state_of packets sessions released homes broken devices ≡ state_of packets' sessions' released homes broken devices
states packets packets' sessions sessions' released homes broken devices p s = λ j. state_of (p j) (s j) released homes broken devices

-- no session has a number
pub nothing_there : (w : Net) (number : ℕ) (does : Session → Came) → None ≡ session_place w.sessions number → Err refused.NoSuchEnd ≡ came_in does (session_of w number)
nothing_there w number does none = ap (λ (p : Option ℕ). came_in does (session_at w p)) none

pub nothing_happens : (w : WorldState) (number : ℕ) (does : ℕ → Session → Net) → None ≡ session_place w.net.sessions number
    → w ≡ record w { net = at_session w.net number does }
nothing_happens w number does none = λ j. record w { net = at_place w.net does (none j) }

module _ (packets : List SentPacket) (sessions : List Session) (released : List Number) (homes : List HomeRow) (broken : Option Breach) (devices : List Device)
    (now : WorldState) (is : state_of packets sessions released homes broken devices ≡ now) (number : ℕ) where
  abbrev net : Net
  net = (state_of packets sessions released homes broken devices).net

  pub refused_there : (does : Net → Session → Came) → None ≡ session_place sessions number → Err refused.NoSuchEnd ≡ came_in (does now.net) (session_of now.net number)
  refused_there does none = subst (λ (w : WorldState). Err refused.NoSuchEnd ≡ came_in (does w.net) (session_of w.net number)) is (nothing_there net number (does net) none)

  pub still_there : (does : Net → ℕ → Session → Net) → None ≡ session_place sessions number → now ≡ record now { net = at_session now.net number (does now.net) }
  still_there does none =
      subst (λ (w : WorldState). w ≡ record w { net = at_session w.net number (does w.net) }) is
      (nothing_happens (state_of packets sessions released homes broken devices) number (does net) none)

  module _ (place : ℕ) (session changed : Session) (sent : List SentPacket) (what : Deed) (came : Came)
      (found : session_place sessions number ≡ Some place) (there : slice_get sessions place ≡ Some session) (acts : Acts what packets session sent changed came) where
    pub acted_came : came ≡ came_in (came_of now.net what) (session_of now.net number)
    acted_came = subst (λ (w : WorldState). came ≡ came_in (came_of w.net what) (session_of w.net number)) is (came_there net number place session changed sent what came found there acts)

    pub acted_net : (sessions' : List Session) → sessions' ≡ slice_set sessions place changed
        → state_of sent sessions' released homes broken devices ≡ record now { net = at_session now.net number (net_of now.net what) }
    acted_net sessions' same =
        let put : state_of sent sessions' released homes broken devices ≡ record (state_of packets sessions released homes broken devices) { net = with_session net place sent changed } =
        λ j. state_of sent (same j) released homes broken devices in
        put ∙ ap (λ (n : Net). record (state_of packets sessions released homes broken devices) { net = n }) (net_there net number place session changed sent what came found there acts)
        ∙ ap (λ (w : WorldState). record w { net = at_session w.net number (net_of w.net what) }) is

-- ---- devices

-- the place of a row's device
pub row_place : (rows : List Row) (devices : List Subscription) (sub : ℕ) (row : Row) → slice_get rows sub ≡ Some row
    → device_with devices row.imsi ≡ device_place rows devices sub
row_place rows devices sub row there = ap (place_with devices) (sym there)

-- ---- a session is opened

none_there : (found : Option ℕ) → is_some found ≡ false → found ≡ None
none_there None none = refl
none_there (Some place) none = absurd cc

pub no_session : (found : Option ℕ) (sessions : List Session) (number : ℕ) → found ≡ session_place sessions number → false ≡ is_some found → session_place sessions number ≡ None
no_session found sessions number same none = sym same ∙ none_there found (sym none)

started_there : (found place : Option ℕ) → true ≡ is_some found → Err refused.Started ≡ came_opened found place
started_there None place some = absurd cc
started_there (Some other) place some = refl

stays_there : (w : Net) (opening : SessionLine) (found place : Option ℕ) → true ≡ is_some found → w ≡ opened w opening found place
stays_there w opening None place some = absurd cc
stays_there w opening (Some other) place some = refl

-- one of its number is open
module _ (packets : List SentPacket) (sessions : List Session) (released : List Number) (homes : List HomeRow) (broken : Option Breach) (devices : List Device)
    (now : WorldState) (is : state_of packets sessions released homes broken devices ≡ now) (opening : SessionLine) (place : Option ℕ) (found : Option ℕ)
    (same : found ≡ session_place sessions opening.session) (some : true ≡ is_some found) where
  abbrev there_now : found ≡ session_place now.net.sessions opening.session
  there_now = same ∙ ap (λ (w : WorldState). session_place w.net.sessions opening.session) is

  pub twice_came : Err refused.Started ≡ came_opened (session_place now.net.sessions opening.session) place
  twice_came = started_there found place some ∙ ap (λ (f : Option ℕ). came_opened f place) there_now

  pub twice_net : now ≡ record now { net = opened now.net opening (session_place now.net.sessions opening.session) place }
  twice_net =
      ap (λ (n : Net). record now { net = n }) (stays_there now.net opening found place some)
      ∙ ap (λ (f : Option ℕ). record now { net = opened now.net opening f place }) there_now

-- the entries of a map with a further one
pub keys_push : (entries : List (ℕ × Session)) (entries' : List (ℕ × Session)) (number : ℕ) (session : Session) → entries' ≡ entries ++ (number, session) ∷ []
    → map (λ e. e.0) entries' ≡ map (λ e. e.0) entries ++ number ∷ []
keys_push entries entries' number session put = ap (map (λ (e : ℕ × Session). e.0)) put ∙ map-append (λ (e : ℕ × Session). e.0) entries ((number, session) ∷ [])

pub values_push : (entries : List (ℕ × Session)) (entries' : List (ℕ × Session)) (number : ℕ) (session : Session) → entries' ≡ entries ++ (number, session) ∷ []
    → map (λ e. e.1) entries' ≡ map (λ e. e.1) entries ++ session ∷ []
values_push entries entries' number session put = ap (map (λ (e : ℕ × Session). e.1)) put ∙ map-append (λ (e : ℕ × Session). e.1) entries ((number, session) ∷ [])

-- none is, and the device is there
module _ (packets : List SentPacket) (sessions : List Session) (released : List Number) (homes : List HomeRow) (broken : Option Breach) (devices : List Device)
    (now : WorldState) (is : state_of packets sessions released homes broken devices ≡ now) (opening : SessionLine) (device : ℕ) (place : Option ℕ)
    (none : session_place sessions opening.session ≡ None) (here : Some device ≡ place) where
  abbrev none_now : session_place now.net.sessions opening.session ≡ None
  none_now = ap (λ (w : WorldState). session_place w.net.sessions opening.session) (sym is) ∙ none

  pub opened_came : Ok of_opening ≡ came_opened (session_place now.net.sessions opening.session) place
  opened_came = ap (came_opened None) here ∙ ap (λ (f : Option ℕ). came_opened f place) (sym none_now)

  pub opened_net : (sessions' : List Session) → sessions' ≡ sessions ++ new_session opening device ∷ []
      → state_of packets sessions' released homes broken devices ≡ record now { net = opened now.net opening (session_place now.net.sessions opening.session) place }
  opened_net sessions' put =
      let put_net : state_of packets sessions' released homes broken devices
      ≡ record (state_of packets sessions released homes broken devices) { net = opened (state_of packets sessions released homes broken devices).net opening None (Some device) } =
      λ j. state_of packets (put j) released homes broken devices in
      put_net ∙ ap (λ (w : WorldState). record w { net = opened w.net opening None (Some device) }) is
      ∙ ap (λ (p : Option ℕ). record now { net = opened now.net opening None p }) here
      ∙ ap (λ (f : Option ℕ). record now { net = opened now.net opening f place }) (sym none_now)

pub kept_opened : (numbers : List ℕ) (found : IdentityKey → Option ℕ) (packets : List SentPacket) (sessions : List Session) (released : List Number) (homes : List HomeRow)
    (broken : Option Breach) (devices : List Device) → IsKept numbers found (state_of packets sessions released homes broken devices)
    → (numbers' : List ℕ) (sessions' : List Session) (session : Session) → numbers' ≡ numbers ++ session.number ∷ [] → sessions' ≡ sessions ++ session ∷ [] → session.server ≡ None
    → IsName session.options.name
    → IsKept numbers' found (state_of packets sessions' released homes broken devices)
kept_opened numbers found packets sessions released homes broken devices kept numbers' sessions' session same_numbers same_sessions none name = record {
  world = record {
    subscriptions = refl;
    stores = refl;
    held = subst (All (λ (s : Session). HasHeld homes s.server)) (sym same_sessions)
        (All-push (λ (s : Session). HasHeld homes s.server) sessions session kept.world.held (subst (HasHeld homes) (sym none) tt));
    names = subst (All (λ (s : Session). IsName s.options.name)) (sym same_sessions)
        (All-push (λ (s : Session). IsName s.options.name) sessions session kept.world.names name);
  };
  numbered = same_numbers ∙ ap (λ (ns : List ℕ). ns ++ session.number ∷ []) kept.numbered ∙ sym (map-append (λ (s : Session). s.number) sessions (session ∷ []))
      ∙ ap (map (λ (s : Session). s.number)) (sym same_sessions);
  placed = kept.placed;
}

-- none is, nor is the device there
pub missing_came : (packets : List SentPacket) (sessions : List Session) (released : List Number) (homes : List HomeRow) (broken : Option Breach) (devices : List Device)
    (now : WorldState) → state_of packets sessions released homes broken devices ≡ now → (number : ℕ) (place : Option ℕ) → session_place sessions number ≡ None → None ≡ place
    → Err refused.NoSuchEnd ≡ came_opened (session_place now.net.sessions number) place
missing_came packets sessions released homes broken devices now is number place none here =
    ap (came_opened None) here ∙ ap (λ (f : Option ℕ). came_opened f place) (sym (ap (λ (w : WorldState). session_place w.net.sessions number) (sym is) ∙ none))

pub absent : {X : Type 0} (found : Option ℕ) (value : Option X) → is_some found ≡ is_some value → false ≡ is_some found → value ≡ None
absent found None same none = refl
absent found (Some x) same none = absurd (true≢false (sym same ∙ sym none))

-- ---- a server in its session

-- a state by the parts that a server's turn may change
pub served_states : (packets packets' : List SentPacket) (sessions sessions' : List Session) (released released' : List Number) (homes homes' : List HomeRow) (broken : Option Breach) (devices : List Device)
    → packets ≡ packets' → sessions ≡ sessions' → released ≡ released' → homes ≡ homes' → state_of packets sessions released homes broken devices ≡ state_of packets' sessions' released' homes' broken devices
served_states packets packets' sessions sessions' released released' homes homes' broken devices p s r h = λ j. state_of (p j) (s j) (r j) (h j) broken devices

-- the homes stay
pub kept_homes : (numbers : List ℕ) (found : IdentityKey → Option ℕ) (packets : List SentPacket) (sessions : List Session) (released : List Number) (homes homes' : List HomeRow)
    (broken : Option Breach) (devices : List Device) → homes' ≡ homes → IsKept numbers found (state_of packets sessions released homes broken devices)
    → IsKept numbers found (state_of packets sessions released homes' broken devices)
kept_homes numbers found packets sessions released homes homes' broken devices same kept =
    subst (λ (h : List HomeRow). IsKept numbers found (state_of packets sessions released h broken devices)) (sym same) kept

-- or are those of the same subscribers
pub kept_alike : (numbers : List ℕ) (found : IdentityKey → Option ℕ) (packets : List SentPacket) (sessions : List Session) (released : List Number) (homes homes' : List HomeRow)
    (broken : Option Breach) (devices : List Device) → AreOfSame homes homes' → IsKept numbers found (state_of packets sessions released homes broken devices)
    → IsKept numbers found (state_of packets sessions released homes' broken devices)
kept_alike numbers found packets sessions released homes homes' broken devices same kept = record {
  world = record {
    subscriptions = refl;
    stores = refl;
    held = All-weaker (λ (s : Session). HasHeld homes s.server) (λ (s : Session). HasHeld homes' s.server) (λ s held. held_alike homes homes' s.server same held) sessions kept.world.held;
    names = kept.world.names;
  };
  numbered = kept.numbered;
  placed = kept.placed;
}

-- a session whose server stays
pub same_session : (session : Session) (s new : ServerEnd) → session.server ≡ Some s → new ≡ s → record session { server = Some new } ≡ session
same_session session s new is same =
    let server : Some new ≡ session.server = ap (λ (t : ServerEnd). Some t) same ∙ sym is in
    λ j. record session { server = server j }

-- what a server needs of it
pub served_there : (rows : List Row) (subs : ℕ) (top : ℕ → ℕ) (homes : List HomeRow) (session : Session) (s : ServerEnd) → session.server ≡ Some s
    → HasHeld homes session.server → All (λ home. IsHome rows subs top home.sub) homes → IsServed rows subs top homes s
served_there rows subs top homes session s is held each =
    let own : HasHeld homes (Some s) = subst (HasHeld homes) is held in record { each = each; held = own.0; resumed = own.1 }

-- ---- a peer in its session

-- a state by the parts that a peer's turn may change
pub answered_states : (packets packets' : List SentPacket) (sessions sessions' : List Session) (released : List Number) (homes : List HomeRow) (broken : Option Breach) (devices devices' : List Device)
    → packets ≡ packets' → sessions ≡ sessions' → devices ≡ devices' → state_of packets sessions released homes broken devices ≡ state_of packets' sessions' released homes broken devices'
answered_states packets packets' sessions sessions' released homes broken devices devices' p s d = λ j. state_of (p j) (s j) released homes broken (d j)
