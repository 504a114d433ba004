-- For the law of contexts: what an event leaves of a job's devices, and that a device gets a new context only if its USIM accepted.
use Rattle.std.proofs.Common.{◌≡◌, ◌≢◌, ◌⊎◌, ℕ, zero, suc, ◌==◌, ◌&&◌, Bool, true, false, cond, List, [], ◌∷◌, ◌++◌, length, map, Option, Some, None, slice_get, slice_set, refl, sym, ap, ◌∙◌, subst, inl, inr, ⊎_elim}
use Rattle.std.specs.Prelude.{if◌then◌else◌}
use Rattle.std.proofs.lemmas.Bool.{eqb-true}
use Rattle.std.proofs.lemmas.List.{length-set}
use Rattle.std.proofs.lemmas.Option.{get_or_from_slice_get, slice_get_within}
use Rattle.auc_aes.specs.Bytes.{IsBlock}
use Rattle.auc_hmac.specs.declared.method.Method.{Method}
use Rattle.auc_lines.specs.Part.{is_that}
use Rattle.auc_lines.specs.declared.part.End.{End}
use Rattle.auc_lines.specs.declared.part.End.TheVariants as end
use Rattle.auc_lines.specs.declared.part.SessionLine.{SessionLine}
use Rattle.auc_milenage.specs.declared.secret.Secret.{Secret}
use Rattle.auc_packet.specs.Received.{IsReceived}
use Rattle.auc_peer.specs.Places.{place_of}
use Rattle.auc_peer.specs.Subscription.{Subscription}
use Rattle.auc_reauth.specs.Device.{Keeps}
use Rattle.auc_reauth.specs.Store.{entry}
use Rattle.auc_reauth.specs.declared.context.Context.{Context}
use Rattle.auc_server.specs.Server.{ServerEnd, started}
use Rattle.auc_subs.specs.Setting.{Setting}
use Rattle.auc_server.specs.Table.{gave_up as server_gave_up}
use Rattle.auc_server.specs.declared.setting.HomeRow.{HomeRow}
use Rattle.auc_subs.specs.Subscriber.{AreSubscribers, IsRow}
use Rattle.auc_subs.specs.declared.row.Row.{Row}
use Rattle.auc_vector.specs.declared.notes.Notes.{Notes}
use Rattle.auc_vector.specs.declared.notes.UsimNote.{UsimNote}
use Rattle.auc_vector.specs.declared.notes.UsimNote.TheVariants as usim
use Rattle.auc_world.specs.Agreement.{HaveSecrets}
use Rattle.auc_world.specs.Came.{AreReceived, TellsNotes, bytes_named, came, came_at_peer, came_delivered, came_given_up, came_in, came_repeated, came_started, presented_at, presented_by, presented_in, received_at, received_by, session_at}
use Rattle.auc_record.specs.Event.{Came, device_in, usim_in}
use Rattle.auc_world.specs.Given.{Before, IsUsimAsked, past_before}
use Rattle.auc_world.specs.Happened.{Delivery, ToldEvent, at_place, delivered, delivery_at, delivery_of, give_up, happened, in_session, kept_after, moved, new_session, opened, peer_turn, repeat, server_gives_up, server_turn, start, to_peer, to_server}
use Rattle.auc_world.specs.Net.{Net, device_place, keeps_at, keeps_or, packet_at, same_method, session_place}
use Rattle.auc_world.specs.Places.{device_places, peer_at}
use Rattle.auc_record.specs.declared.event.Event.{Event}
use Rattle.auc_record.specs.declared.event.Event.TheVariants as event
use Rattle.auc_world.specs.declared.net.SentPacket.{SentPacket}
use Rattle.auc_world.specs.declared.net.Session.{Session}
use Rattle.auc_world.proofs.Facts.{AreAt, places_differ, turn_subs}
use Rattle.auc_transcript.proofs.PutBackLemmas.{apart_number, set_there}
use Rattle.auc_transcript.proofs.SqnLemmas.{turn_six}

-- ---- what stays

-- the devices, the subscribers of the homes, and how many devices keep something
pub record Stays (w v : Net) : Type 0 where
  pub devices : v.devices ≡ w.devices
  pub subs : map (λ (home : HomeRow). home.sub) v.homes ≡ map (λ (home : HomeRow). home.sub) w.homes
  pub stores : length v.stores ≡ length w.stores

still : (w : Net) → Stays w w
still w = record { devices = refl; subs = refl; stores = refl }

delivered_stays : (set : Setting) (w : Net) (at' : End) (told : ToldEvent) (o : Option Delivery) → Stays w (delivered set w at' told o)
delivered_stays set w at' told None = still w
delivered_stays set w end.Server told (Some d) = by d.session.server
  where
    by : (o : Option ServerEnd) → Stays w (to_server set w d told o)
    by None = still w
    by (Some s) = record { devices = refl; subs = turn_subs set w.homes s told.seen told.reply told.notes; stores = refl }
delivered_stays set w end.Peer told (Some d) = by (slice_get w.devices d.session.device)
  where
    by : (o : Option Subscription) → Stays w (to_peer set w d told o)
    by None = still w
    by (Some device) =
        record { devices = refl; subs = refl; stores = length-set w.stores d.session.device (kept_after (keeps_at w d.session.device) d.session told (peer_turn set device (keeps_at w d.session.device) d.session told).1) }

opened_stays : (w : Net) (opening : SessionLine) (first place : Option ℕ) → Stays w (opened w opening first place)
opened_stays w opening (Some first) place = still w
opened_stays w opening None None = still w
opened_stays w opening None (Some place) = record { devices = refl; subs = refl; stores = refl }

start_stays : (w : Net) (t : ℕ) (session : Session) (o : Option ServerEnd) → Stays w (start w t session o)
start_stays w t session None = record { devices = refl; subs = refl; stores = refl }
start_stays w t session (Some s) = still w

repeat_stays : (w : Net) (t : ℕ) (session : Session) (o : Option ServerEnd) → Stays w (repeat w t session o)
repeat_stays w t session None = still w
repeat_stays w t session (Some s) = record { devices = refl; subs = refl; stores = refl }

server_over_stays : (w : Net) (t : ℕ) (session : Session) (o : Option ServerEnd) → Stays w (server_gives_up w t session o)
server_over_stays w t session None = still w
server_over_stays w t session (Some s) = record { devices = refl; subs = refl; stores = refl }

over_stays : (w : Net) (at' : End) (t : ℕ) (session : Session) → Stays w (give_up w at' t session)
over_stays w end.Server t session = server_over_stays w t session session.server
over_stays w end.Peer t session = record { devices = refl; subs = refl; stores = refl }

at_stays : (w : Net) (does : ℕ → Session → Net) (o : Option ℕ) → ((t : ℕ) (s : Session) → Stays w (does t s)) → Stays w (at_place w does o)
at_stays w does None each = still w
at_stays w does (Some t) each = by (slice_get w.sessions t)
  where
    by : (o : Option Session) → Stays w (in_session w does t o)
    by None = still w
    by (Some s) = each t s

moved_stays : (set : Setting) (w : Net) (e : Event) (told : ToldEvent) → Stays w (moved set w e told)
moved_stays set w (event.Open opening) told = opened_stays w opening (session_place w.sessions opening.session) (device_place set.rows w.devices opening.sub)
moved_stays set w (event.Start session) told = at_stays w (λ t s. start w t s s.server) (session_place w.sessions session) (λ t s. start_stays w t s s.server)
moved_stays set w (event.Deliver session at' packet) told = delivered_stays set w at' told (delivery_at w packet (session_place w.sessions session))
moved_stays set w (event.Repeat session) told = at_stays w (λ t s. repeat w t s s.server) (session_place w.sessions session) (λ t s. repeat_stays w t s s.server)
moved_stays set w (event.GiveUp session at') told = at_stays w (give_up w at') (session_place w.sessions session) (over_stays w at')
moved_stays set w (event.Tamper packet place byte) told = record { devices = refl; subs = refl; stores = refl }
moved_stays set w (event.Cut packet count) told = record { devices = refl; subs = refl; stores = refl }

pub event_stays : (set : Setting) (w : Net) (e : Event) (told : ToldEvent) → Stays w (happened set w e told)
event_stays set w e told = let is = moved_stays set w e told in record { devices = is.devices; subs = is.subs; stores = is.stores }

-- ---- the contexts of a device

-- the contexts of a method on the device of a place are the same
abbrev pub Alike : Method → ℕ → Net → Net → Type 0
Alike m place v w = (i : ℕ) → device_places m place v i ≡ device_places m place w i

set_alike : (m : Method) (place : ℕ) (sessions : List Session) (t i : ℕ) (old new : Session) → slice_get sessions t ≡ Some old → peer_at m place (Some new) ≡ peer_at m place (Some old)
    → peer_at m place (slice_get (slice_set sessions t new) i) ≡ peer_at m place (slice_get sessions i)
set_alike m place [] t i old new there same = refl
set_alike m place (x ∷ sessions) zero zero old new there same = same ∙ sym (ap (peer_at m place) there)
set_alike m place (x ∷ sessions) zero (suc i) old new there same = refl
set_alike m place (x ∷ sessions) (suc t) zero old new there same = refl
set_alike m place (x ∷ sessions) (suc t) (suc i) old new there same = set_alike m place sessions t i old new there same

push_alike : (m : Method) (place : ℕ) (sessions : List Session) (new : Session) (i : ℕ) → peer_at m place (Some new) ≡ None
    → peer_at m place (slice_get (sessions ++ new ∷ []) i) ≡ peer_at m place (slice_get sessions i)
push_alike m place [] new zero none = none
push_alike m place [] new (suc i) none = refl
push_alike m place (x ∷ sessions) new zero none = refl
push_alike m place (x ∷ sessions) new (suc i) none = push_alike m place sessions new i none

-- one session changes, and what its peer would put on the device doesn't
changed_alike : (m : Method) (place : ℕ) (w v : Net) (t : ℕ) (old new : Session) → slice_get w.sessions t ≡ Some old → v.sessions ≡ slice_set w.sessions t new
    → peer_at m place (Some new) ≡ peer_at m place (Some old) → keeps_at v place ≡ keeps_at w place → Alike m place v w
changed_alike m place w v t old new there now same keeps zero = ap (λ (k : Keeps). entry m k.contexts) keeps
changed_alike m place w v t old new there now same keeps (suc i) =
    ap (λ (l : List Session). peer_at m place (slice_get l i)) now ∙ set_alike m place w.sessions t i old new there same

-- what is known of a breach is no matter
happened_alike : (m : Method) (place : ℕ) (set : Setting) (w : Net) (e : Event) (told : ToldEvent) → Alike m place (moved set w e told) w → Alike m place (happened set w e told) w
happened_alike m place set w e told alike zero = alike zero
happened_alike m place set w e told alike (suc i) = alike (suc i)

-- ---- what the USIM of a subscriber accepts

-- what an event's record says of a subscriber's USIM
abbrev pub usim_of : ℕ → Came → Option UsimNote
usim_of sub result = if is_that sub (device_in result) then usim_in result else None

-- an event's record says that a subscriber's USIM accepted an SQN of 6 bytes
pub record Reaches (sub : ℕ) (result : Came) (sqn : List ℕ) : Type 0 where
  pub noted : usim_of sub result ≡ Some (usim.Accepted sqn)
  pub six : length sqn ≡ 6

-- if an SQN was accepted, then by this subscriber's USIM, or the contexts on its device are the same
abbrev pub Accepts : Method → ℕ → ℕ → Net → Net → ToldEvent → Came → Type 0
Accepts m sub place w v told result = (sqn : List ℕ) → told.notes.usim ≡ Some (usim.Accepted sqn) → Alike m place v w ⊎ Reaches sub result sqn

alike_accepts : (m : Method) (sub place : ℕ) (w v : Net) (told : ToldEvent) (result : Came) → Alike m place v w → Accepts m sub place w v told result
alike_accepts m sub place w v told result alike sqn e = inl alike

-- a session stands at the device of its subscriber
abbrev pub IsPlaced : Setting → List Subscription → ℕ → ℕ → Type 0
IsPlaced set devices sub place = device_place set.rows devices sub ≡ Some place

pub row_is : (rows : List Row) (sub : ℕ) (row : Row) → AreSubscribers rows → slice_get rows sub ≡ Some row → IsRow row
row_is rows sub row are there = subst IsRow (get_or_from_slice_get rows sub row row there) (are.each sub row (slice_get_within rows sub row there))

module _ (set : Setting) (b : Before) (m : Method) (sub place : ℕ) (are : AreSubscribers set.rows) (w : Net) (told : ToldEvent) (own : IsPlaced set w.devices sub place)
    (placed : AreAt (IsPlaced set w.devices) w.sessions) (secrets : HaveSecrets set w.devices) where
  -- a peer's turn
  peer_accepts : (d : Delivery) (device : Subscription) → slice_get w.sessions d.place ≡ Some d.session → IsPlaced set w.devices d.session.sub d.session.device
      → slice_get w.devices d.session.device ≡ Some device → IsReceived told.seen → IsUsimAsked set b (presented_at w d told (Some device)) told
      → TellsNotes told (came_at_peer set w d told (Some device)) → Accepts m sub place w (to_peer set w d told (Some device)) told (came_at_peer set w d told (Some device))
  peer_accepts d device there at_own device_is received is tells sqn e = by (d.session.sub == sub) refl
    where
      keeps : Keeps
      keeps = keeps_at w d.session.device

      secret : device.secret ≡ is.row.secret
      secret = secrets d.session.sub d.session.device device is.row at_own device_is is.there

      row : IsRow is.row
      row = row_is set.rows d.session.sub is.row are is.there

      differ : (d.session.sub == sub) ≡ false → d.session.device ≢ place
      differ other same = places_differ set.rows w.devices sub d.session.sub place are own (apart_number d.session.sub sub other) (at_own ∙ ap Some same)

      elsewhere : d.session.device ≢ place → Alike m place (to_peer set w d told (Some device)) w
      elsewhere apart =
          let turn = peer_turn set device keeps d.session told in
          let test : (d.session.device == place) ≡ false = no_number d.session.device place apart in
          changed_alike m place w (to_peer set w d told (Some device)) d.place d.session _ there refl
          (ap (λ (t : Bool). cond (t && same_method turn.0.options.method m) (place_of turn.0) None) test
          ∙ sym (ap (λ (t : Bool). cond (t && same_method d.session.peer.options.method m) (place_of d.session.peer) None) test))
          (ap keeps_or (set_there w.stores d.session.device place (kept_after keeps d.session told turn.1) apart))
        where
          no_number : (i j : ℕ) → i ≢ j → (i == j) ≡ false
          no_number i j other = false_or (i == j) (λ same. other (eqb-true i j same))
            where
              false_or : (t : Bool) → (t ≡ true → ⊥) → t ≡ false
              false_or true = λ no. absurd (no refl)
              false_or false = λ no. refl

      by : (t : Bool) → (d.session.sub == sub) ≡ t → Alike m place (to_peer set w d told (Some device)) w ⊎ Reaches sub (came_at_peer set w d told (Some device)) sqn
      by true mine =
          let turn = peer_turn set device keeps d.session told in
          inr (record {
            noted = ap (λ (t : Bool). if t then turn.1.notes.usim else None) mine ∙ sym (ap (λ (n : Notes). n.usim) tells) ∙ e;
            six = turn_six set.key device is.row keeps d.session.peer told.seen (past_before b is.row d.session.sub) told.notes.usim told.inner sqn
                (subst (λ (s : Secret). IsBlock s.k) (sym secret) row.key) (subst (λ (s : Secret). IsBlock s.opc) (sym secret) row.operator) received is.answers (ap (λ (n : Notes). n.usim) tells) e;
          })
      by false other = inl (elsewhere (differ other))

  -- a session whose peer stays
  server_accepts : (v : Net) (result : Came) (t : ℕ) (session : Session) (server : Option ServerEnd) → slice_get w.sessions t ≡ Some session
      → v.sessions ≡ slice_set w.sessions t (record session { server = server }) → v.stores ≡ w.stores → Accepts m sub place w v told result
  server_accepts v result t session server there now stores =
      alike_accepts m sub place w v told result
      (changed_alike m place w v t session (record session { server = server }) there now refl (ap (λ (s : List Keeps). keeps_or (slice_get s place)) stores))

  same_accepts : (result : Came) → Accepts m sub place w w told result
  same_accepts result = alike_accepts m sub place w w told result (λ i. refl)

  session_at_own : (t : ℕ) (session : Session) → slice_get w.sessions t ≡ Some session → IsPlaced set w.devices session.sub session.device
  session_at_own t session there =
      subst (λ (s : Session). IsPlaced set w.devices s.sub s.device) (get_or_from_slice_get w.sessions t session session there)
      (placed t session (slice_get_within w.sessions t session there))

  delivered_accepts : (at' : End) (packet : ℕ) (o : Option ℕ) → AreReceived (received_at w at' (delivery_at w packet o)) told.seen
      → IsUsimAsked set b (presented_in w at' told (delivery_at w packet o)) told → TellsNotes told (came_delivered set w at' told (packet_at w.packets packet) (delivery_at w packet o))
      → Accepts m sub place w (delivered set w at' told (delivery_at w packet o)) told (came_delivered set w at' told (packet_at w.packets packet) (delivery_at w packet o))
  delivered_accepts at' packet None received is tells = same_accepts _
  delivered_accepts at' packet (Some t) received is tells = by (slice_get w.sessions t) (packet_at w.packets packet) refl at' received is tells
    where
      to_server_accepts : (d : Delivery) (result : Came) (o : Option ServerEnd) → slice_get w.sessions d.place ≡ Some d.session → Accepts m sub place w (to_server set w d told o) told result
      to_server_accepts d result None there = same_accepts result
      to_server_accepts d result (Some s) there =
          server_accepts (to_server set w d told (Some s)) result d.place d.session (Some (server_turn set w s told).0) there refl refl

      to_peer_accepts : (d : Delivery) (o : Option Subscription) → slice_get w.sessions d.place ≡ Some d.session → slice_get w.devices d.session.device ≡ o → AreReceived (received_by d.bytes o) told.seen
          → IsUsimAsked set b (presented_at w d told o) told → TellsNotes told (came_at_peer set w d told o) → Accepts m sub place w (to_peer set w d told o) told (came_at_peer set w d told o)
      to_peer_accepts d None there device_is received is tells = same_accepts _
      to_peer_accepts d (Some device) there device_is received is tells = peer_accepts d device there (session_at_own d.place d.session there) device_is received.0 is tells

      by : (x : Option Session) (y : Option SentPacket) → slice_get w.sessions t ≡ x → (e : End) → AreReceived (received_at w e (delivery_of packet t x y)) told.seen
          → IsUsimAsked set b (presented_in w e told (delivery_of packet t x y)) told → TellsNotes told (came_delivered set w e told y (delivery_of packet t x y))
          → Accepts m sub place w (delivered set w e told (delivery_of packet t x y)) told (came_delivered set w e told y (delivery_of packet t x y))
      by (Some session) (Some sent) there end.Server received is tells =
          to_server_accepts (record { place = t; session = session; bytes = sent.bytes; packet = packet }) _ session.server there
      by (Some session) (Some sent) there end.Peer received is tells =
          to_peer_accepts (record { place = t; session = session; bytes = sent.bytes; packet = packet }) (slice_get w.devices session.device) there refl received is tells
      by (Some session) None there e received is tells = same_accepts _
      by None (Some sent) there e received is tells = same_accepts _
      by None None there e received is tells = same_accepts _

  opened_accepts : (opening : SessionLine) (result : Came) (first at' : Option ℕ) → Accepts m sub place w (opened w opening first at') told result
  opened_accepts opening result (Some first) at' = same_accepts result
  opened_accepts opening result None None = same_accepts result
  opened_accepts opening result None (Some at') = alike_accepts m sub place w (opened w opening None (Some at')) told result alike
    where
      alike : Alike m place (opened w opening None (Some at')) w
      alike zero = refl
      alike (suc i) = push_alike m place w.sessions (new_session opening at') i (none (at' == place && same_method opening.method m))
        where
          none : (t : Bool) → cond {A = Option Context} t None None ≡ None
          none true = refl
          none false = refl

  start_accepts : (result : Came) (t : ℕ) (session : Session) (o : Option ServerEnd) → slice_get w.sessions t ≡ Some session → Accepts m sub place w (start w t session o) told result
  start_accepts result t session (Some s) there = same_accepts result
  start_accepts result t session None there = server_accepts (start w t session None) result t session (Some (started session.options)) there refl refl

  repeat_accepts : (result : Came) (t : ℕ) (session : Session) (o : Option ServerEnd) → slice_get w.sessions t ≡ Some session → Accepts m sub place w (repeat w t session o) told result
  repeat_accepts result t session None there = same_accepts result
  repeat_accepts result t session (Some s) there = server_accepts (repeat w t session (Some s)) result t session (Some s) there refl refl

  server_over_accepts : (result : Came) (t : ℕ) (session : Session) (o : Option ServerEnd) → slice_get w.sessions t ≡ Some session
      → Accepts m sub place w (server_gives_up w t session o) told result
  server_over_accepts result t session None there = same_accepts result
  server_over_accepts result t session (Some s) there = server_accepts (server_gives_up w t session (Some s)) result t session (Some (server_gave_up s s.state).0) there refl refl

  -- a peer that gives up asks no USIM
  no_usim : (sqn : List ℕ) (n x : Option UsimNote) → n ≡ x → x ≡ None → n ≡ Some (usim.Accepted sqn) → ⊥
  no_usim sqn n x e f g = cc

  over_accepts : (at' : End) (t : ℕ) (session : Session) → slice_get w.sessions t ≡ Some session → TellsNotes told (came_given_up w at' session)
      → Accepts m sub place w (give_up w at' t session) told (came_given_up w at' session)
  over_accepts end.Server t session there tells = server_over_accepts _ t session session.server there
  over_accepts end.Peer t session there tells = λ sqn e. absurd (no_usim sqn told.notes.usim _ (ap (λ (n : Notes). n.usim) tells) refl e)

  -- what happens in a session that there is
  at_accepts : (does : ℕ → Session → Net) (comes : Session → Came) (o : Option ℕ) → TellsNotes told (came_in comes (session_at w o))
      → ((t : ℕ) (s : Session) → slice_get w.sessions t ≡ Some s → TellsNotes told (comes s) → Accepts m sub place w (does t s) told (comes s))
      → Accepts m sub place w (at_place w does o) told (came_in comes (session_at w o))
  at_accepts does comes None tells each = same_accepts _
  at_accepts does comes (Some t) tells each = by (slice_get w.sessions t) refl tells
    where
      by : (o : Option Session) → slice_get w.sessions t ≡ o → TellsNotes told (came_in comes o) → Accepts m sub place w (in_session w does t o) told (came_in comes o)
      by None there tells = same_accepts _
      by (Some s) there tells = each t s there tells

  moved_accepts : (e : Event) → AreReceived (bytes_named w e) told.seen → TellsNotes told (came set w e told) → IsUsimAsked set b (presented_by w e told) told
      → Accepts m sub place w (moved set w e told) told (came set w e told)
  moved_accepts (event.Open opening) received tells is = opened_accepts opening _ (session_place w.sessions opening.session) (device_place set.rows w.devices opening.sub)
  moved_accepts (event.Start session) received tells is =
      at_accepts (λ t s. start w t s s.server) (λ s. came_started w s.options s.server) (session_place w.sessions session) tells (λ t s there tells. start_accepts _ t s s.server there)
  moved_accepts (event.Deliver session at' packet) received tells is = delivered_accepts at' packet (session_place w.sessions session) received is tells
  moved_accepts (event.Repeat session) received tells is =
      at_accepts (λ t s. repeat w t s s.server) (λ s. came_repeated w s.server) (session_place w.sessions session) tells (λ t s there tells. repeat_accepts _ t s s.server there)
  moved_accepts (event.GiveUp session at') received tells is =
      at_accepts (give_up w at') (came_given_up w at') (session_place w.sessions session) tells (λ t s there tells. over_accepts at' t s there tells)
  moved_accepts (event.Tamper packet position byte) received tells is =
      alike_accepts m sub place w (moved set w (event.Tamper packet position byte) told) told _ (λ i. refl)
  moved_accepts (event.Cut packet count) received tells is = alike_accepts m sub place w (moved set w (event.Cut packet count) told) told _ (λ i. refl)

  pub event_accepts : (e : Event) → AreReceived (bytes_named w e) told.seen → TellsNotes told (came set w e told) → IsUsimAsked set b (presented_by w e told) told
      → Accepts m sub place w (happened set w e told) told (came set w e told)
  event_accepts e received tells is sqn accepts =
      ⊎_elim (λ (alike : Alike m place (moved set w e told) w). inl (happened_alike m place set w e told alike)) (λ (reaches : Reaches sub (came set w e told) sqn). inr reaches)
      (moved_accepts e received tells is sqn accepts)
