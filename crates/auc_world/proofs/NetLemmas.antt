-- For networks: the subscribers of the sessions, through an event.
use Rattle.std.proofs.Common.{◌≡◌, ℕ, List, [], All, refl}
use Rattle.std.specs.Prelude.{Option, Some, None, slice_get}
use Rattle.std.proofs.lemmas.List.Elements.{All-push, All-set}
use Rattle.auc_lines.specs.declared.part.SessionLine.{SessionLine}
use Rattle.auc_lines.specs.declared.part.End.{End}
use Rattle.auc_lines.specs.declared.part.End.TheVariants as end
use Rattle.auc_peer.specs.Subscription.{Subscription}
use Rattle.auc_peer.specs.Table.{gave_up as peer_gave_up}
use Rattle.auc_peer.specs.declared.peer.Peer.{Peer}
use Rattle.auc_vector.specs.declared.why.PeerWhy.{PeerWhy}
use Rattle.auc_server.specs.Rows.{server_row}
use Rattle.auc_server.specs.Server.{ServerEnd, started}
use Rattle.auc_subs.specs.Setting.{Setting}
use Rattle.auc_server.specs.Steps.{asking}
use Rattle.auc_server.specs.Table.{gave_up as server_gave_up, repeated}
use Rattle.auc_server.specs.declared.options.ServerOptions.{ServerOptions}
use Rattle.auc_vector.specs.declared.why.ServerWhy.{ServerWhy}
use Rattle.auc_vector.specs.declared.turn.Step.{Step}
use Rattle.auc_vector.specs.declared.turn.Step.TheVariants as step
use Rattle.auc_record.specs.Event.{Came, device_in}
use Rattle.auc_world.specs.Came.{Presented, came, came_at_peer, came_at_server, came_delivered, came_given_up, came_in, came_opened, came_repeated, came_started, presented_by, presented_in, presented_at, server_came_to_give_up, session_of}
use Rattle.auc_world.specs.Happened.{Delivery, ToldEvent, at_place, delivered, delivery_at, delivery_of, give_up, happened, in_session, new_session, opened, peer_turn, drawn_in_turn, repeat, server_gives_up, server_turn, start, to_peer, to_server, with_peer, with_server, changed_in}
use Rattle.auc_world.specs.Net.{Net, device_place, keeps_at, packet_at, session_place}
use Rattle.auc_record.specs.declared.event.Event.{Event}
use Rattle.auc_record.specs.declared.event.Event.TheVariants as event
use Rattle.auc_world.specs.declared.net.SentPacket.{SentPacket}
use Rattle.auc_world.specs.declared.net.Session.{Session}
use Rattle.auc_released.specs.declared.numbers.Number.{Number}
use Rattle.auc_record.proofs.Facts.{all_at}
use Rattle.auc_world.proofs.CopyLemmas.{changed_is_silent}

-- the subscriber of each session is one of these
abbrev pub AreOf : (ℕ → Type 0) → List Session → Type 0
AreOf P sessions = All (λ s. P s.sub) sessions

-- the subscriber and the device of each session are such
abbrev pub AreAt : (ℕ → ℕ → Type 0) → List Session → Type 0
AreAt Q sessions = All (λ s. Q s.sub s.device) sessions

-- ---- the sessions after an event

server_stays : (Q : ℕ → ℕ → Type 0) (w : Net) (place : ℕ) (session : Session) (more : List Number) (s : ServerEnd) (did : Step ServerWhy) → AreAt Q w.sessions → Q session.sub session.device
    → AreAt Q (with_server w place session more s did).sessions
server_stays Q w place session more s did all own = All-set (λ s. Q s.sub s.device) w.sessions place (record session { server = Some s }) own all

peer_stays : (Q : ℕ → ℕ → Type 0) (w : Net) (place : ℕ) (session : Session) (p : Peer) (did : Step PeerWhy) → AreAt Q w.sessions → Q session.sub session.device
    → AreAt Q (with_peer w place session p did).sessions
peer_stays Q w place session p did all own = All-set (λ s. Q s.sub s.device) w.sessions place _ own all

start_stays : (Q : ℕ → ℕ → Type 0) (w : Net) (place : ℕ) (session : Session) (o : Option ServerEnd) → AreAt Q w.sessions → Q session.sub session.device → AreAt Q (start w place session o).sessions
start_stays Q w place session None all own = server_stays Q w place session [] (started session.options) (step.Sent (started session.options).last) all own
start_stays Q w place session (Some s) all own = all

repeat_stays : (Q : ℕ → ℕ → Type 0) (w : Net) (place : ℕ) (session : Session) (o : Option ServerEnd) → AreAt Q w.sessions → Q session.sub session.device → AreAt Q (repeat w place session o).sessions
repeat_stays Q w place session None all own = all
repeat_stays Q w place session (Some s) all own = server_stays Q w place session [] s (repeated s s.state) all own

server_gives_stays : (Q : ℕ → ℕ → Type 0) (w : Net) (place : ℕ) (session : Session) (o : Option ServerEnd) → AreAt Q w.sessions → Q session.sub session.device
    → AreAt Q (server_gives_up w place session o).sessions
server_gives_stays Q w place session None all own = all
server_gives_stays Q w place session (Some s) all own = server_stays Q w place session [] (server_gave_up s s.state).0 (server_gave_up s s.state).1 all own

give_stays : (Q : ℕ → ℕ → Type 0) (w : Net) (at' : End) (place : ℕ) (session : Session) → AreAt Q w.sessions → Q session.sub session.device
    → AreAt Q (give_up w at' place session).sessions
give_stays Q w end.Server place session all own = server_gives_stays Q w place session session.server all own
give_stays Q w end.Peer place session all own = peer_stays Q w place session (peer_gave_up session.peer session.peer.state).0 (peer_gave_up session.peer session.peer.state).1 all own

in_stays : (Q : ℕ → ℕ → Type 0) (w : Net) (does : ℕ → Session → Net) (place : ℕ) (o : Option Session) → slice_get w.sessions place ≡ o → AreAt Q w.sessions
    → ((session : Session) → Q session.sub session.device → AreAt Q (does place session).sessions) → AreAt Q (in_session w does place o).sessions
in_stays Q w does place None there all each = all
in_stays Q w does place (Some session) there all each = each session (all_at (λ s. Q s.sub s.device) w.sessions place session all there)

at_stays : (Q : ℕ → ℕ → Type 0) (w : Net) (does : ℕ → Session → Net) (o : Option ℕ) → AreAt Q w.sessions
    → ((place : ℕ) (session : Session) → Q session.sub session.device → AreAt Q (does place session).sessions) → AreAt Q (at_place w does o).sessions
at_stays Q w does None all each = all
at_stays Q w does (Some place) all each = in_stays Q w does place (slice_get w.sessions place) refl all (each place)

opened_stays : (Q : ℕ → ℕ → Type 0) (w : Net) (opening : SessionLine) (old place : Option ℕ) → AreAt Q w.sessions → ((at' : ℕ) → place ≡ Some at' → Q opening.sub at')
    → AreAt Q (opened w opening old place).sessions
opened_stays Q w opening (Some first) place all own = all
opened_stays Q w opening None None all own = all
opened_stays Q w opening None (Some place) all own = All-push (λ s. Q s.sub s.device) w.sessions (new_session opening place) all (own place refl)

delivered_stays : (Q : ℕ → ℕ → Type 0) (set : Setting) (w : Net) (at' : End) (told : ToldEvent) (packet : ℕ) (o : Option ℕ) → AreAt Q w.sessions
    → AreAt Q (delivered set w at' told (delivery_at w packet o)).sessions
delivered_stays Q set w at' told packet None all = none at'
  where
    none : (e : End) → AreAt Q (delivered set w e told None).sessions
    none e = all
delivered_stays Q set w at' told packet (Some place) all = by (slice_get w.sessions place) (packet_at w.packets packet) refl at'
  where
    to_server_stays : (d : Delivery) (o : Option ServerEnd) → Q d.session.sub d.session.device → AreAt Q (to_server set w d told o).sessions
    to_server_stays d None own = all
    to_server_stays d (Some s) own =
        let turn = server_turn set w s told in
        server_stays Q w d.place d.session (drawn_in_turn (asking (server_row set w.homes s told.seen told.reply)) turn.1.notes.number) turn.0 turn.1.step all own

    to_peer_stays : (d : Delivery) (o : Option Subscription) → Q d.session.sub d.session.device → AreAt Q (to_peer set w d told o).sessions
    to_peer_stays d None own = all
    to_peer_stays d (Some device) own = let turn = peer_turn set device (keeps_at w d.session.device) d.session told in peer_stays Q w d.place d.session turn.0 turn.1.step all own

    by : (x : Option Session) (y : Option SentPacket) → slice_get w.sessions place ≡ x → (e : End)
        → AreAt Q (delivered set w e told (delivery_of packet place x y)).sessions
    by (Some session) (Some sent) there end.Server =
        to_server_stays (record { place = place; session = session; bytes = sent.bytes; packet = packet }) session.server (all_at (λ s. Q s.sub s.device) w.sessions place session all there)
    by (Some session) (Some sent) there end.Peer =
        to_peer_stays (record { place = place; session = session; bytes = sent.bytes; packet = packet }) (slice_get w.devices session.device) (all_at (λ s. Q s.sub s.device) w.sessions place session all there)
    by (Some session) None there e = all
    by None y there e = all

-- the subscriber and the device of a session that an event opens are such
abbrev pub OpensAt : (ℕ → ℕ → Type 0) → Setting → Net → Event → Type 0
OpensAt Q set w (event.Open opening) = (place : ℕ) → device_place set.rows w.devices opening.sub ≡ Some place → Q opening.sub place
OpensAt Q set w (event.Start session) = Unit {0}
OpensAt Q set w (event.Deliver session at' packet) = Unit {0}
OpensAt Q set w (event.Repeat session) = Unit {0}
OpensAt Q set w (event.GiveUp session at') = Unit {0}
OpensAt Q set w (event.Tamper packet place byte) = Unit {0}
OpensAt Q set w (event.Cut packet count) = Unit {0}

pub places_stay : (Q : ℕ → ℕ → Type 0) (set : Setting) (w : Net) (e : Event) (told : ToldEvent) → AreAt Q w.sessions → OpensAt Q set w e → AreAt Q (happened set w e told).sessions
places_stay Q set w (event.Open opening) told all own =
    opened_stays Q w opening (session_place w.sessions opening.session) (device_place set.rows w.devices opening.sub) all own
places_stay Q set w (event.Start session) told all own =
    at_stays Q w (λ place s. start w place s s.server) (session_place w.sessions session) all (λ place s. start_stays Q w place s s.server all)
places_stay Q set w (event.Deliver session at' packet) told all own = delivered_stays Q set w at' told packet (session_place w.sessions session) all
places_stay Q set w (event.Repeat session) told all own =
    at_stays Q w (λ place s. repeat w place s s.server) (session_place w.sessions session) all (λ place s. repeat_stays Q w place s s.server all)
places_stay Q set w (event.GiveUp session at') told all own = at_stays Q w (give_up w at') (session_place w.sessions session) all (λ place s. give_stays Q w at' place s all)
places_stay Q set w (event.Tamper packet place byte) told all own = all
places_stay Q set w (event.Cut packet count) told all own = all

-- the subscriber of a session that an event opens is one of these
abbrev pub Opens : (ℕ → Type 0) → Event → Type 0
Opens P (event.Open opening) = P opening.sub
Opens P (event.Start session) = Unit {0}
Opens P (event.Deliver session at' packet) = Unit {0}
Opens P (event.Repeat session) = Unit {0}
Opens P (event.GiveUp session at') = Unit {0}
Opens P (event.Tamper packet place byte) = Unit {0}
Opens P (event.Cut packet count) = Unit {0}

opens_at : (P : ℕ → Type 0) (set : Setting) (w : Net) (e : Event) → Opens P e → OpensAt (λ sub place. P sub) set w e
opens_at P set w (event.Open opening) own = λ place is. own
opens_at P set w (event.Start session) own = tt
opens_at P set w (event.Deliver session at' packet) own = tt
opens_at P set w (event.Repeat session) own = tt
opens_at P set w (event.GiveUp session at') own = tt
opens_at P set w (event.Tamper packet place byte) own = tt
opens_at P set w (event.Cut packet count) own = tt

pub sessions_stay : (P : ℕ → Type 0) (set : Setting) (w : Net) (e : Event) (told : ToldEvent) → AreOf P w.sessions → Opens P e → AreOf P (happened set w e told).sessions
sessions_stay P set w e told all own = places_stay (λ sub place. P sub) set w e told all (opens_at P set w e own)

-- ---- the device that received a packet

abbrev pub IsOf : (ℕ → Type 0) → Option ℕ → Type 0
IsOf P None = Unit {0}
IsOf P (Some sub) = P sub

some_none : (sub : ℕ) → ◌≡◌ {A = Option ℕ} (Some sub) None → ⊥
some_none sub e = cc

none_of : (P : ℕ → Type 0) (o : Option ℕ) → o ≡ None → IsOf P o
none_of P None is = tt
none_of P (Some sub) is = absurd (some_none sub is)

came_in_of : (P : ℕ → Type 0) (does : Session → Came) (o : Option Session) → ((s : Session) → device_in (does s) ≡ None) → IsOf P (device_in (came_in does o))
came_in_of P does None each = tt
came_in_of P does (Some session) each = none_of P (device_in (does session)) (each session)

-- it is that of a session
pub device_is_of : (P : ℕ → Type 0) (set : Setting) (w : Net) (e : Event) (told : ToldEvent) → AreOf P w.sessions → IsOf P (device_in (came set w e told))
device_is_of P set w (event.Open opening) told all = by (session_place w.sessions opening.session) (device_place set.rows w.devices opening.sub)
  where
    by : (old place : Option ℕ) → IsOf P (device_in (came_opened old place))
    by (Some first) place = tt
    by None None = tt
    by None (Some place) = tt
device_is_of P set w (event.Start session) told all = came_in_of P (λ s. came_started w s.options s.server) (session_of w session) (λ s. by s.options s.server)
  where
    by : (options : ServerOptions) (o : Option ServerEnd) → device_in (came_started w options o) ≡ None
    by options None = refl
    by options (Some s) = refl
device_is_of P set w (event.Repeat session) told all = came_in_of P (λ s. came_repeated w s.server) (session_of w session) (λ s. by s.server)
  where
    by : (o : Option ServerEnd) → device_in (came_repeated w o) ≡ None
    by None = refl
    by (Some s) = refl
device_is_of P set w (event.GiveUp session at') told all = came_in_of P (came_given_up w at') (session_of w session) (λ s. of at' s)
  where
    by : (o : Option ServerEnd) → device_in (server_came_to_give_up w o) ≡ None
    by None = refl
    by (Some s) = refl

    of : (e : End) (s : Session) → device_in (came_given_up w e s) ≡ None
    of end.Server s = by s.server
    of end.Peer s = refl
device_is_of P set w (event.Tamper packet place byte) told all =
    none_of P _ (changed_is_silent w.packets (packet_at w.packets packet) (changed_in w.packets (event.Tamper packet place byte))).device
device_is_of P set w (event.Cut packet count) told all =
    none_of P _ (changed_is_silent w.packets (packet_at w.packets packet) (changed_in w.packets (event.Cut packet count))).device
device_is_of P set w (event.Deliver session at' packet) told all = at_number (session_place w.sessions session)
  where
    at_server : (o : Option ServerEnd) → IsOf P (device_in (came_at_server set w told o))
    at_server None = tt
    at_server (Some s) = tt

    at_peer : (d : Delivery) (o : Option Subscription) → P d.session.sub → IsOf P (device_in (came_at_peer set w d told o))
    at_peer d None own = tt
    at_peer d (Some device) own = own

    by : (place : ℕ) (x : Option Session) (y : Option SentPacket) → slice_get w.sessions place ≡ x → (e : End)
        → IsOf P (device_in (came_delivered set w e told y (delivery_of packet place x y)))
    by place x None there e = tt
    by place None (Some sent) there e = tt
    by place (Some s) (Some sent) there end.Server = at_server s.server
    by place (Some s) (Some sent) there end.Peer =
        at_peer (record { place = place; session = s; bytes = sent.bytes; packet = packet }) (slice_get w.devices s.device) (all_at (λ s. P s.sub) w.sessions place s all there)

    nowhere : (y : Option SentPacket) → IsOf P (device_in (came_delivered set w at' told y None))
    nowhere None = tt
    nowhere (Some sent) = tt

    at_number : (o : Option ℕ) → IsOf P (device_in (came_delivered set w at' told (packet_at w.packets packet) (delivery_at w packet o)))
    at_number None = nowhere (packet_at w.packets packet)
    at_number (Some place) = by place (slice_get w.sessions place) (packet_at w.packets packet) refl at'

-- and so is one at which a USIM is handed something
abbrev pub IsPresentedAt : (ℕ → ℕ → Type 0) → Option Presented → Type 0
IsPresentedAt Q None = Unit {0}
IsPresentedAt Q (Some p) = Q p.delivery.session.sub p.delivery.session.device

pub presented_is_at : (Q : ℕ → ℕ → Type 0) (w : Net) (e : Event) (told : ToldEvent) → AreAt Q w.sessions → IsPresentedAt Q (presented_by w e told)
presented_is_at Q w (event.Open opening) told all = tt
presented_is_at Q w (event.Start session) told all = tt
presented_is_at Q w (event.Repeat session) told all = tt
presented_is_at Q w (event.GiveUp session at') told all = tt
presented_is_at Q w (event.Tamper packet place byte) told all = tt
presented_is_at Q w (event.Cut packet count) told all = tt
presented_is_at Q w (event.Deliver session at' packet) told all = at_number (session_place w.sessions session)
  where
    to : (d : Delivery) (o : Option Subscription) → Q d.session.sub d.session.device → IsPresentedAt Q (presented_at w d told o)
    to d None own = tt
    to d (Some device) own = own

    by : (place : ℕ) (x : Option Session) (y : Option SentPacket) → slice_get w.sessions place ≡ x → (e : End)
        → IsPresentedAt Q (presented_in w e told (delivery_of packet place x y))
    by place None y there e = tt
    by place (Some s) None there e = tt
    by place (Some s) (Some sent) there end.Server = tt
    by place (Some s) (Some sent) there end.Peer =
        to (record { place = place; session = s; bytes = sent.bytes; packet = packet }) (slice_get w.devices s.device) (all_at (λ s. Q s.sub s.device) w.sessions place s all there)

    at_number : (o : Option ℕ) → IsPresentedAt Q (presented_in w at' told (delivery_at w packet o))
    at_number None = tt
    at_number (Some place) = by place (slice_get w.sessions place) (packet_at w.packets packet) refl at'

abbrev pub IsPresentedTo : (ℕ → Type 0) → Option Presented → Type 0
IsPresentedTo P None = Unit {0}
IsPresentedTo P (Some p) = P p.delivery.session.sub

pub presented_is_of : (P : ℕ → Type 0) (w : Net) (e : Event) (told : ToldEvent) → AreOf P w.sessions → IsPresentedTo P (presented_by w e told)
presented_is_of P w e told all = by (presented_by w e told) (presented_is_at (λ sub place. P sub) w e told all)
  where
    by : (o : Option Presented) → IsPresentedAt (λ sub place. P sub) o → IsPresentedTo P o
    by None is = tt
    by (Some p) is = is
