-- For the law of vectors that sessions present: the packets of a job's network are those that its lines sent or made, and no event
-- changes a device.
use Rattle.std.proofs.Common.{◌≡◌, ℕ, List, [], ◌∷◌, ◌++◌, Option, Some, None, map, refl, sym, ap, ◌∙◌, append-nil}
use Rattle.std.specs.Prelude.{slice_get, slice_set, take}
use Rattle.std.proofs.lemmas.List.{map-append}
use Rattle.auc_lines.specs.declared.part.End.{End}
use Rattle.auc_lines.specs.declared.part.End.TheVariants as end
use Rattle.auc_lines.specs.declared.part.SessionLine.{SessionLine}
use Rattle.auc_peer.specs.Subscription.{Subscription}
use Rattle.auc_peer.specs.Table.{gave_up as peer_gave_up}
use Rattle.auc_server.specs.Server.{ServerEnd, started}
use Rattle.auc_server.specs.Table.{gave_up as server_gave_up, repeated}
use Rattle.auc_vector.specs.declared.why.ServerWhy.{ServerWhy}
use Rattle.auc_vector.specs.declared.turn.Step.TheVariants as step
use Rattle.auc_record.specs.Event.{Came}
use Rattle.auc_world.specs.Came.{came, came_at_peer, came_at_server, came_delivered, came_given_up, came_in, came_opened, came_repeated, came_started, server_came_to_give_up, session_at}
use Rattle.auc_world.specs.Happened.{Delivery, ToldEvent, at_place, delivered, delivery_at, delivery_of, give_up, happened, in_session, opened, peer_turn, repeat, sent_by, server_gives_up, server_turn, start, to_peer, to_server}
use Rattle.auc_world.specs.Net.{Net, device_place, inputs_of_peer, inputs_of_server, keeps_at, packet_at, posted, session_place}
use Rattle.auc_subs.specs.Setting.{Setting}
use Rattle.auc_record.specs.declared.event.Event.{Event}
use Rattle.auc_record.specs.declared.event.Event.TheVariants as event
use Rattle.auc_world.specs.declared.net.Inputs.{Inputs}
use Rattle.auc_world.specs.declared.net.SentPacket.{SentPacket}
use Rattle.auc_world.specs.declared.net.Session.{Session}
use Rattle.auc_transcript.specs.Presented.{sent_in, those_sent}
use Rattle.auc_transcript.proofs.ChangeLemmas.{copies_are_sent}

-- the bytes of packets
abbrev pub bytes_of : List SentPacket → List (List ℕ)
bytes_of packets = map (λ p. p.bytes) packets

-- a network after an event has the packets that it had, then those that the event sent or made; and its devices are the same
pub record Posts (w : Net) (c : Came) (next : Net) : Type 0 where
  pub packets : bytes_of next.packets ≡ bytes_of w.packets ++ sent_in c
  pub devices : next.devices ≡ w.devices

-- ---- steps

bytes_posted : (packets : List SentPacket) (from : End) (inputs : Option Inputs) (o : Option (List ℕ)) → bytes_of (posted packets from inputs o) ≡ bytes_of packets ++ those_sent o
bytes_posted packets from inputs None = sym (append-nil (bytes_of packets))
bytes_posted packets from inputs (Some bytes) = map-append (λ (p : SentPacket). p.bytes) packets (record { bytes = bytes; sender = Some from; inputs = inputs } ∷ [])

-- nothing was sent
still : (w : Net) (c : Came) → sent_in c ≡ [] → Posts w c w
still w c none = record { packets = sym (ap (λ (bs : List (List ℕ)). bytes_of w.packets ++ bs) none ∙ append-nil (bytes_of w.packets)); devices = refl }

-- ---- deliveries

server_posts : (set : Setting) (w : Net) (d : Delivery) (told : ToldEvent) (o : Option ServerEnd) → Posts w (came_at_server set w told o) (to_server set w d told o)
server_posts set w d told None = still w (came_at_server set w told None) refl
server_posts set w d told (Some s) =
    let turn = server_turn set w s told in
    record { packets = bytes_posted w.packets end.Server (inputs_of_server turn.0) (sent_by turn.1.step); devices = refl }

peer_posts : (set : Setting) (w : Net) (d : Delivery) (told : ToldEvent) (o : Option Subscription) → Posts w (came_at_peer set w d told o) (to_peer set w d told o)
peer_posts set w d told None = still w (came_at_peer set w d told None) refl
peer_posts set w d told (Some device) =
    let turn = peer_turn set device (keeps_at w d.session.device) d.session told in
    record { packets = bytes_posted w.packets end.Peer (inputs_of_peer d.session.sub turn.0) (sent_by turn.1.step); devices = refl }

lost_posts : (set : Setting) (w : Net) (at' : End) (told : ToldEvent) (y : Option SentPacket) → Posts w (came_delivered set w at' told y None) (delivered set w at' told None)
lost_posts set w at' told None = still w (came_delivered set w at' told None None) refl
lost_posts set w at' told (Some sent) = still w (came_delivered set w at' told (Some sent) None) refl

delivery_posts : (set : Setting) (w : Net) (at' : End) (told : ToldEvent) (packet place : ℕ) (x : Option Session) (y : Option SentPacket)
    → Posts w (came_delivered set w at' told y (delivery_of packet place x y)) (delivered set w at' told (delivery_of packet place x y))
delivery_posts set w at' told packet place None y = lost_posts set w at' told y
delivery_posts set w at' told packet place (Some session) None = lost_posts set w at' told None
delivery_posts set w end.Server told packet place (Some session) (Some sent) =
    server_posts set w (record { place = place; session = session; bytes = sent.bytes; packet = packet }) told session.server
delivery_posts set w end.Peer told packet place (Some session) (Some sent) =
    peer_posts set w (record { place = place; session = session; bytes = sent.bytes; packet = packet }) told (slice_get w.devices session.device)

delivered_posts : (set : Setting) (w : Net) (at' : End) (told : ToldEvent) (packet : ℕ) (o : Option ℕ)
    → Posts w (came_delivered set w at' told (packet_at w.packets packet) (delivery_at w packet o)) (delivered set w at' told (delivery_at w packet o))
delivered_posts set w at' told packet None = lost_posts set w at' told (packet_at w.packets packet)
delivered_posts set w at' told packet (Some place) = delivery_posts set w at' told packet place (slice_get w.sessions place) (packet_at w.packets packet)

-- ---- the other events

opened_posts : (w : Net) (opening : SessionLine) (first place : Option ℕ) → Posts w (came_opened first place) (opened w opening first place)
opened_posts w opening (Some first) place = still w (came_opened (Some first) place) refl
opened_posts w opening None None = still w (came_opened None None) refl
opened_posts w opening None (Some place) = record { packets = sym (append-nil (bytes_of w.packets)); devices = refl }

started_posts : (w : Net) (place : ℕ) (session : Session) (o : Option ServerEnd) → Posts w (came_started w session.options o) (start w place session o)
started_posts w place session None =
    record { packets = bytes_posted w.packets end.Server (inputs_of_server (started session.options)) (sent_by {W = ServerWhy} (step.Sent (started session.options).last)); devices = refl }
started_posts w place session (Some s) = still w (came_started w session.options (Some s)) refl

repeated_posts : (w : Net) (place : ℕ) (session : Session) (o : Option ServerEnd) → Posts w (came_repeated w o) (repeat w place session o)
repeated_posts w place session None = still w (came_repeated w None) refl
repeated_posts w place session (Some s) =
    record { packets = bytes_posted w.packets end.Server (inputs_of_server s) (sent_by (repeated s s.state)); devices = refl }

server_over_posts : (w : Net) (place : ℕ) (session : Session) (o : Option ServerEnd) → Posts w (server_came_to_give_up w o) (server_gives_up w place session o)
server_over_posts w place session None = still w (server_came_to_give_up w None) refl
server_over_posts w place session (Some s) =
    let over = server_gave_up s s.state in
    record { packets = bytes_posted w.packets end.Server (inputs_of_server over.0) (sent_by over.1); devices = refl }

given_up_posts : (w : Net) (at' : End) (place : ℕ) (session : Session) → Posts w (came_given_up w at' session) (give_up w at' place session)
given_up_posts w end.Server place session = server_over_posts w place session session.server
given_up_posts w end.Peer place session =
    let over = peer_gave_up session.peer session.peer.state in
    record { packets = bytes_posted w.packets end.Peer (inputs_of_peer session.sub over.0) (sent_by over.1); devices = refl }

in_posts : (w : Net) (does : ℕ → Session → Net) (comes : Session → Came) (place : ℕ) (o : Option Session)
    → ((place : ℕ) (s : Session) → Posts w (comes s) (does place s)) → Posts w (came_in comes o) (in_session w does place o)
in_posts w does comes place None each = still w (came_in comes None) refl
in_posts w does comes place (Some s) each = each place s

at_posts : (w : Net) (does : ℕ → Session → Net) (comes : Session → Came) (o : Option ℕ)
    → ((place : ℕ) (s : Session) → Posts w (comes s) (does place s)) → Posts w (came_in comes (session_at w o)) (at_place w does o)
at_posts w does comes None each = still w (came_in comes None) refl
at_posts w does comes (Some place) each = in_posts w does comes place (slice_get w.sessions place) each

-- ---- an event

-- what an event sends or makes
pub event_posts : (set : Setting) (w : Net) (e : Event) (told : ToldEvent) → Posts w (came set w e told) (happened set w e told)
event_posts set w (event.Open opening) told =
    let is = opened_posts w opening (session_place w.sessions opening.session) (device_place set.rows w.devices opening.sub) in record { packets = is.packets; devices = is.devices }
event_posts set w (event.Start session) told =
    let is = at_posts w (λ place s. start w place s s.server) (λ s. came_started w s.options s.server) (session_place w.sessions session) (λ place s. started_posts w place s s.server) in
    record { packets = is.packets; devices = is.devices }
event_posts set w (event.Deliver session at' packet) told =
    let is = delivered_posts set w at' told packet (session_place w.sessions session) in record { packets = is.packets; devices = is.devices }
event_posts set w (event.Repeat session) told =
    let is = at_posts w (λ place s. repeat w place s s.server) (λ s. came_repeated w s.server) (session_place w.sessions session) (λ place s. repeated_posts w place s s.server) in
    record { packets = is.packets; devices = is.devices }
event_posts set w (event.GiveUp session at') told =
    let is = at_posts w (give_up w at') (came_given_up w at') (session_place w.sessions session) (λ place s. given_up_posts w at' place s) in
    record { packets = is.packets; devices = is.devices }
event_posts set w (event.Tamper packet place byte) told =
    record { packets = copies_are_sent w.packets place (λ bytes. slice_set bytes place byte) (packet_at w.packets packet); devices = refl }
event_posts set w (event.Cut packet count) told = record { packets = copies_are_sent w.packets count (take count) (packet_at w.packets packet); devices = refl }
