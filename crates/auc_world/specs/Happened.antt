-- What an event does to the network of a job's sessions.
use Rattle.std.specs.Prelude.{ℕ, nat_lt, List, [], ◌∷◌, ◌++◌, length, take, Option, Some, None, slice_get, slice_set, if◌then◌else◌}
use Rattle.auc_hmac.specs.declared.keys.KeySet.{KeySet}
use Rattle.auc_packet.specs.Received.{Seen}
use Rattle.auc_peer.specs.Rows.{peer_row}
use Rattle.auc_peer.specs.Subscription.{Subscription}
use Rattle.auc_peer.specs.Table.{gave_up as peer_gave_up, kept_by, new_peer, peer_step}
use Rattle.auc_peer.specs.Told as peer_told
use Rattle.auc_peer.specs.declared.decrypted.Decrypted.{Decrypted}
use Rattle.auc_peer.specs.declared.identity.FirstIdentity.{FirstIdentity}
use Rattle.auc_peer.specs.declared.identity.FirstIdentity.TheVariants as first
use Rattle.auc_peer.specs.declared.peer.Peer.{Peer}
use Rattle.auc_vector.specs.declared.why.PeerWhy.{PeerWhy}
use Rattle.auc_reauth.specs.Device.{Keeps}
use Rattle.auc_server.specs.Rows.{server_row}
use Rattle.auc_server.specs.Server.{ServerEnd, started}
use Rattle.auc_subs.specs.Setting.{Setting}
use Rattle.auc_server.specs.Steps.{asking}
use Rattle.auc_server.specs.Table.{gave_up as server_gave_up, homes_after, repeated, server_step}
use Rattle.auc_server.specs.declared.options.ServerOptions.{ServerOptions}
use Rattle.auc_server.specs.declared.reply.Reply.{Reply}
use Rattle.auc_vector.specs.declared.why.ServerWhy.{ServerWhy}
use Rattle.auc_vector.specs.Notes.{Asking}
use Rattle.auc_vector.specs.declared.notes.Notes.{Notes}
use Rattle.auc_vector.specs.declared.notes.NumberNote.{NumberNote}
use Rattle.auc_vector.specs.declared.notes.NumberNote.TheVariants as number
use Rattle.auc_vector.specs.declared.turn.Outcome.TheVariants as outcome
use Rattle.auc_vector.specs.declared.turn.Step.{Step}
use Rattle.auc_vector.specs.declared.turn.Step.TheVariants as step
use Rattle.auc_vector.specs.declared.turn.Turn.{Turn}
use Rattle.auc_world.specs.Net.{Finding, Net, device_place, keeps_at, inputs_of_peer, inputs_of_server, copies, judged, packet_at, posted, session_place}
use Rattle.auc_lines.specs.declared.part.Identity.{Identity}
use Rattle.auc_lines.specs.declared.part.Identity.TheVariants as identity
use Rattle.auc_lines.specs.declared.part.SessionLine.{SessionLine}
use Rattle.auc_lines.specs.declared.part.End.{End}
use Rattle.auc_lines.specs.declared.part.End.TheVariants as end
use Rattle.auc_record.specs.declared.event.Event.{Event}
use Rattle.auc_record.specs.declared.event.Event.TheVariants as event
use Rattle.auc_record.specs.declared.record.Breach.{Breach}
use Rattle.auc_released.specs.declared.numbers.Number.{Number}
use Rattle.auc_world.specs.declared.net.SentPacket.{SentPacket}
use Rattle.auc_world.specs.declared.net.Session.{Session}

-- what is told of an event: what an end received, what the centre or the USIM answered, what a peer decrypted, and which
-- reply to a re-authentication a server did
pub record ToldEvent : Type 0 where
  pub seen : Seen
  pub notes : Notes
  pub inner : Decrypted
  pub reply : Reply

-- ---- what steps leave

-- the packet of a step
abbrev pub sent_by : {W : Type 0} → Step W → Option (List ℕ)
sent_by (step.Sent bytes) = Some bytes
sent_by (step.Ended result []) = None
sent_by (step.Ended result (byte ∷ bytes)) = Some (byte ∷ bytes)
sent_by (step.Ignored cause) = None

-- the keys of Success
abbrev pub keys_won : Option KeySet → Step PeerWhy → Option KeySet
keys_won before (step.Ended (outcome.Success keys) bytes) = Some keys
keys_won before (step.Ended (outcome.Failure cause) bytes) = before
keys_won before (step.Sent bytes) = before
keys_won before (step.Ignored cause) = before

-- the number that a turn drew for the subscriber that it asked for
abbrev pub drawn_in_turn : Option Asking → Option NumberNote → List Number
drawn_in_turn (Some asked) (Some (number.Drew n)) = record { sub = asked.sub; n = n } ∷ []
drawn_in_turn _ _ = []

-- a server that took a step
abbrev pub with_server : Net → ℕ → Session → List Number → ServerEnd → Step ServerWhy → Net
with_server w place session released s did = record w {
  packets = posted w.packets end.Server (inputs_of_server s) (sent_by did);
  sessions = slice_set w.sessions place (record session { server = Some s });
  released = w.released ++ released;
}

-- a peer that took a step
abbrev pub with_peer : Net → ℕ → Session → Peer → Step PeerWhy → Net
with_peer w place session p did = record w {
  packets = posted w.packets end.Peer (inputs_of_peer session.sub p) (sent_by did);
  sessions = slice_set w.sessions place (record session { peer = p; peer_keys = keys_won session.peer_keys did });
}

-- ---- deliveries

-- a packet that reaches a session: the session with its place, and the packet's bytes
pub record Delivery : Type 0 where
  pub place : ℕ
  pub session : Session
  pub bytes : List ℕ
  pub packet : ℕ

abbrev pub delivery_of : ℕ → ℕ → Option Session → Option SentPacket → Option Delivery
delivery_of packet place (Some session) (Some sent) = Some (record { place = place; session = session; bytes = sent.bytes; packet = packet })
delivery_of packet place _ _ = None

abbrev pub delivery_at : Net → ℕ → Option ℕ → Option Delivery
delivery_at w packet None = None
delivery_at w packet (Some place) = delivery_of packet place (slice_get w.sessions place) (packet_at w.packets packet)

abbrev pub delivery_in : Net → ℕ → ℕ → Option Delivery
delivery_in w session packet = delivery_at w packet (session_place w.sessions session)

-- the turns of the two ends
abbrev pub server_turn : Setting → Net → ServerEnd → ToldEvent → ServerEnd × Turn ServerWhy
server_turn set w s told = server_step set w.homes s told.seen told.reply told.notes

abbrev pub peer_turn : Setting → Subscription → Keeps → Session → ToldEvent → Peer × Turn PeerWhy
peer_turn set device keeps session told = peer_step set.key device keeps session.peer told.seen told.notes.usim told.inner

-- what the device of a session keeps after a turn of the session's peer
abbrev pub kept_after : Keeps → Session → ToldEvent → Turn PeerWhy → Keeps
kept_after keeps session told turn = kept_by (peer_row session.peer told.seen) session.peer turn.notes.counter keeps

abbrev pub to_server : Setting → Net → Delivery → ToldEvent → Option ServerEnd → Net
to_server set w d told None = w
to_server set w d told (Some s) =
    let turn = server_turn set w s told in
    record (with_server w d.place d.session (drawn_in_turn (asking (server_row set w.homes s told.seen told.reply)) turn.1.notes.number) turn.0 turn.1.step) {
      homes = homes_after set w.homes s told.seen told.reply told.notes;
    }

abbrev pub to_peer : Setting → Net → Delivery → ToldEvent → Option Subscription → Net
to_peer set w d told None = w
to_peer set w d told (Some device) =
    let turn = peer_turn set device (keeps_at w d.session.device) d.session told in
    record (with_peer w d.place d.session turn.0 turn.1.step) {
      stores = slice_set w.stores d.session.device (kept_after (keeps_at w d.session.device) d.session told turn.1);
    }

abbrev pub delivered : Setting → Net → End → ToldEvent → Option Delivery → Net
delivered set w at' told None = w
delivered set w end.Server told (Some d) = to_server set w d told d.session.server
delivered set w end.Peer told (Some d) = to_peer set w d told (slice_get w.devices d.session.device)

-- what an end finds: a server under the inputs that it had before the turn, a peer under those that it has after it
abbrev pub breach_at : Delivery → End → Breach
breach_at d at' = record { session = d.session.number; end = at'; packet = d.packet }

abbrev pub server_finds : Setting → Net → Delivery → ToldEvent → Option ServerEnd → Option Finding
server_finds set w d told None = None
server_finds set w d told (Some s) = Some (record {
  checked = (server_turn set w s told).1.checked;
  inputs = inputs_of_server s;
  bytes = d.bytes;
  delivery = breach_at d end.Server;
})

abbrev pub peer_finds : Setting → Net → Delivery → ToldEvent → Option Subscription → Option Finding
peer_finds set w d told None = None
peer_finds set w d told (Some device) = Some (record {
  checked = (peer_turn set device (keeps_at w d.session.device) d.session told).1.checked;
  inputs = inputs_of_peer d.session.sub (peer_turn set device (keeps_at w d.session.device) d.session told).0;
  bytes = d.bytes;
  delivery = breach_at d end.Peer;
})

abbrev pub found_by : Setting → Net → End → ToldEvent → Option Delivery → Option Finding
found_by set w at' told None = None
found_by set w end.Server told (Some d) = server_finds set w d told d.session.server
found_by set w end.Peer told (Some d) = peer_finds set w d told (slice_get w.devices d.session.device)

-- ---- the other events

-- what the ends of a session start with
abbrev pub server_options : SessionLine → ServerOptions
server_options opening = record {
  session = opening.session;
  method = opening.method;
  name = opening.name;
  pseudonym = opening.pseudonym;
  reauth = opening.reauth;
  bidding = opening.bidding;
  any = opening.any;
}

-- the identity that answers the Identity request of EAP
abbrev pub first_of : Identity → FirstIdentity
first_of identity.Held = first.Held
first_of identity.Permanent = first.Permanent
first_of (identity.Text text) = first.Text text

abbrev pub peer_options : SessionLine → peer_told.ToldSession
peer_options opening = record {
  session = opening.session;
  method = opening.method;
  name = opening.peer_name;
  has_prime = opening.has_prime;
  first = first_of opening.identity;
}

-- a session in which nothing has happened, at the device of a place
abbrev pub new_session : SessionLine → ℕ → Session
new_session opening place = record {
  number = opening.session;
  sub = opening.sub;
  device = place;
  options = server_options opening;
  server = None;
  peer = new_peer (peer_options opening);
  peer_keys = None;
}

-- a session is opened at the device of a place, unless one of its number is open
abbrev pub opened : Net → SessionLine → Option ℕ → Option ℕ → Net
opened w opening (Some first) place = w
opened w opening None None = w
opened w opening None (Some place) = record w { sessions = w.sessions ++ new_session opening place ∷ [] }

-- a server starts once
abbrev pub start : Net → ℕ → Session → Option ServerEnd → Net
start w place session None = with_server w place session [] (started session.options) (step.Sent (started session.options).last)
start w place session (Some s) = w

abbrev pub repeat : Net → ℕ → Session → Option ServerEnd → Net
repeat w place session None = w
repeat w place session (Some s) = with_server w place session [] s (repeated s s.state)

abbrev pub server_gives_up : Net → ℕ → Session → Option ServerEnd → Net
server_gives_up w place session None = w
server_gives_up w place session (Some s) = with_server w place session [] (server_gave_up s s.state).0 (server_gave_up s s.state).1

abbrev pub give_up : Net → End → ℕ → Session → Net
give_up w end.Server place session = server_gives_up w place session session.server
give_up w end.Peer place session = with_peer w place session (peer_gave_up session.peer session.peer.state).0 (peer_gave_up session.peer session.peer.state).1

abbrev pub in_session : Net → (ℕ → Session → Net) → ℕ → Option Session → Net
in_session w does place None = w
in_session w does place (Some session) = does place session

abbrev pub at_place : Net → (ℕ → Session → Net) → Option ℕ → Net
at_place w does None = w
at_place w does (Some place) = in_session w does place (slice_get w.sessions place)

-- what happens in a session, if it is open
abbrev pub at_session : Net → ℕ → (ℕ → Session → Net) → Net
at_session w session does = at_place w does (session_place w.sessions session)

-- ---- changed packets

-- a changed copy of a packet's bytes, if the packet is there and has the place, from 0
abbrev pub changed_at : ℕ → (List ℕ → List ℕ) → Option SentPacket → Option (List ℕ)
changed_at place by None = None
changed_at place by (Some sent) = if nat_lt place (length sent.bytes) then Some (by sent.bytes) else None

-- the changed copy that the network makes in an event: the byte of a place is another, or so many bytes stay from the front
abbrev pub changed_in : List SentPacket → Event → Option (List ℕ)
changed_in packets (event.Tamper packet place byte) = changed_at place (λ bytes. slice_set bytes place byte) (packet_at packets packet)
changed_in packets (event.Cut packet count) = changed_at count (take count) (packet_at packets packet)
changed_in packets other = None

-- the copy, if there is one, is one packet more; nothing else changes
abbrev pub with_copy : Net → Option (List ℕ) → Net
with_copy w bytes = record w { packets = w.packets ++ copies bytes }

-- ---- an event

-- sessions and packets after an event; a refused event changes nothing
abbrev pub moved : Setting → Net → Event → ToldEvent → Net
moved set w (event.Open opening) told = opened w opening (session_place w.sessions opening.session) (device_place set.rows w.devices opening.sub)
moved set w (event.Start session) told = at_session w session (λ place s. start w place s s.server)
moved set w (event.Deliver session at' packet) told = delivered set w at' told (delivery_in w session packet)
moved set w (event.Repeat session) told = at_session w session (λ place s. repeat w place s s.server)
moved set w (event.GiveUp session at') told = at_session w session (give_up w at')
moved set w (event.Tamper packet place byte) told = with_copy w (changed_in w.packets (event.Tamper packet place byte))
moved set w (event.Cut packet count) told = with_copy w (changed_in w.packets (event.Cut packet count))

-- what an end finds in an event
abbrev pub found : Setting → Net → Event → ToldEvent → Option Finding
found set w (event.Deliver session at' packet) told = found_by set w at' told (delivery_in w session packet)
found set w other told = None

abbrev pub happened : Setting → Net → Event → ToldEvent → Net
happened set w e told = record (moved set w e told) { broken = judged w.packets w.broken (found set w e told) }
