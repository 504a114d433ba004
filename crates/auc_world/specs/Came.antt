-- What comes of an event: a note of it, or a refusal, after which nothing has changed.
use Rattle.std.specs.Prelude.{◌≡◌, ℕ, ◌+◌, List, length, Option, Some, None, Ok, Err, slice_get}
use Rattle.auc_lines.specs.declared.part.End.{End}
use Rattle.auc_lines.specs.declared.part.End.TheVariants as end
use Rattle.auc_packet.specs.Received.{Seen, IsReceived}
use Rattle.auc_peer.specs.Rows.{peer_row}
use Rattle.auc_peer.specs.Subscription.{Subscription}
use Rattle.auc_peer.specs.Table.{gave_up as peer_gave_up}
use Rattle.auc_peer.specs.Turn.{Decryption, asked, decryption_made}
use Rattle.auc_peer.specs.declared.peer.Challenge.{Challenge}
use Rattle.auc_vector.specs.declared.why.PeerWhy.{PeerWhy}
use Rattle.auc_server.specs.Replies.{Replies}
use Rattle.auc_server.specs.Rows.{server_row}
use Rattle.auc_server.specs.Server.{ServerEnd, challenged_of, started}
use Rattle.auc_subs.specs.Setting.{Setting}
use Rattle.auc_server.specs.Steps.{AsksAsNeeded, asking}
use Rattle.auc_server.specs.Table.{gave_up as server_gave_up, repeated, silent}
use Rattle.auc_server.specs.declared.options.ServerOptions.{ServerOptions}
use Rattle.auc_server.specs.declared.server.Challenged.{Challenged}
use Rattle.auc_vector.specs.declared.why.ServerWhy.{ServerWhy}
use Rattle.auc_vector.specs.Notes.{Asking}
use Rattle.auc_vector.specs.declared.notes.Notes.{Notes}
use Rattle.auc_vector.specs.declared.notes.NumberNote.{NumberNote}
use Rattle.auc_vector.specs.declared.notes.NumberNote.TheVariants as number
use Rattle.auc_vector.specs.declared.parts.Vector.{Vector}
use Rattle.auc_vector.specs.declared.turn.Step.{Step}
use Rattle.auc_vector.specs.declared.turn.Step.TheVariants as step
use Rattle.auc_record.specs.Event.{Came}
use Rattle.auc_world.specs.Happened.{Delivery, ToldEvent, changed_in, delivery_in, peer_turn, sent_by, server_turn}
use Rattle.auc_world.specs.Net.{Net, device_place, keeps_at, packet_at, session_place}
use Rattle.auc_record.specs.declared.event.Event.{Event}
use Rattle.auc_record.specs.declared.event.Event.TheVariants as event
use Rattle.auc_record.specs.declared.event.Note.{Note}
use Rattle.auc_record.specs.declared.event.NoteStep.TheVariants as did
use Rattle.auc_record.specs.declared.event.WorldRefusal.TheVariants as refused
use Rattle.auc_world.specs.declared.net.SentPacket.{SentPacket}
use Rattle.auc_world.specs.declared.net.Session.{Session}

-- ---- notes

-- the number of the packet that is sent, if one is
abbrev pub packet_number : Net → Option (List ℕ) → Option ℕ
packet_number w None = None
packet_number w (Some bytes) = Some (length w.packets + 1)

-- for whom the centre was asked
abbrev pub asked_sub : Option Asking → Option ℕ
asked_sub None = None
asked_sub (Some asking) = Some asking.sub

-- the vector that was released: that of the challenge that was sent, if a number was drawn
abbrev pub vector_sent : Option NumberNote → Option Challenged → Option Vector
vector_sent (Some (number.Drew n)) (Some sent) = Some sent.vector
vector_sent _ _ = None

abbrev pub by_server : Net → Notes → Step ServerWhy → Option Asking → Option Vector → Note
by_server w notes what asked vector = record {
  notes = notes;
  step = did.Server what;
  packet = packet_number w (sent_by what);
  asked = asked_sub asked;
  device = None;
  vector = vector;
}

abbrev pub by_peer : Net → Notes → Step PeerWhy → Option ℕ → Note
by_peer w notes what device = record {
  notes = notes;
  step = did.Peer what;
  packet = packet_number w (sent_by what);
  asked = None;
  device = device;
  vector = None;
}

abbrev pub of_opening : Note
of_opening = record { notes = silent; step = did.Opened; packet = None; asked = None; device = None; vector = None }

-- ---- deliveries

-- whom a server that received something asks the centre for
abbrev pub asking_at : Setting → Net → ToldEvent → Option ServerEnd → Option Asking
asking_at set w told None = None
asking_at set w told (Some s) = asking (server_row set w.homes s told.seen told.reply)

abbrev pub came_at_server : Setting → Net → ToldEvent → Option ServerEnd → Came
came_at_server set w told None = Err refused.NoSuchEnd
came_at_server set w told (Some s) =
    let turn = server_turn set w s told in
    Ok (by_server w turn.1.notes turn.1.step (asking_at set w told (Some s)) (vector_sent turn.1.notes.number (challenged_of turn.0)))

abbrev pub came_at_peer : Setting → Net → Delivery → ToldEvent → Option Subscription → Came
came_at_peer set w d told None = Err refused.NoSuchEnd
came_at_peer set w d told (Some device) =
    let turn = peer_turn set device (keeps_at w d.session.device) d.session told in Ok (by_peer w turn.1.notes turn.1.step (Some d.session.sub))

-- the packet is looked for before the end
abbrev pub came_delivered : Setting → Net → End → ToldEvent → Option SentPacket → Option Delivery → Came
came_delivered set w at' told None d = Err refused.NoSuchPacket
came_delivered set w at' told (Some sent) None = Err refused.NoSuchEnd
came_delivered set w end.Server told (Some sent) (Some d) = came_at_server set w told d.session.server
came_delivered set w end.Peer told (Some sent) (Some d) = came_at_peer set w d told (slice_get w.devices d.session.device)

-- ---- the other events

abbrev pub came_opened : Option ℕ → Option ℕ → Came
came_opened (Some first) place = Err refused.Started
came_opened None None = Err refused.NoSuchEnd
came_opened None (Some place) = Ok of_opening

abbrev pub came_started : Net → ServerOptions → Option ServerEnd → Came
came_started w options None = Ok (by_server w silent (step.Sent (started options).last) None None)
came_started w options (Some s) = Err refused.Started

abbrev pub came_repeated : Net → Option ServerEnd → Came
came_repeated w None = Err refused.NoSuchEnd
came_repeated w (Some s) = Ok (by_server w silent (repeated s s.state) None None)

abbrev pub server_came_to_give_up : Net → Option ServerEnd → Came
server_came_to_give_up w None = Err refused.NoSuchEnd
server_came_to_give_up w (Some s) = Ok (by_server w silent (server_gave_up s s.state).1 None None)

abbrev pub came_given_up : Net → End → Session → Came
came_given_up w end.Server session = server_came_to_give_up w session.server
came_given_up w end.Peer session = Ok (by_peer w silent (peer_gave_up session.peer session.peer.state).1 None)

abbrev pub came_in : (Session → Came) → Option Session → Came
came_in does None = Err refused.NoSuchEnd
came_in does (Some session) = does session

abbrev pub session_at : Net → Option ℕ → Option Session
session_at w None = None
session_at w (Some place) = slice_get w.sessions place

-- the session of a number, if it is open
abbrev pub session_of : Net → ℕ → Option Session
session_of w number = session_at w (session_place w.sessions number)

-- ---- changed packets

-- a note of a changed copy behind some packets
abbrev pub by_network : List SentPacket → List ℕ → Note
by_network packets bytes = record {
  notes = silent;
  step = did.Made bytes;
  packet = Some (length packets + 1);
  asked = None;
  device = None;
  vector = None;
}

-- the packet is looked for before the place
abbrev pub came_changed : List SentPacket → Option SentPacket → Option (List ℕ) → Came
came_changed packets None copy = Err refused.NoSuchPacket
came_changed packets (Some sent) None = Err refused.NoSuchPlace
came_changed packets (Some sent) (Some bytes) = Ok (by_network packets bytes)

-- ---- an event

abbrev pub came : Setting → Net → Event → ToldEvent → Came
came set w (event.Open opening) told = came_opened (session_place w.sessions opening.session) (device_place set.rows w.devices opening.sub)
came set w (event.Start session) told = came_in (λ s. came_started w s.options s.server) (session_of w session)
came set w (event.Deliver session at' packet) told = came_delivered set w at' told (packet_at w.packets packet) (delivery_in w session packet)
came set w (event.Repeat session) told = came_in (λ s. came_repeated w s.server) (session_of w session)
came set w (event.GiveUp session at') told = came_in (came_given_up w at') (session_of w session)
came set w (event.Tamper packet place byte) told =
    came_changed w.packets (packet_at w.packets packet) (changed_in w.packets (event.Tamper packet place byte))
came set w (event.Cut packet count) told =
    came_changed w.packets (packet_at w.packets packet) (changed_in w.packets (event.Cut packet count))

-- ---- what is told of an event

-- the bytes that an end receives, if it is there
abbrev pub received_by : {E : Type 0} → List ℕ → Option E → Option (List ℕ)
received_by bytes None = None
received_by bytes (Some there) = Some bytes

abbrev pub received_at : Net → End → Option Delivery → Option (List ℕ)
received_at w at' None = None
received_at w end.Server (Some d) = received_by d.bytes d.session.server
received_at w end.Peer (Some d) = received_by d.bytes (slice_get w.devices d.session.device)

-- the bytes that an end receives in it, if one does
abbrev pub bytes_named : Net → Event → Option (List ℕ)
bytes_named w (event.Deliver session at' packet) = received_at w at' (delivery_in w session packet)
bytes_named w other = None

-- what they were received as
abbrev pub AreReceived : Option (List ℕ) → Seen → Type 0
AreReceived None seen = Unit {0}
AreReceived (Some bytes) seen = IsReceived seen × (seen.bytes ≡ bytes)

-- the answers that are told are those of the note
abbrev pub TellsNotes : ToldEvent → Came → Type 0
TellsNotes told (Ok note) = told.notes ≡ note.notes
TellsNotes told (Err why) = Unit {0}

-- whom the centre is asked for
abbrev pub asking_in : Setting → Net → End → ToldEvent → Option Delivery → Option Asking
asking_in set w at' told None = None
asking_in set w end.Server told (Some d) = asking_at set w told d.session.server
asking_in set w end.Peer told (Some d) = None

abbrev pub asking_of : Setting → Net → Event → ToldEvent → Option Asking
asking_of set w (event.Deliver session at' packet) told = asking_in set w at' told (delivery_in w session packet)
asking_of set w other told = None

-- a number is asked for exactly if the server's turn needs one
abbrev pub AsksAt : Setting → Net → ToldEvent → Option ServerEnd → Type 0
AsksAt set w told None = Unit {0}
AsksAt set w told (Some s) = AsksAsNeeded (server_row set w.homes s told.seen told.reply) told.notes

abbrev pub AsksIn : Setting → Net → End → ToldEvent → Option Delivery → Type 0
AsksIn set w at' told None = Unit {0}
AsksIn set w end.Server told (Some d) = AsksAt set w told d.session.server
AsksIn set w end.Peer told (Some d) = Unit {0}

abbrev pub AsksWhatItNeeds : Setting → Net → Event → ToldEvent → Type 0
AsksWhatItNeeds set w (event.Deliver session at' packet) told = AsksIn set w at' told (delivery_in w session packet)
AsksWhatItNeeds set w other told = Unit {0}

-- what a server that received something made of the reply to its re-authentication
abbrev pub RepliesAt : ToldEvent → Option ServerEnd → Type 0
RepliesAt told None = Unit {0}
RepliesAt told (Some s) = Replies s.state told.seen.reading told.reply

abbrev pub RepliesIn : End → ToldEvent → Option Delivery → Type 0
RepliesIn at' told None = Unit {0}
RepliesIn end.Server told (Some d) = RepliesAt told d.session.server
RepliesIn end.Peer told (Some d) = Unit {0}

abbrev pub TellsReply : Net → Event → ToldEvent → Type 0
TellsReply w (event.Deliver session at' packet) told = RepliesIn at' told (delivery_in w session packet)
TellsReply w other told = Unit {0}

-- a packet that reaches a peer: its device with what that keeps, what the USIM is handed, and what is decrypted
pub record Presented : Type 0 where
  pub delivery : Delivery
  pub device : Subscription
  pub challenge : Option Challenge
  pub decryption : Option Decryption

abbrev pub presented_at : Net → Delivery → ToldEvent → Option Subscription → Option Presented
presented_at w d told None = None
presented_at w d told (Some device) = Some (record {
  delivery = d;
  device = device;
  challenge = asked (peer_row d.session.peer told.seen);
  decryption = decryption_made device (keeps_at w d.session.device) d.session.peer told.seen (peer_row d.session.peer told.seen) told.notes.usim;
})

abbrev pub presented_in : Net → End → ToldEvent → Option Delivery → Option Presented
presented_in w at' told None = None
presented_in w end.Server told (Some d) = None
presented_in w end.Peer told (Some d) = presented_at w d told (slice_get w.devices d.session.device)

abbrev pub presented_by : Net → Event → ToldEvent → Option Presented
presented_by w (event.Deliver session at' packet) told = presented_in w at' told (delivery_in w session packet)
presented_by w other told = None
