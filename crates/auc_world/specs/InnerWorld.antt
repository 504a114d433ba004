-- What only private contracts of this crate cite: how a job's network is kept, and what an end does by itself.
use Rattle.std.specs.Prelude.{ℕ, ◌≡◌, ◌<◌, ◌≤◌, ◌+◌, ◌-◌, ◌^◌, List, [], ◌∷◌, map, length, position, Option, Some, None, slice_get, slice_set, take}
use Rattle.std.specs.Global.{Vec}
use Rattle.std.specs.Vec.{vec_len, vec_capacity}
use Rattle.auc_memory.specs.Identity.{Identity}
pub use Rattle.auc_memory.specs.IdentityKey.{is_key, key_of}
use Rattle.auc_memory.specs.declared.identity_key.IdentityKey.{IdentityKey}
use Rattle.auc_memory.specs.declared.stop.Stop.{Stop}
use Rattle.auc_history.specs.declared.entry.Entry.{Entry}
use Rattle.auc_peer.specs.Subscription.{Subscription, subscription_of}
use Rattle.auc_peer.specs.declared.device.Device.{Device}
use Rattle.auc_released.specs.declared.numbers.Number.{Number}
use Rattle.auc_subs.specs.Setting.{Setting}
use Rattle.auc_server.specs.declared.setting.HomeRow.{HomeRow}
use Rattle.auc_subs.specs.Subscriber.{same_identity}
use Rattle.auc_vector.specs.Notes.{AskedCentre}
use Rattle.auc_vector.specs.declared.notes.NumberNote.{NumberNote}
use Rattle.auc_vector.specs.declared.notes.NumberNote.TheVariants as number
use Rattle.auc_world.specs.Came.{AreReceived, AsksAt, RepliesAt, TellsNotes, asking_at, came_at_peer, came_at_server, came_given_up, came_repeated, came_started, presented_at, received_by}
use Rattle.auc_record.specs.Event.{Came}
use Rattle.auc_world.specs.Happened.{Delivery, ToldEvent, changed_at, delivery_in, give_up, peer_finds, repeat, server_finds, start, to_peer, to_server}
use Rattle.auc_world.specs.Net.{Net, judged, packet_at}
use Rattle.auc_world.specs.World.{AreHanded, HasHeld, IsWorld, WorldState}
use Rattle.auc_world.specs.declared.acting.Deed.{Deed}
use Rattle.auc_world.specs.declared.acting.Deed.TheVariants as deed
use Rattle.auc_world.specs.declared.changing.Change.{Change}
use Rattle.auc_world.specs.declared.changing.Change.TheVariants as change
use Rattle.auc_record.specs.declared.event.WorldRefusal.{WorldRefusal}
use Rattle.auc_record.specs.declared.event.WorldRefusal.TheVariants as refused
use Rattle.auc_record.specs.declared.record.Breach.{Breach}
use Rattle.auc_world.specs.declared.net.SentPacket.{SentPacket}
use Rattle.auc_world.specs.declared.net.Session.{Session}

-- ---- places

-- each session under its number
abbrev pub AreNumbered : List ℕ → List Session → Type 0
AreNumbered numbers sessions = numbers ≡ map (λ s. s.number) sessions

-- the first device with an identity
abbrev pub device_with : List Subscription → Identity → Option ℕ
device_with devices imsi = position (λ device. same_identity device.imsi imsi) devices

-- look-ups by an identity's key find the first device with it
abbrev pub ArePlaced : (IdentityKey → Option ℕ) → List Subscription → Type 0
ArePlaced found devices = (imsi : Identity) → found (key_of imsi) ≡ device_with devices imsi

-- ---- a job's network with its devices, as it is kept

abbrev pub state_of : List SentPacket → List Session → List Number → List HomeRow → Option Breach → List Device → WorldState
state_of packets sessions released homes broken devices = record {
  net = record {
    packets = packets;
    sessions = sessions;
    released = released;
    homes = homes;
    devices = map subscription_of devices;
    stores = map (λ device. device.store) devices;
    broken = broken;
  };
  devices = devices;
}

-- sessions are found by their numbers, and devices by their identities' keys
pub record IsKept (numbers : List ℕ) (found : IdentityKey → Option ℕ) (w : WorldState) : Type 0 where
  pub world : IsWorld w
  pub numbered : AreNumbered numbers w.net.sessions
  pub placed : ArePlaced found w.net.devices

-- ---- packets

-- there is a place for one more packet, and a number
abbrev pub HasPlace : {T : Type 0} → Vec T → Type 0
HasPlace packets = (vec_len packets < vec_capacity packets) × (vec_len packets < 2 ^ 32 - 1)

-- the number of a packet behind some others
abbrev pub number_after : List SentPacket → Option (List ℕ) → Option ℕ
number_after packets None = None
number_after packets (Some bytes) = Some (length packets + 1)

-- ---- what an end does by itself

abbrev pub came_of : Net → Deed → Session → Came
came_of w deed.Start session = came_started w session.options session.server
came_of w deed.Repeat session = came_repeated w session.server
came_of w (deed.GiveUp at') session = came_given_up w at' session

abbrev pub net_of : Net → Deed → ℕ → Session → Net
net_of w deed.Start place session = start w place session session.server
net_of w deed.Repeat place session = repeat w place session session.server
net_of w (deed.GiveUp at') place session = give_up w at' place session

-- a network in which packets were posted, and the session of a place changed
abbrev pub with_session : Net → ℕ → List SentPacket → Session → Net
with_session w place packets session = record w { packets = packets; sessions = slice_set w.sessions place session }

-- the session stands at the place of a network with these packets
pub record SessionStands (w : Net) (place : ℕ) (packets : List SentPacket) (session : Session) : Type 0 where
  pub packets_are : w.packets ≡ packets
  pub there : slice_get w.sessions place ≡ Some session

-- what an end did by itself, in each network in which its session stands; a challenged subscriber stays one of the homes
pub record Acts (what : Deed) (packets : List SentPacket) (session : Session) (sent : List SentPacket) (changed : Session) (came : Came) : Type 0 where
  pub is : (w : Net) (place : ℕ) → SessionStands w place packets session → came ≡ came_of w what session
  pub leads : (w : Net) (place : ℕ) → SessionStands w place packets session → net_of w what place session ≡ with_session w place sent changed
  pub number : changed.number ≡ session.number
  pub options : changed.options ≡ session.options
  pub held : (homes : List HomeRow) → HasHeld homes session.server → HasHeld homes changed.server

-- ---- changed packets

-- the place that a packet needs to be changed so, and its bytes after the change
abbrev pub place_of : Change → ℕ
place_of (change.Byte place byte) = place
place_of (change.Cut count) = count

abbrev pub bytes_after : Change → List ℕ → List ℕ
bytes_after (change.Byte place byte) bytes = slice_set bytes place byte
bytes_after (change.Cut count) bytes = take count bytes

-- the changed copy of a packet, if it is there and has the place
abbrev pub copy_by : Change → Option SentPacket → Option (List ℕ)
copy_by change sent = changed_at (place_of change) (bytes_after change) sent

-- ---- deliveries

-- why a packet reaches no session
abbrev pub refusal_of : Option SentPacket → WorldRefusal
refusal_of None = refused.NoSuchPacket
refusal_of (Some sent) = refused.NoSuchEnd

abbrev pub IsUnreached : Net → ℕ → ℕ → WorldRefusal → Type 0
IsUnreached w session packet why = (delivery_in w session packet ≡ None) × (why ≡ refusal_of (packet_at w.packets packet))

-- there are a session at the place and a packet of the number
pub record IsReached (w : Net) (place packet : ℕ) : Type 0 where
  pub session : place < length w.sessions
  pub first : 1 ≤ packet
  pub last : packet ≤ length w.packets

-- the numbers that are released for a subscriber, if the centre was asked for one
abbrev pub released_for : Option ℕ → Option NumberNote → List Number
released_for (Some sub) (Some (number.Drew n)) = record { sub = sub; n = n } ∷ []
released_for _ _ = []

-- what a server in the session of a place makes of a packet
pub record ServesPacket {S : Type 0} (goes : S → ℕ → List Entry → List (ℕ × Stop) → S → Type 0) (kept : S → ℕ → Option ℕ) (top : S → ℕ → ℕ) (set : Setting) (old : WorldState) (d : Delivery) (before : S) (new : WorldState) (result : Came) (after : S) : Type 0 where
  pub told : ToldEvent
  pub is : result ≡ came_at_server set old.net told d.session.server
  pub leads : new.net ≡ record (to_server set old.net d told d.session.server) { broken = judged old.net.packets old.net.broken (server_finds set old.net d told d.session.server) }
  pub received : AreReceived (received_by d.bytes d.session.server) told.seen
  pub notes : TellsNotes told result
  pub replies : RepliesAt told d.session.server
  pub centre : AskedCentre goes kept top (asking_at set old.net told d.session.server) told.notes before after
  pub drawn : AsksAt set old.net told d.session.server
  pub devices : new.devices ≡ old.devices

-- what a peer in it makes of it
pub record Answers (set : Setting) (old : WorldState) (d : Delivery) (new : WorldState) (result : Came) : Type 0 where
  pub told : ToldEvent
  pub is : result ≡ came_at_peer set old.net d told (slice_get old.net.devices d.session.device)
  pub leads : new.net ≡ record (to_peer set old.net d told (slice_get old.net.devices d.session.device)) { broken = judged old.net.packets old.net.broken (peer_finds set old.net d told (slice_get old.net.devices d.session.device)) }
  pub received : AreReceived (received_by d.bytes (slice_get old.net.devices d.session.device)) told.seen
  pub notes : TellsNotes told result
  pub usims : AreHanded (presented_at old.net d told (slice_get old.net.devices d.session.device)) told old.devices new.devices
