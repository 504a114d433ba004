-- A job's network with the devices of its subscribers, and what applying an event does to them.
use Rattle.std.specs.Prelude.{◌≡◌, ◌≢◌, ℕ, ◌<◌, ◌≤◌, List, length, map, All, Option, Some, None, slice_get}
use Rattle.auc_memory.specs.declared.stop.Stop.{Stop}
use Rattle.auc_history.specs.declared.entry.Entry.{Entry}
use Rattle.auc_lines.specs.Part.{IsShortIdentity}
use Rattle.auc_peer.specs.Subscription.{subscription_of}
use Rattle.auc_peer.specs.Turn.{AskedUsim as AsksDevice, Decrypts}
use Rattle.auc_peer.specs.declared.device.Device.{Device}
use Rattle.auc_server.specs.Laws.{Fits}
use Rattle.auc_server.specs.Server.{ServerEnd, challenged_of, resumed_of}
use Rattle.auc_subs.specs.Setting.{Setting}
use Rattle.auc_server.specs.Steps.{IsHeld, IsHeldToo, IsHome}
use Rattle.auc_server.specs.declared.setting.HomeRow.{HomeRow}
use Rattle.auc_sqn.specs.Past.{Past, Remembers}
use Rattle.auc_subs.specs.declared.row.Row.{Row}
use Rattle.auc_usim.specs.Usim.{Memory, IsAnswer, past_after_answer}
use Rattle.auc_usim.specs.declared.answer.Answer.{Answer}
use Rattle.auc_vector.specs.Notes.{AskedCentre}
use Rattle.auc_world.specs.Came.{AreReceived, AsksWhatItNeeds, Presented, TellsNotes, TellsReply, asking_of, bytes_named, came, presented_by}
use Rattle.auc_record.specs.Event.{Came}
use Rattle.auc_world.specs.Happened.{ToldEvent, happened}
use Rattle.auc_world.specs.Net.{Net, device_place}
use Rattle.auc_record.specs.declared.event.Event.{Event}
use Rattle.auc_record.specs.declared.event.Event.TheVariants as event

-- a network, and the devices of its subscribers in the same order
pub record WorldState : Type 0 where
  pub net : Net
  pub devices : List Device

abbrev pub memory_of : Option Device → Option Memory
memory_of None = None
memory_of (Some device) = Some device.usim

-- what the USIM of a subscriber's device keeps, if the device is among them
abbrev pub usim_at : List Device → Option ℕ → Option Memory
usim_at devices None = None
usim_at devices (Some place) = memory_of (slice_get devices place)

abbrev pub usim_of : List Row → WorldState → ℕ → Option Memory
usim_of rows w sub = usim_at w.devices (device_place rows w.net.devices sub)

-- ---- what is needed

-- each server's challenged subscriber is one of the homes, and so is one that re-authenticates; its keys are those of its
-- inputs
abbrev pub HasHeld : List HomeRow → Option ServerEnd → Type 0
HasHeld homes None = Unit {0}
HasHeld homes (Some s) = IsHeld homes (challenged_of s) × IsHeldToo homes (resumed_of s) × Fits s

-- a network's name has at most 255 bytes
abbrev pub IsName : List ℕ → Type 0
IsName name = length name ≤ 255

-- a world: its network has the subscriptions of the devices and what they keep, its servers
-- serve the homes, and its sessions are of networks with names
pub record IsWorld (w : WorldState) : Type 0 where
  pub subscriptions : w.net.devices ≡ map subscription_of w.devices
  pub stores : w.net.stores ≡ map (λ device. device.store) w.devices
  pub held : All (λ s. HasHeld w.net.homes s.server) w.net.sessions
  pub names : All (λ s. IsName s.options.name) w.net.sessions

-- the subscriber of a session that is opened has a row, the network a name, and the identity isn't too long
abbrev pub IsKnownEvent : ℕ → Event → Type 0
IsKnownEvent count (event.Open opening) = (opening.sub < count) × IsName opening.name × IsShortIdentity opening.identity
IsKnownEvent count other = Unit {0}

-- each home is a row of the subscribers, and a subscriber of the centre
abbrev pub AreHomes : List Row → ℕ → (ℕ → ℕ) → List HomeRow → Type 0
AreHomes rows subs top homes = All (λ home. IsHome rows subs top home.sub) homes

-- homes of the same subscribers, in the same order
abbrev pub AreOfSame : List HomeRow → List HomeRow → Type 0
AreOfSame old new = map (λ home. home.sub) new ≡ map (λ home. home.sub) old

-- each USIM remembers some past
abbrev pub RememberPasts : List Device → Type 0
RememberPasts devices = (place : ℕ) (device : Device) → slice_get devices place ≡ Some device → (past : Past) × Remembers device.usim.array past

-- a USIM answers a challenge, and the others stay as they were
pub record Challenges (old : ℕ → Option Memory) (sub : ℕ) (rand autn : List ℕ) (answer : Answer) (new : ℕ → Option Memory) : Type 0 where
  pub before : Memory
  pub there : old sub ≡ Some before
  pub after : Memory
  pub here : new sub ≡ Some after
  pub others : (i : ℕ) → i ≢ sub → new i ≡ old i
  pub answers : (past : Past) → Remembers before.array past → IsAnswer before.secret before.array.bits before.array.age past rand autn answer
  pub past : (past : Past) → Remembers before.array past → Remembers after.array (past_after_answer before.array.bits past answer)
  pub secret : after.secret ≡ before.secret
  pub bits : after.array.bits ≡ before.array.bits
  pub age : after.array.age ≡ before.array.age

-- ---- an event

-- the USIM of the device that received a packet answered what it was handed; the other USIMs stay as they were
pub record IsHanded (p : Presented) (told : ToldEvent) (old new : List Device) : Type 0 where
  pub before : Device
  pub there : slice_get old p.delivery.session.device ≡ Some before
  pub after : Device
  pub here : slice_get new p.delivery.session.device ≡ Some after
  pub secret : after.usim.secret ≡ before.usim.secret
  pub bits : after.usim.array.bits ≡ before.usim.array.bits
  pub age : after.usim.array.age ≡ before.usim.array.age
  pub others : (place : ℕ) → place ≢ p.delivery.session.device → slice_get new place ≡ slice_get old place
  pub asked : AsksDevice p.device p.challenge told.notes.usim before.usim.array after.usim.array
  pub decrypts : (past : Past) → Remembers before.usim.array past
      → Decrypts p.decryption told.inner

abbrev pub AreHanded : Option Presented → ToldEvent → List Device → List Device → Type 0
AreHanded None told old new = new ≡ old
AreHanded (Some p) told old new = IsHanded p told old new

-- what an event comes to, and the network, the devices and the centre after it
pub record Applies {S : Type 0} (goes : S → ℕ → List Entry → List (ℕ × Stop) → S → Type 0) (kept : S → ℕ → Option ℕ) (top : S → ℕ → ℕ) (set : Setting) (old : WorldState) (e : Event) (before : S) (new : WorldState) (result : Came) (after : S) : Type 0 where
  pub told : ToldEvent
  pub is : result ≡ came set old.net e told
  pub leads : new.net ≡ happened set old.net e told
  pub received : AreReceived (bytes_named old.net e) told.seen
  pub notes : TellsNotes told (came set old.net e told)
  pub replies : TellsReply old.net e told
  -- the centre was asked what the turn says, and answered as the notes tell
  pub centre : AskedCentre goes kept top (asking_of set old.net e told) told.notes before after
  pub drawn : AsksWhatItNeeds set old.net e told
  pub usims : AreHanded (presented_by old.net e told) told old.devices new.devices
