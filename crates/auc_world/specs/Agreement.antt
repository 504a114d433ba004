-- Runs of a job's sessions: when a run is honest, and that the ends of one challenge then agree on the keys.
use Rattle.std.specs.Prelude.{◌≡◌, ◌≢◌, ◌↔◌, ℕ, ◌<◌, ◌≤◌, true, List, [], ◌∷◌, ◌++◌, length, Option, Some, None, slice_get, All, AllPairs, Contains}
use Rattle.auc_aes.specs.Bytes.{IsBlock}
use Rattle.auc_attr.specs.Laws.{AreBytes}
use Rattle.auc_hmac.specs.declared.keys.KeySet.{KeySet}
use Rattle.auc_hmac.specs.declared.method.Method.{Method}
use Rattle.auc_ident.specs.Permanent.{username}
use Rattle.auc_peer.specs.Subscription.{Subscription}
use Rattle.auc_peer.specs.Turn.{Decrypts}
use Rattle.auc_reauth.specs.Store.{entry}
use Rattle.auc_reauth.specs.declared.context.Context.{Context}
use Rattle.auc_server.specs.Ordinals.{home_at}
use Rattle.auc_server.specs.Server.{ServerEnd}
use Rattle.auc_subs.specs.Setting.{Setting}
use Rattle.auc_server.specs.declared.server.Last.{Last}
use Rattle.auc_server.specs.declared.server.ServerState.TheVariants as state
use Rattle.auc_server.specs.declared.setting.HomeRow.{HomeRow}
use Rattle.auc_subs.specs.Subscriber.{AreSubscribers, top_at}
use Rattle.auc_subs.specs.declared.row.Row.{Row}
use Rattle.auc_vector.specs.declared.turn.Outcome.TheVariants as outcome
use Rattle.auc_world.specs.Came.{AreReceived, Presented, bytes_named, presented_by}
use Rattle.auc_world.specs.Happened.{ToldEvent, found, happened}
use Rattle.auc_world.specs.Net.{Finding, Net, device_place, inputs_of_peer, inputs_of_server, other}
use Rattle.auc_lines.specs.declared.part.End.{End}
use Rattle.auc_record.specs.declared.event.Event.{Event}
use Rattle.auc_record.specs.declared.record.Breach.{Breach}
use Rattle.auc_world.specs.Resumption.{AreResumedOnce, resumptions}
use Rattle.auc_world.specs.declared.net.FastInputs.{FastInputs}
use Rattle.auc_world.specs.declared.net.FullInputs.{FullInputs}
use Rattle.auc_world.specs.declared.net.Inputs.{Inputs}
use Rattle.auc_world.specs.declared.net.Inputs.TheVariants as inputs
use Rattle.auc_released.specs.declared.numbers.Number.{Number}
use Rattle.auc_world.specs.declared.net.SentPacket.{SentPacket}
use Rattle.auc_world.specs.declared.net.Session.{Session}

-- ---- runs

-- what befalls a network: an event, or the release of a number outside the sessions
pub data Happening : Type 0 where
  Occurs : Event → ToldEvent → Happening
  Noted : Number → Happening

abbrev pub after_one : Setting → Net → Happening → Net
after_one set w (Occurs e told) = happened set w e told
after_one set w (Noted number) = record w { released = w.released ++ number ∷ [] }

-- the network after some happenings, in their order
abbrev pub after : Setting → Net → List Happening → Net
after set w [] = w
after set w (h ∷ hs) = after set (after_one set w h) hs

-- ---- what is told

-- the peer that a packet reached has decrypted what was encrypted in it
abbrev pub DecryptsIn : ToldEvent → Option Presented → Type 0
DecryptsIn told None = Unit {0}
DecryptsIn told (Some p) = Decrypts p.decryption told.inner

-- what is told of an event is so: what an end received, and what a peer decrypted
pub record IsTold (w : Net) (e : Event) (told : ToldEvent) : Type 0 where
  pub received : AreReceived (bytes_named w e) told.seen
  pub decrypts : DecryptsIn told (presented_by w e told)

abbrev pub IsToldAt : Net → Happening → Type 0
IsToldAt w (Occurs e told) = IsTold w e told
IsToldAt w (Noted number) = Unit {0}

-- so is what is told of each event of a run
abbrev pub AreTold : Setting → Net → List Happening → Type 0
AreTold set w [] = Unit {0}
AreTold set w (h ∷ hs) = IsToldAt w h × AreTold set (after_one set w h) hs

-- ---- the premise

-- an end of a role sent these bytes, with these inputs of its keys
pub record SentBefore (from : End) (inputs : Option Inputs) (bytes : List ℕ) (packets : List SentPacket) : Type 0 where
  pub packet : SentPacket
  pub is_in : Contains packets packet
  pub role : packet.sender ≡ Some from
  pub own : Inputs
  pub with_inputs : packet.inputs ≡ Some own
  pub same_inputs : inputs ≡ Some own
  pub with_bytes : packet.bytes ≡ bytes

-- a delivery is honest: if the end finds a right MAC, an end of the other role sent these bytes before, with the same inputs
abbrev pub IsHonestFinding : List SentPacket → Option Finding → Type 0
IsHonestFinding packets None = Unit {0}
IsHonestFinding packets (Some f) = f.checked ≡ true → SentBefore (other f.delivery.end) f.inputs f.bytes packets

abbrev pub IsHonestAt : Setting → Net → Happening → Type 0
IsHonestAt set w (Occurs e told) = IsHonestFinding w.packets (found set w e told)
IsHonestAt set w (Noted number) = Unit {0}

-- each delivery of a run is honest
abbrev pub IsHonest : Setting → Net → List Happening → Type 0
IsHonest set w [] = Unit {0}
IsHonest set w (h ∷ hs) = IsHonestAt set w h × IsHonest set (after_one set w h) hs

-- a network knows no breach after a run exactly if it knew none before, and the run is honest
abbrev pub BrokenTells : Type 0
BrokenTells = (set : Setting) (w : Net) (hs : List Happening) → ((after set w hs).broken ≡ None) ↔ ((w.broken ≡ None) × IsHonest set w hs)

-- what an end finds at a happening
abbrev pub found_at : Setting → Net → Happening → Option Finding
found_at set w (Occurs e told) = found set w e told
found_at set w (Noted number) = None

-- a breach is the delivery of the first happening that isn't honest
pub record IsFirst (set : Setting) (w : Net) (hs : List Happening) (breach : Breach) : Type 0 where
  pub before : List Happening
  pub at' : Happening
  pub rest : List Happening
  pub all : hs ≡ before ++ at' ∷ rest
  pub honest : IsHonest set w before
  pub finding : Finding
  pub found_then : found_at set (after set w before) at' ≡ Some finding
  pub named : finding.delivery ≡ breach
  pub dishonest : IsHonestAt set (after set w before) at' → ⊥

abbrev pub BreachIsFirst : Type 0
BreachIsFirst = (set : Setting) (w : Net) (hs : List Happening) (breach : Breach) → w.broken ≡ None → (after set w hs).broken ≡ Some breach
    → IsFirst set w hs breach

-- ---- agreement

-- a network before its first event
pub record IsFresh (w : Net) : Type 0 where
  pub packets : w.packets ≡ []
  pub sessions : w.sessions ≡ []

-- the USIM of each subscriber's device has the subscriber's secret
abbrev pub HaveSecrets : Setting → List Subscription → Type 0
HaveSecrets set devices = (sub place : ℕ) (device : Subscription) (row : Row) → device_place set.rows devices sub ≡ Some place
    → slice_get devices place ≡ Some device → slice_get set.rows sub ≡ Some row → device.secret ≡ row.secret

-- a realm has at most 255 bytes
pub record IsRealm (realm : List ℕ) : Type 0 where
  pub short : length realm ≤ 255
  pub bytes : AreBytes realm

-- a context is as it can be sent: K_encr has 16 bytes, and the counter 16 bits
pub record IsSized (c : Context) : Type 0 where
  pub k_encr : IsBlock c.k_encr
  pub counter : c.counter < 65536

-- each context of the homes is
abbrev pub AreSized : List HomeRow → Type 0
AreSized homes = (m : Method) (place : ℕ) (c : Context) → entry m (home_at homes place).store ≡ Some c → IsSized c

-- no number was released twice, and each is one that a vector of its subscriber may have
pub record AreReleasedOnce (rows : List Row) (released : List Number) : Type 0 where
  pub once : AllPairs ◌≢◌ released
  pub numbers : All (λ number. number.n ≤ top_at rows number.sub) released

-- inputs are of one challenge of a subscriber, under whatever identities
pub record AreOfOneChallenge (i j : FullInputs) : Type 0 where
  pub sub : i.sub ≡ j.sub
  pub rand : i.rand ≡ j.rand
  pub autn : i.autn ≡ j.autn

-- inputs are of one fast re-authentication of a subscriber: under one identity, whatever its realm
pub record AreOfOneResumption (i j : FastInputs) : Type 0 where
  pub sub : i.sub ≡ j.sub
  pub identity : username i.identity ≡ username j.identity

-- inputs of a server and of a peer are those of the two ends of one authentication
abbrev pub AreOfOne : Inputs → Inputs → Type 0
AreOfOne (inputs.Full i) (inputs.Full j) = AreOfOneChallenge i j
AreOfOne (inputs.Fast i) (inputs.Fast j) = AreOfOneResumption i j
AreOfOne i j = ⊥

-- the server of a session ended in Success under these keys, with these inputs
pub record ServerWon (a : Session) (keys : KeySet) (i : Inputs) : Type 0 where
  pub server : ServerEnd
  pub is : a.server ≡ Some server
  pub last : Last
  pub won : server.state ≡ state.Ended (outcome.Success keys) last
  pub inputs : inputs_of_server server ≡ Some i

-- and so did the peer of a session
pub record PeerWon (b : Session) (keys : KeySet) (j : Inputs) : Type 0 where
  pub won : b.peer_keys ≡ Some keys
  pub inputs : inputs_of_peer b.sub b.peer ≡ Some j

-- a server and a peer, of one session or of two, that ended in Success in one authentication have equal keys
abbrev pub Agree : Net → Type 0
Agree w = (a b : Session) (k l : KeySet) (i j : Inputs) → Contains w.sessions a → Contains w.sessions b
    → ServerWon a k i → PeerWon b l j → AreOfOne i j → k ≡ l

abbrev pub EachHonestRunAgrees : Type 0
EachHonestRunAgrees = (set : Setting) (w : Net) (hs : List Happening) → AreSubscribers set.rows → IsRealm set.realm → HaveSecrets set w.devices
    → AreSized w.homes → IsFresh w → AreTold set w hs
    → AreReleasedOnce set.rows (after set w hs).released → AreResumedOnce (resumptions (after set w hs).sessions)
    → (after set w hs).broken ≡ None → Agree (after set w hs)
