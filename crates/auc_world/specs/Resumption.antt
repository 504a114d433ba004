-- What the sessions of a job resume and accept: the identities and the counters of fast re-authentications (RFC 4187 §5).
use Rattle.std.specs.Prelude.{◌≡◌, ◌≢◌, ℕ, ◌==◌, ◌&&◌, List, [], ◌∷◌, flat_map, AllPairs, Option, Some, None, slice_get, if◌then◌else◌}
use Rattle.std.specs.Option.{option_to_list}
use Rattle.auc_hmac.specs.declared.method.Method.{Method}
use Rattle.auc_peer.specs.Laws.{MayResume}
use Rattle.auc_peer.specs.Subscription.{Subscription}
use Rattle.auc_peer.specs.declared.decrypted.Decrypted.{Decrypted}
use Rattle.auc_peer.specs.declared.decrypted.Decrypted.TheVariants as decrypted
use Rattle.auc_peer.specs.declared.next.NextContext.{NextContext}
use Rattle.auc_peer.specs.declared.next.NextContext.TheVariants as next
use Rattle.auc_peer.specs.Peer.{resumed_from}
use Rattle.auc_peer.specs.declared.peer.Peer.{Peer}
use Rattle.auc_reauth.specs.Machine.{Used, used_by}
use Rattle.auc_reauth.specs.declared.context.Context.{Context}
use Rattle.auc_server.specs.Server.{ServerEnd, resumed_of}
use Rattle.auc_subs.specs.Setting.{Setting}
use Rattle.auc_server.specs.declared.server.Resumed.{Resumed}
use Rattle.auc_vector.specs.declared.notes.CounterNote.TheVariants as counts
use Rattle.auc_world.specs.Happened.{Delivery, ToldEvent, delivery_in, peer_turn}
use Rattle.auc_world.specs.Net.{Net, keeps_at, same_method}
use Rattle.auc_world.specs.declared.net.Session.{Session}

-- ---- servers

-- what a server took up again, if it did: it does so once at most, and never forgets it
abbrev pub resumed_in : Option ServerEnd → List Resumed
resumed_in None = []
resumed_in (Some s) = option_to_list (resumed_of s)

-- what the servers of some sessions took up again
abbrev pub resumptions : List Session → List Resumed
resumptions sessions = flat_map (λ session. resumed_in session.server) sessions

-- two of one subscriber have different identities
abbrev pub AreApart : Resumed → Resumed → Type 0
AreApart r other = r.sub ≡ other.sub → r.context.identity ≢ other.context.identity

-- no identity is resumed twice
abbrev pub AreResumedOnce : List Resumed → Type 0
AreResumedOnce all = AllPairs AreApart all

abbrev pub resumed_for : ℕ → Option Resumed → List Used
resumed_for sub None = []
resumed_for sub (Some r) = if r.sub == sub then used_by r.context.counter r.context ∷ [] else []

-- the counters of one method of a subscriber that servers resumed
abbrev pub counters_in : Method → ℕ → Option ServerEnd → List Used
counters_in m sub None = []
counters_in m sub (Some s) = if same_method s.options.method m then resumed_for sub (resumed_of s) else []

abbrev pub counters_resumed : Method → ℕ → List Session → List Used
counters_resumed m sub sessions = flat_map (λ session. counters_in m sub session.server) sessions

-- ---- devices

abbrev pub counter_given : Decrypted → Option ℕ
counter_given decrypted.Unreadable = None
counter_given (decrypted.Attributes given) = given.counter

abbrev pub counter_used : Option Context → Option ℕ → List Used
counter_used (Some c) (Some counter) = used_by counter c ∷ []
counter_used _ _ = []

-- the counter that a peer accepted, under the context that its device had then: only a peer that accepted one renames the context
-- at Success, and it accepts no other one and no challenge after that
abbrev pub accepted_for : NextContext → Peer → List Used
accepted_for next.Same p = []
accepted_for (next.New c) p = []
accepted_for (next.Renamed from to) p = counter_used (resumed_from p.source) (counter_given p.inner)

-- the counter of one method that the peer of a session accepted at the device of a subscriber
abbrev pub accepted_of : Method → ℕ → Session → List Used
accepted_of m sub session =
    if session.sub == sub && same_method session.peer.options.method m then accepted_for session.peer.next session.peer else []

abbrev pub counters_accepted : Method → ℕ → List Session → List Used
counters_accepted m sub sessions = flat_map (accepted_of m sub) sessions

-- ---- the identity of an acceptance

-- a peer accepts a counter only under the identity of its device's context, as it stands at that moment (RFC 4187 §5.3)
abbrev pub AcceptsItsOwn : Setting → Net → Delivery → ToldEvent → Option Subscription → Type 0
AcceptsItsOwn set w d told None = Unit {0}
AcceptsItsOwn set w d told (Some device) =
    (counter : ℕ) → (peer_turn set device (keeps_at w d.session.device) d.session told).1.notes.counter ≡ Some (counts.Taken counter)
    → MayResume (keeps_at w d.session.device) d.session.peer counter

abbrev pub AcceptsIn : Setting → Net → ToldEvent → Option Delivery → Type 0
AcceptsIn set w told None = Unit {0}
AcceptsIn set w told (Some d) = AcceptsItsOwn set w d told (slice_get w.devices d.session.device)

abbrev pub EachAcceptanceIsOwn : Type 0
EachAcceptanceIsOwn = (set : Setting) (w : Net) (session packet : ℕ) (told : ToldEvent) → AcceptsIn set w told (delivery_in w session packet)
