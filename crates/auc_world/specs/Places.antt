-- Where the contexts of one method are: in the store of a home or on a device, and in the sessions of a job, each of which leaves
-- its context there if it succeeds; and the moves that events make (`auc_reauth`, specs/Machine).
use Rattle.std.specs.Prelude.{◌≡◌, ℕ, zero, suc, ◌==◌, ◌&&◌, true, List, [], ◌++◌, IsPermutation, Option, Some, None, slice_get, if◌then◌else◌}
use Rattle.auc_hmac.specs.declared.method.Method.{Method}
use Rattle.auc_peer.specs.Places.{Originates, place_of}
use Rattle.auc_reauth.specs.Device.{is_open}
use Rattle.auc_reauth.specs.Machine.{Accept, Adopt, Challenge, HomePast, Lose, Move, Places, Resume, Used, Win}
use Rattle.auc_reauth.specs.Store.{entry}
use Rattle.auc_reauth.specs.declared.context.Context.{Context}
use Rattle.auc_server.specs.Moves.{IsNewName, IsNewOrNone, moved_by, waiting, waiting_at}
use Rattle.auc_server.specs.Ordinals.{home_at, home_place}
use Rattle.auc_server.specs.Server.{ServerEnd}
use Rattle.auc_subs.specs.Setting.{Setting}
use Rattle.auc_server.specs.declared.setting.HomeRow.{HomeRow}
use Rattle.auc_subs.specs.Subscriber.{AreSubscribers}
use Rattle.auc_vector.specs.declared.notes.Notes.{Notes}
use Rattle.auc_vector.specs.declared.notes.NumberNote.TheVariants as number
use Rattle.auc_world.specs.Agreement.{Happening, IsFresh, Noted, Occurs, after, after_one}
use Rattle.auc_world.specs.Came.{TellsNotes, came}
use Rattle.auc_world.specs.Net.{Net, device_place, keeps_at, same_method}
use Rattle.auc_world.specs.Resumption.{counters_accepted, counters_resumed}
use Rattle.auc_world.specs.declared.net.Session.{Session}

-- ---- places

abbrev pub server_leaves : Method → ℕ → List HomeRow → Option ServerEnd → Option Context
server_leaves m place homes None = None
server_leaves m place homes (Some s) = if same_method s.options.method m then waiting_at place homes (waiting s.state) else None

-- the context that the server of a session leaves in the home of a place, if it succeeds next
abbrev pub server_at : Method → ℕ → List HomeRow → Option Session → Option Context
server_at m place homes None = None
server_at m place homes (Some session) = server_leaves m place homes session.server

-- the places of the home of a place: the store, and one for each session of the job
abbrev pub home_places : Method → ℕ → Net → Places
home_places m place w zero = entry m (home_at w.homes place).store
home_places m place w (suc t) = server_at m place w.homes (slice_get w.sessions t)

-- the context that the peer of a session leaves on the device of a place, if it succeeds next
abbrev pub peer_at : Method → ℕ → Option Session → Option Context
peer_at m place None = None
peer_at m place (Some session) =
    if session.device == place && same_method session.peer.options.method m then place_of session.peer else None

-- the places of the device of a place
abbrev pub device_places : Method → ℕ → Net → Places
device_places m place w zero = entry m (keeps_at w place).contexts
device_places m place w (suc t) = peer_at m place (slice_get w.sessions t)

-- ---- moves

-- a home with these places, in which nothing was used so far
abbrev pub only : Places → HomePast
only places = record { place = places; origins = []; given = []; used = [] }

-- at most one move leads from some places to others, and what it uses was used since
pub record MakesOneMove (old new : Places) (before since : List Used) (allowed : Option Move → Type 0) : Type 0 where
  pub move : Option Move
  pub is_allowed : allowed move
  pub places : (i : ℕ) → new i ≡ (moved_by move (only old)).place i
  pub used : IsPermutation ((moved_by move (only old)).used ++ before) since

-- a home's move: a full authentication is of the number that the centre gave, and its counter is the first; each identity is a new
-- name; and no counter is accepted
abbrev pub IsHomeMove : Setting → Method → HomeRow → HomeRow → Notes → Option Move → Type 0
IsHomeMove set m home later notes (Some (Challenge t c)) =
    (notes.number ≡ Some (number.Drew c.origin)) × (c.counter ≡ 1) × IsNewName set.names m home later c.identity
IsHomeMove set m home later notes (Some (Resume t identity)) = IsNewOrNone set.names m home later identity
IsHomeMove set m home later notes (Some (Accept counter)) = ⊥
IsHomeMove set m home later notes (Some (Adopt identity)) = ⊥
IsHomeMove set m home later notes (Some (Win t)) = Unit {0}
IsHomeMove set m home later notes (Some (Lose t)) = Unit {0}
IsHomeMove set m home later notes None = Unit {0}

-- a device's move: a full authentication is of the SQN that the USIM accepted, and its counter is the first; a counter that is
-- accepted is open; and nothing is resumed
abbrev pub IsDeviceMove : Places → Notes → Option Move → Type 0
IsDeviceMove places notes (Some (Challenge t c)) = Originates notes c × (c.counter ≡ 1)
IsDeviceMove places notes (Some (Accept counter)) = is_open counter (places zero) ≡ true
IsDeviceMove places notes (Some (Resume t identity)) = ⊥
IsDeviceMove places notes (Some (Adopt identity)) = Unit {0}
IsDeviceMove places notes (Some (Win t)) = Unit {0}
IsDeviceMove places notes (Some (Lose t)) = Unit {0}
IsDeviceMove places notes None = Unit {0}

-- ---- laws

-- what a network does to the contexts of a method in a subscriber's home, which stands at a place
abbrev pub HomeMoves : Setting → Method → ℕ → ℕ → Net → Net → Notes → Type 0
HomeMoves set m sub place w new notes =
    MakesOneMove (home_places m place w) (home_places m place new) (counters_resumed m sub w.sessions) (counters_resumed m sub new.sessions)
    (IsHomeMove set m (home_at w.homes place) (home_at new.homes place) notes)

-- and to those on a subscriber's device, which stands at a place
abbrev pub DeviceMoves : Method → ℕ → ℕ → Net → Net → Notes → Type 0
DeviceMoves m sub place w new notes =
    MakesOneMove (device_places m place w) (device_places m place new) (counters_accepted m sub w.sessions) (counters_accepted m sub new.sessions)
    (IsDeviceMove (device_places m place w) notes)

-- numbers that are released outside the sessions move nothing
abbrev pub EachMoves : Setting → Net → Happening → (Net → Net → Notes → Type 0) → Type 0
EachMoves set w (Occurs e told) moves = moves w (after_one set w (Occurs e told)) told.notes
EachMoves set w (Noted number) moves = Unit {0}

-- after whatever events, an event makes at most one move in each home
abbrev pub EachEventMovesHomesOnce : Type 0
EachEventMovesHomesOnce = (set : Setting) (w : Net) (hs : List Happening) (h : Happening) (m : Method) (sub place : ℕ) → IsFresh w
    → home_place w.homes sub ≡ Some place → EachMoves set (after set w hs) h (HomeMoves set m sub place)

-- the answers that are told of an event are those of its note
abbrev pub TellsItsNotes : Setting → Net → Happening → Type 0
TellsItsNotes set w (Occurs e told) = TellsNotes told (came set w e told)
TellsItsNotes set w (Noted number) = Unit {0}

-- and at most one on each device
abbrev pub EachEventMovesDevicesOnce : Type 0
EachEventMovesDevicesOnce = (set : Setting) (w : Net) (hs : List Happening) (h : Happening) (m : Method) (sub place : ℕ) → IsFresh w
    → AreSubscribers set.rows → device_place set.rows w.devices sub ≡ Some place → TellsItsNotes set (after set w hs) h
    → EachMoves set (after set w hs) h (DeviceMoves m sub place)
