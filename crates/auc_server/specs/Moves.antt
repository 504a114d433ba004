-- The moves of contexts that the turns of a server make (`auc_reauth`, specs/Machine), at each home and for the session's method.
use Rattle.std.specs.Prelude.{◌≡◌, ℕ, zero, suc, ◌<◌, ◌≤◌, ◌==◌, Bool, false, List, Option, Some, None, if◌then◌else◌}
use Rattle.auc_hmac.specs.declared.method.Method.{Method}
use Rattle.auc_ident.specs.Names.{name_text}
use Rattle.auc_ident.specs.declared.names.NameKind.TheVariants as kinds
use Rattle.auc_packet.specs.Received.{Seen}
use Rattle.auc_reauth.specs.Machine.{Challenge, HomePast, Lose, Move, Resume, Win, moved}
use Rattle.auc_reauth.specs.Store.{entry}
use Rattle.auc_reauth.specs.declared.context.Context.{Context}
use Rattle.auc_vector.specs.declared.notes.Notes.{Notes}
use Rattle.auc_vector.specs.declared.notes.NumberNote.TheVariants as number
use Rattle.auc_server.specs.Contexts.{context_after, won_context}
use Rattle.auc_server.specs.Ordinals.{home_at, home_place}
use Rattle.auc_server.specs.Server.{ServerEnd}
use Rattle.auc_subs.specs.Setting.{Setting}
use Rattle.auc_server.specs.Table.{homes_after, server_step}
use Rattle.auc_server.specs.declared.reply.Reply.{Reply}
use Rattle.auc_server.specs.declared.server.ServerState.{ServerState}
use Rattle.auc_server.specs.declared.server.ServerState.TheVariants as state
use Rattle.auc_server.specs.declared.setting.HomeRow.{HomeRow}

-- ---- what a session would leave

-- a context, if there is one, with its subscriber
abbrev pub of_sub : ℕ → Option Context → Option (ℕ × Context)
of_sub sub None = None
of_sub sub (Some c) = Some (sub, c)

-- the context that a session leaves if it succeeds now
abbrev pub waiting : ServerState → Option (ℕ × Context)
waiting (state.AwaitChallenge sent before) = of_sub sent.sub (won_context sent)
waiting (state.AwaitReauth sent) = of_sub sent.sub (context_after sent)
waiting other = None

abbrev pub is_at : ℕ → Option ℕ → Bool
is_at place None = false
is_at place (Some p) = p == place

-- the same for the home at a place
abbrev pub waiting_at : ℕ → List HomeRow → Option (ℕ × Context) → Option Context
waiting_at place homes None = None
waiting_at place homes (Some c) = if is_at place (home_place homes c.0) then Some c.1 else None

-- ---- places

-- the places of a home: the store has the context of the session's method, and session t has what it would leave
pub record HomeStands (t place : ℕ) (homes : List HomeRow) (s : ServerEnd) (w : HomePast) : Type 0 where
  pub store : w.place zero ≡ entry s.options.method (home_at homes place).store
  pub session : w.place (suc t) ≡ waiting_at place homes (waiting s.state)

-- an identity that a turn gives: the name of an ordinal above the home's last one before the turn, and at most the last one
-- after it
pub record IsNewName (names : List ℕ) (by : Method) (home later : HomeRow) (identity : List ℕ) : Type 0 where
  pub ordinal : ℕ
  pub above : home.ordinals < ordinal
  pub used : ordinal ≤ later.ordinals
  pub is : identity ≡ name_text names kinds.Reauth by home.sub ordinal

abbrev pub IsNewOrNone : List ℕ → Method → HomeRow → HomeRow → Option (List ℕ) → Type 0
IsNewOrNone names by home later None = Unit {0}
IsNewOrNone names by home later (Some identity) = IsNewName names by home later identity

-- a move of session t of a server, as a turn's notes tell it: a Challenge has a number that was drawn in the turn and a new name,
-- and the counter of a context that is taken up again is noted
abbrev pub IsOf : ℕ → List ℕ → Method → HomeRow → HomeRow → Notes → HomePast → Option Move → Type 0
IsOf t names by home later notes w None = Unit {0}
IsOf t names by home later notes w (Some (Challenge u c)) =
    (u ≡ t) × (notes.number ≡ Some (number.Drew c.origin)) × IsNewName names by home later c.identity
IsOf t names by home later notes w (Some (Resume u identity)) =
    (u ≡ t) × (c : Context) × (w.place zero ≡ Some c) × (notes.resumed ≡ Some c.counter) × IsNewOrNone names by home later identity
IsOf t names by home later notes w (Some (Win u)) = u ≡ t
IsOf t names by home later notes w (Some (Lose u)) = u ≡ t
IsOf t names by home later notes w (Some other) = ⊥

abbrev pub moved_by : Option Move → HomePast → HomePast
moved_by None w = w
moved_by (Some m) w = moved m w

-- one move of session t, or none
pub record Makes (t place : ℕ) (set : Setting) (homes later : List HomeRow) (new : ServerEnd) (notes : Notes) (w : HomePast) : Type 0 where
  pub move : Option Move
  pub of : IsOf t set.names new.options.method (home_at homes place) (home_at later place) notes w move
  pub stands : HomeStands t place later new (moved_by move w)

-- each turn makes at most one move at each home
abbrev pub EachTurnMakesOneMove : Type 0
EachTurnMakesOneMove = (set : Setting) (homes : List HomeRow) (s : ServerEnd) (seen : Seen) (said : Reply) (notes : Notes) (t place : ℕ) (w : HomePast)
    → HomeStands t place homes s w
    → Makes t place set homes (homes_after set homes s seen said notes) (server_step set homes s seen said notes).0 (server_step set homes s seen said notes).1.notes w
