-- What a turn of a peer does to the contexts of its device (RFC 4187 §5.1 and §5.3): at most one move of the places where a
-- context may be.
use Rattle.std.specs.Prelude.{◌≡◌, ◌≢◌, ℕ, zero, suc, true, List, Option, Some, None}
use Rattle.auc_hmac.specs.declared.method.Method.{Method}
use Rattle.auc_packet.specs.Received.{Seen}
use Rattle.auc_peer.specs.Laws.{kept_after}
use Rattle.auc_peer.specs.Subscription.{Subscription}
use Rattle.auc_peer.specs.Table.{origin_of, peer_step}
use Rattle.auc_peer.specs.declared.decrypted.Decrypted.{Decrypted}
use Rattle.auc_peer.specs.declared.next.NextContext.{NextContext}
use Rattle.auc_peer.specs.declared.next.NextContext.TheVariants as next
use Rattle.auc_peer.specs.Peer.{PeerEnd}
use Rattle.auc_peer.specs.declared.peer.PeerState.{PeerState}
use Rattle.auc_peer.specs.declared.peer.PeerState.TheVariants as state
use Rattle.auc_reauth.specs.Device.{Keeps, is_open}
use Rattle.auc_reauth.specs.Machine.{Accept, Adopt, Challenge, HomePast, Lose, Move, Resume, Win, moved}
use Rattle.auc_reauth.specs.Store.{entry, method_of}
use Rattle.auc_reauth.specs.declared.context.Context.{Context}
use Rattle.auc_vector.specs.declared.notes.CounterNote.TheVariants as counts
use Rattle.auc_vector.specs.declared.notes.Notes.{Notes}
use Rattle.auc_vector.specs.declared.notes.UsimNote.{UsimNote}
use Rattle.auc_vector.specs.declared.notes.UsimNote.TheVariants as note

-- the context that a peer puts into its device's store if its session succeeds
abbrev pub place_in : PeerState → NextContext → Option Context
place_in (state.Answered keys) (next.New c) = Some c
place_in (state.Answered keys) other = None
place_in other following = None

abbrev pub place_of : PeerEnd → Option Context
place_of p = place_in p.state p.next

-- the places show a device's context of a method, and at session t that of a peer
pub record Shows (w : HomePast) (m : Method) (t : ℕ) (keeps : Keeps) (p : PeerEnd) : Type 0 where
  pub store : w.place zero ≡ entry m keeps.contexts
  pub place : w.place (suc t) ≡ place_of p

-- the context that a peer would put is of its method
abbrev pub IsOfMethod : PeerEnd → Type 0
IsOfMethod p = (c : Context) → place_of p ≡ Some c → method_of c.master ≡ p.options.method

-- a new context comes of the SQN that the USIM accepted
pub record Originates (notes : Notes) (c : Context) : Type 0 where
  pub sqn : List ℕ
  pub accepted : notes.usim ≡ Some (note.Accepted sqn)
  pub same : c.origin ≡ origin_of sqn

-- a move is session t's, as a turn's notes tell: a new context comes of the SQN that was accepted, and a counter is accepted
-- that was open
abbrev pub IsMoveOf : ℕ → Option Context → Notes → Option Move → Type 0
IsMoveOf t store notes None = Unit {0}
IsMoveOf t store notes (Some (Challenge other c)) = (other ≡ t) × Originates notes c
IsMoveOf t store notes (Some (Accept counter)) = (notes.counter ≡ Some (counts.Taken counter)) × (is_open counter store ≡ true)
IsMoveOf t store notes (Some (Win other)) = other ≡ t
IsMoveOf t store notes (Some (Lose other)) = other ≡ t
IsMoveOf t store notes (Some (Adopt identity)) = Unit {0}
IsMoveOf t store notes (Some (Resume other identity)) = ⊥

-- the places after a move, if there is one
abbrev pub moved_by : Option Move → HomePast → HomePast
moved_by None w = w
moved_by (Some move) w = moved move w

-- a turn makes at most one move
pub record MovesOnce (t : ℕ) (w : HomePast) (p new : PeerEnd) (notes : Notes) (keeps kept : Keeps) : Type 0 where
  pub move : Option Move
  pub own : IsMoveOf t (entry p.options.method keeps.contexts) notes move
  pub counted : (counter : ℕ) → notes.counter ≡ Some (counts.Taken counter) → move ≡ Some (Accept counter)
  pub shows : Shows (moved_by move w) p.options.method t kept new
  pub others : (i : ℕ) → i ≢ zero → i ≢ suc t → (moved_by move w).place i ≡ w.place i

abbrev pub EachTurnMovesOnce : Type 0
EachTurnMovesOnce =
    (key : List ℕ) (s : Subscription) (keeps : Keeps) (p : PeerEnd) (seen : Seen) (n : Option UsimNote) (inner : Decrypted) (t : ℕ) (w : HomePast)
    → IsOfMethod p → Shows w p.options.method t keeps p
    → MovesOnce t w p (peer_step key s keeps p seen n inner).0 (peer_step key s keeps p seen n inner).1.notes keeps (kept_after key s keeps p seen n inner)

-- no turn would put a context of another method
abbrev pub EachTurnIsOfMethod : Type 0
EachTurnIsOfMethod =
    (key : List ℕ) (s : Subscription) (keeps : Keeps) (p : PeerEnd) (seen : Seen) (n : Option UsimNote) (inner : Decrypted)
    → IsOfMethod p → IsOfMethod (peer_step key s keeps p seen n inner).0

-- each turn leaves the device's context of the other method as it was
abbrev pub EachTurnLeavesTheOther : Type 0
EachTurnLeavesTheOther =
    (key : List ℕ) (s : Subscription) (keeps : Keeps) (p : PeerEnd) (seen : Seen) (n : Option UsimNote) (inner : Decrypted) (m : Method)
    → IsOfMethod p → m ≢ p.options.method
    → entry m (kept_after key s keeps p seen n inner).contexts ≡ entry m keeps.contexts
