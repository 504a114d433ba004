-- A turn of a server: what it needs, and what it comes to.
use Rattle.std.specs.Prelude.{◌≡◌, ℕ, ◌<◌, Bool, true, false, List, [], length, Option, Some, None, All}
use Rattle.std.specs.Option.{is_some}
use Rattle.auc_memory.specs.declared.stop.Stop.{Stop}
use Rattle.auc_history.specs.declared.entry.Entry.{Entry}
use Rattle.auc_packet.specs.Received.{Seen, IsReceived}
use Rattle.auc_subs.specs.Subscriber.{top_at}
use Rattle.auc_subs.specs.declared.row.Row as rows
use Rattle.auc_vector.specs.Notes.{Asking, AskedCentre}
use Rattle.auc_vector.specs.declared.notes.Notes.{Notes}
use Rattle.auc_vector.specs.declared.notes.ResyncNote.{ResyncNote}
use Rattle.auc_vector.specs.declared.notes.ResyncNote.TheVariants as resync
use Rattle.auc_vector.specs.declared.turn.Step.{Step}
use Rattle.auc_vector.specs.declared.turn.Step.TheVariants as step
use Rattle.auc_vector.specs.declared.turn.Turn.{Turn}
use Rattle.auc_server.specs.Replies.{Replies}
use Rattle.auc_server.specs.Rows.{is_held, server_row}
use Rattle.auc_server.specs.Server.{ServerEnd, challenged_of, resumed_of}
use Rattle.auc_subs.specs.Setting.{Setting}
use Rattle.auc_server.specs.Table.{homes_after, server_step}
use Rattle.auc_server.specs.declared.rows.Row.{Row}
use Rattle.auc_server.specs.declared.rows.Row.TheVariants as row
use Rattle.auc_server.specs.declared.reply.Reply.{Reply}
use Rattle.auc_server.specs.declared.server.Challenged.{Challenged}
use Rattle.auc_server.specs.declared.server.Resumed.{Resumed}
use Rattle.auc_server.specs.declared.setting.HomeRow.{HomeRow}
use Rattle.auc_vector.specs.declared.why.ServerWhy.{ServerWhy}

-- a home: a row of the subscribers, and a subscriber of the centre with the row's greatest number
pub record IsHome (all : List rows.Row) (subs : ℕ) (top : ℕ → ℕ) (sub : ℕ) : Type 0 where
  pub listed : sub < length all
  pub known : sub < subs
  pub greatest : top sub ≡ top_at all sub

-- a challenged subscriber is one of the homes
abbrev pub IsHeld : List HomeRow → Option Challenged → Type 0
IsHeld homes None = Unit {0}
IsHeld homes (Some sent) = is_held homes sent.sub ≡ true

-- so is a subscriber that re-authenticates
abbrev pub IsHeldToo : List HomeRow → Option Resumed → Type 0
IsHeldToo homes None = Unit {0}
IsHeldToo homes (Some r) = is_held homes r.sub ≡ true

-- what a server needs of what it is served with
pub record IsServed (all : List rows.Row) (subs : ℕ) (top : ℕ → ℕ) (homes : List HomeRow) (s : ServerEnd) : Type 0 where
  pub each : All (λ home. IsHome all subs top home.sub) homes
  pub held : IsHeld homes (challenged_of s)
  pub resumed : IsHeldToo homes (resumed_of s)

-- a centre that was only asked: its subscribers, their greatest numbers and the borrow that it holds stay
pub record OnlyAsks {S : Type 0} (subs : S → ℕ) (top : S → ℕ → ℕ) (name : S → ℕ) (old new : S) : Type 0 where
  pub subs_stay : subs new ≡ subs old
  pub tops_stay : (i : ℕ) → top new i ≡ top old i
  pub name_stays : name new ≡ name old

-- what a row asks the centre for
abbrev pub asking : Row → Option Asking
asking (row.Challenge sub) = Some (record { sub = sub; reported = None })
asking (row.TooSmall sub) = Some (record { sub = sub; reported = None })
asking (row.Resynchronise sub seq) = Some (record { sub = sub; reported = Some seq })
asking other = None

-- the bytes that a step sends, none if it sends nothing
abbrev pub bytes_of : Step ServerWhy → List ℕ
bytes_of (step.Sent bytes) = bytes
bytes_of (step.Ended result bytes) = bytes
bytes_of (step.Ignored cause) = []

-- whether a new challenge follows a resynchronisation: the centre's number moved or is in range, and isn't too far above
-- the SEQ that the USIM reported (TS 33.102 §6.3.5)
abbrev pub challenges_again : Option ResyncNote → Bool
challenges_again (Some (resync.Moved seen seq)) = true
challenges_again (Some (resync.InRange seen seq)) = true
challenges_again other = false

-- whether a turn needs a number: its row challenges a subscriber, at first, after a counter that was too small or after a
-- resynchronisation (RFC 4187 §3, §5.5 and §9.6)
abbrev pub needs_number : Row → Notes → Bool
needs_number (row.Challenge sub) notes = true
needs_number (row.TooSmall sub) notes = true
needs_number (row.Resynchronise sub seq) notes = challenges_again notes.resync
needs_number other notes = false

-- a number was asked for exactly if the turn needs one
abbrev pub AsksAsNeeded : Row → Notes → Type 0
AsksAsNeeded r notes = is_some notes.number ≡ needs_number r notes

-- bytes are received as something, and as some reply to a re-authentication; new state, turn and homes are those of the table, the centre answered what the row
-- asked, as the notes say, and a number was asked for exactly if the turn needs one
pub record Steps {S : Type 0} (goes : S → ℕ → List Entry → List (ℕ × Stop) → S → Type 0) (kept : S → ℕ → Option ℕ) (top : S → ℕ → ℕ) (set : Setting) (homes : List HomeRow) (old : ServerEnd) (bytes : List ℕ) (before : S) (new : ServerEnd) (turn : Turn ServerWhy) (later : List HomeRow) (after : S) : Type 0 where
  pub seen : Seen
  pub received : IsReceived seen
  pub of : seen.bytes ≡ bytes
  pub reply : Reply
  pub replies : Replies old.state seen.reading reply
  pub same : (new, turn) ≡ server_step set homes old seen reply turn.notes
  pub homes_are : later ≡ homes_after set homes old seen reply turn.notes
  pub asked : AskedCentre goes kept top (asking (server_row set homes old seen reply)) turn.notes before after
  pub drawn : AsksAsNeeded (server_row set homes old seen reply) turn.notes
