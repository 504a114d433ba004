-- No turn of a server changes its options.
use Rattle.std.proofs.Common.{◌≡◌, ℕ, Bool, true, false, List, Option, Some, None, refl}
use Rattle.auc_packet.specs.Received.{Seen}
use Rattle.auc_vector.specs.declared.notes.Notes.{Notes}
use Rattle.auc_vector.specs.declared.notes.NumberNote.{NumberNote}
use Rattle.auc_vector.specs.declared.notes.NumberNote.TheVariants as number
use Rattle.auc_vector.specs.declared.notes.ResyncNote.{ResyncNote}
use Rattle.auc_vector.specs.declared.notes.ResyncNote.TheVariants as resync
use Rattle.auc_vector.specs.declared.parts.Vector.{Vector}
use Rattle.auc_reauth.specs.declared.context.Context.{Context}
use Rattle.auc_server.specs.Contexts.{context_in, homes_left}
use Rattle.auc_server.specs.Laws.{OptionsStay}
use Rattle.auc_server.specs.Rows.{server_row, text_in}
use Rattle.auc_server.specs.Server.{ServerEnd}
use Rattle.auc_subs.specs.Setting.{Setting}
use Rattle.auc_server.specs.Table.{challenged, challenged_with, gave_up, identified, names_given, noted, packets_after, resumed_with, resynchronised, resynchronising, server_does, server_step, vector_at}
use Rattle.auc_server.specs.declared.naming.GivenNames.{GivenNames}
use Rattle.auc_server.specs.declared.reply.Reply.{Reply}
use Rattle.auc_server.specs.declared.rows.Row.{Row}
use Rattle.auc_server.specs.declared.rows.Row.TheVariants as row
use Rattle.auc_server.specs.declared.server.ServerState.{ServerState}
use Rattle.auc_server.specs.declared.server.ServerState.TheVariants as state
use Rattle.auc_server.specs.declared.setting.HomeRow.{HomeRow}

with_keeps : (realm : List ℕ) (s : ServerEnd) (sub n : ℕ) (v : Option Vector) (given : Option GivenNames) (notes : Notes) (checked : Bool)
    → (challenged_with realm s sub n v given notes checked).0.options ≡ s.options
with_keeps realm s sub n None given notes checked = refl
with_keeps realm s sub n (Some v) given notes checked = refl

challenged_keeps : (set : Setting) (homes : List HomeRow) (s : ServerEnd) (sub : ℕ) (checked : Bool) (resynced : Option ResyncNote) (drawn : Option NumberNote)
    → (challenged set homes s sub checked resynced drawn).0.options ≡ s.options
challenged_keeps set homes s sub checked resynced None = refl
challenged_keeps set homes s sub checked resynced (Some (number.Drew n)) =
    with_keeps set.realm s sub n (vector_at set s.options sub n) (names_given set homes s sub) (noted resynced (Some (number.Drew n))) checked
challenged_keeps set homes s sub checked resynced (Some (number.Exhausted w)) = refl
challenged_keeps set homes s sub checked resynced (Some (number.Withheld n stop)) = refl

resynchronised_keeps : (set : Setting) (homes : List HomeRow) (s : ServerEnd) (sub : ℕ) (resynced : Option ResyncNote) (drawn : Option NumberNote) → (resynchronised set homes s sub resynced drawn).0.options ≡ s.options
resynchronised_keeps set homes s sub None drawn = refl
resynchronised_keeps set homes s sub (Some resync.BadAuts) drawn = refl
resynchronised_keeps set homes s sub (Some (resync.Beyond seen seq)) drawn = refl
resynchronised_keeps set homes s sub (Some (resync.InRange seen seq)) drawn = challenged_keeps set homes (resynchronising s) sub false (Some (resync.InRange seen seq)) drawn
resynchronised_keeps set homes s sub (Some (resync.Moved seen seq)) drawn = challenged_keeps set homes (resynchronising s) sub false (Some (resync.Moved seen seq)) drawn

resumed_keeps : (set : Setting) (homes : List HomeRow) (s : ServerEnd) (text : List ℕ) (packets : List (List ℕ)) (sub : ℕ) (c : Option Context)
    → (resumed_with set homes s text packets sub c).0.options ≡ s.options
resumed_keeps set homes s text packets sub None = refl
resumed_keeps set homes s text packets sub (Some c) = refl

does_keeps : (set : Setting) (homes : List HomeRow) (s : ServerEnd) (text : List ℕ) (packets : List (List ℕ)) (r : Row) (notes : Notes) → (server_does set homes s text packets r notes).0.options ≡ s.options
does_keeps set homes s text packets (row.Challenge sub) notes = challenged_keeps set homes (identified s text packets) sub false None notes.number
does_keeps set homes s text packets (row.Resume sub) notes =
    resumed_keeps set (homes_left s.options.method text homes sub) s text packets sub (context_in s.options.method text homes sub)
does_keeps set homes s text packets (row.TooSmall sub) notes = challenged_keeps set homes s sub true None notes.number
does_keeps set homes s text packets (row.Resynchronise sub seq) notes = resynchronised_keeps set homes s sub notes.resync notes.number
does_keeps set homes s text packets other notes = refl

-- after a turn
pub turn_options : (set : Setting) (homes : List HomeRow) (s : ServerEnd) (seen : Seen) (said : Reply) (notes : Notes) → (server_step set homes s seen said notes).0.options ≡ s.options
turn_options set homes s seen said notes =
    does_keeps set homes s (text_in seen.reading) (packets_after s seen (server_row set homes s seen said)) (server_row set homes s seen said) notes

gave_up_keeps : (s : ServerEnd) (now : ServerState) → (gave_up s now).0.options ≡ s.options
gave_up_keeps s state.AwaitIdentity = refl
gave_up_keeps s (state.Await kind) = refl
gave_up_keeps s (state.AwaitChallenge sent before) = refl
gave_up_keeps s (state.AwaitReauth sent) = refl
gave_up_keeps s (state.Notifying why last) = refl
gave_up_keeps s (state.Ended result last) = refl

-- after the server gave up
pub gave_up_options : (s : ServerEnd) → (gave_up s s.state).0.options ≡ s.options
gave_up_options s = gave_up_keeps s s.state

pub options_stay : OptionsStay
options_stay = record { turn = turn_options; given_up = gave_up_options }
