-- For Agreement: a server re-authenticates before it challenges.
use Rattle.std.proofs.Common.{◌≡◌, ℕ, Bool, true, false, List, Option, Some, None, ap, ◌∙◌}
use Rattle.auc_hmac.specs.declared.keys.KeySet.{KeySet}
use Rattle.auc_packet.specs.Received.{Seen}
use Rattle.auc_reauth.specs.declared.context.Context.{Context}
use Rattle.auc_request.specs.declared.identities.IdentityRequest.{IdentityRequest}
use Rattle.auc_server.proofs.Facts.{IsRight, IsRightToo, Says, awaits_challenge, says_row}
use Rattle.auc_server.specs.Contexts.{context_in, homes_left}
use Rattle.auc_server.specs.Laws.{Fits}
use Rattle.auc_server.specs.Rows.{server_row, subscriber_in, text_in}
use Rattle.auc_server.specs.Server.{ServerEnd, challenged_of, resumed_of}
use Rattle.auc_subs.specs.Setting.{Setting}
use Rattle.auc_server.specs.State.{last_of}
use Rattle.auc_server.specs.Table.{asked, challenge_of, challenged, challenged_with, failed, identified, names_given, next_given, noted, notified, packets_after, reauthenticated, resumed_with, resumption, resynchronised, resynchronising, server_does, server_step, silent, succeeded, vector_at}
use Rattle.auc_server.specs.declared.naming.GivenNames.{GivenNames}
use Rattle.auc_server.specs.declared.reply.Reply.{Reply}
use Rattle.auc_server.specs.declared.rows.Row.{Row}
use Rattle.auc_server.specs.declared.rows.Row.TheVariants as row
use Rattle.auc_server.specs.declared.server.Challenged.{Challenged}
use Rattle.auc_server.specs.declared.server.Last.{Last}
use Rattle.auc_server.specs.declared.server.Resumed.{Resumed}
use Rattle.auc_server.specs.declared.server.ServerState.{ServerState}
use Rattle.auc_server.specs.declared.server.ServerState.TheVariants as state
use Rattle.auc_server.specs.declared.setting.HomeRow.{HomeRow}
use Rattle.auc_vector.specs.declared.why.ServerWhy.{ServerWhy}
use Rattle.auc_vector.specs.declared.why.ServerWhy.TheVariants as why
use Rattle.auc_vector.specs.declared.notes.Notes.{Notes}
use Rattle.auc_vector.specs.declared.notes.NumberNote.{NumberNote}
use Rattle.auc_vector.specs.declared.notes.NumberNote.TheVariants as number
use Rattle.auc_vector.specs.declared.notes.ResyncNote.{ResyncNote}
use Rattle.auc_vector.specs.declared.notes.ResyncNote.TheVariants as resync
use Rattle.auc_vector.specs.declared.parts.Vector.{Vector}
use Rattle.auc_vector.specs.declared.turn.Outcome.TheVariants as outcome

-- if it succeeds after a challenge, it does so under the keys of that
pub record RenewsFirst (s : ServerEnd) : Type 0 where
  pub won : (keys : KeySet) (last : Last) (sent : Challenged) → s.state ≡ state.Ended (outcome.Success keys) last → challenged_of s ≡ Some sent → keys ≡ sent.keys

-- ---- states

-- a state in which Success didn't come
abbrev IsQuiet : ServerState → Type 0
IsQuiet now = (keys : KeySet) (last : Last) → now ≡ state.Ended (outcome.Success keys) last → ⊥

quiet : (s : ServerEnd) → IsQuiet s.state → RenewsFirst s
quiet s q = record { won = λ keys last sent e f. absurd (q keys last e) }

notifying_quiet : (cause : ServerWhy) (before : Last) → IsQuiet (state.Notifying cause before)
notifying_quiet cause before = λ keys last e. cc

failure_quiet : (cause : ServerWhy) (before : Last) → IsQuiet (state.Ended (outcome.Failure cause) before)
failure_quiet cause before = λ keys last e. cc

challenge_quiet : (sent : Challenged) (before : Option Resumed) → IsQuiet (state.AwaitChallenge sent before)
challenge_quiet sent before = λ keys last e. cc

asked_quiet : (kind : IdentityRequest) → IsQuiet (state.Await kind)
asked_quiet kind = λ keys last e. cc

reauth_quiet : (sent : Resumed) → IsQuiet (state.AwaitReauth sent)
reauth_quiet sent = λ keys last e. cc

none_some : (c : Option Challenged) (sent : Challenged) → c ≡ None → c ≡ Some sent → ⊥
none_some c sent e f = cc

same_sent : (c : Option Challenged) (a b : Challenged) → c ≡ Some a → c ≡ Some b → a.keys ≡ b.keys
same_sent c a b e f = cc

same_keys : (a b : KeySet) (before last : Last) → state.Ended (outcome.Success a) before ≡ state.Ended (outcome.Success b) last → b ≡ a
same_keys a b before last e = cc

-- ---- rows

with_renews : (realm : List ℕ) (s : ServerEnd) (sub n : ℕ) (v : Option Vector) (given : Option GivenNames) (notes : Notes) (checked : Bool) → RenewsFirst s
    → RenewsFirst (challenged_with realm s sub n v given notes checked).0
with_renews realm s sub n None given notes checked f = f
with_renews realm s sub n (Some v) given notes checked f = quiet (challenged_with realm s sub n (Some v) given notes checked).0 (challenge_quiet (challenge_of s sub n v (next_given given)) (resumed_of s))

challenged_renews : (set : Setting) (homes : List HomeRow) (s : ServerEnd) (sub : ℕ) (checked : Bool) (resynced : Option ResyncNote) (drawn : Option NumberNote) → RenewsFirst s
    → RenewsFirst (challenged set homes s sub checked resynced drawn).0
challenged_renews set homes s sub checked resynced None f = f
challenged_renews set homes s sub checked resynced (Some (number.Drew n)) f =
    with_renews set.realm s sub n (vector_at set s.options sub n) (names_given set homes s sub) (noted resynced (Some (number.Drew n))) checked f
challenged_renews set homes s sub checked resynced (Some (number.Exhausted w)) f =
    quiet (challenged set homes s sub checked resynced (Some (number.Exhausted w))).0 (notifying_quiet (why.Exhausted w) (last_of s.state))
challenged_renews set homes s sub checked resynced (Some (number.Withheld n stop)) f =
    quiet (challenged set homes s sub checked resynced (Some (number.Withheld n stop))).0 (notifying_quiet (why.Stopped n stop) (last_of s.state))

again : (s : ServerEnd) → RenewsFirst s → RenewsFirst (resynchronising s)
again s f = record { won = f.won }

identified_renews : (s : ServerEnd) (text : List ℕ) (packets : List (List ℕ)) → RenewsFirst s → RenewsFirst (identified s text packets)
identified_renews s text packets f = record { won = f.won }

resynchronised_renews : (set : Setting) (homes : List HomeRow) (s : ServerEnd) (sub : ℕ) (resynced : Option ResyncNote) (drawn : Option NumberNote) → RenewsFirst s
    → RenewsFirst (resynchronised set homes s sub resynced drawn).0
resynchronised_renews set homes s sub None drawn f = f
resynchronised_renews set homes s sub (Some resync.BadAuts) drawn f = f
resynchronised_renews set homes s sub (Some (resync.Beyond seen seq)) drawn f =
    quiet (resynchronised set homes s sub (Some (resync.Beyond seen seq)) drawn).0 (notifying_quiet (why.Beyond seen seq) (last_of s.state))
resynchronised_renews set homes s sub (Some (resync.InRange seen seq)) drawn f =
    challenged_renews set homes (resynchronising s) sub false (Some (resync.InRange seen seq)) drawn (again s f)
resynchronised_renews set homes s sub (Some (resync.Moved seen seq)) drawn f =
    challenged_renews set homes (resynchronising s) sub false (Some (resync.Moved seen seq)) drawn (again s f)

succeeded_renews : (s : ServerEnd) (seen : Seen) (sent : Challenged) → IsRight s seen sent → RenewsFirst (succeeded s sent).0
succeeded_renews s seen sent right = record {
  won = λ keys last other g h. same_keys sent.keys keys (last_of s.state) last g ∙ same_sent (challenged_of s) sent other (awaits_challenge s sent right.before right.waits) h;
}

reauthenticated_renews : (s : ServerEnd) (seen : Seen) (sent : Resumed) → IsRightToo s seen sent → RenewsFirst (reauthenticated s sent).0
reauthenticated_renews s seen sent right = record {
  won = λ keys last other g h. absurd (none_some (challenged_of s) other (ap (λ (now : ServerState). (last_of now).challenged) right.waits) h);
}

resumed_renews : (set : Setting) (homes : List HomeRow) (s : ServerEnd) (text : List ℕ) (packets : List (List ℕ)) (sub : ℕ) (c : Option Context) → RenewsFirst s
    → RenewsFirst (resumed_with set homes s text packets sub c).0
resumed_renews set homes s text packets sub None f = f
resumed_renews set homes s text packets sub (Some c) f = quiet (resumed_with set homes s text packets sub (Some c)).0 (reauth_quiet (resumption set homes s sub c))

does_renews : (found : Option ℕ) (set : Setting) (homes : List HomeRow) (s : ServerEnd) (seen : Seen) (text : List ℕ) (packets : List (List ℕ)) (r : Row) (notes : Notes) → Says found s seen r → Fits s
    → RenewsFirst s → RenewsFirst (server_does set homes s text packets r notes).0
does_renews found set homes s seen text packets (row.Ignore cause) notes says fits f = f
does_renews found set homes s seen text packets (row.Ask kind) notes says fits f = quiet (asked s text packets kind).0 (asked_quiet kind)
does_renews found set homes s seen text packets row.UnknownIdentity notes says fits f =
    quiet (notified (identified s text packets) why.UnknownIdentity silent false).0 (notifying_quiet why.UnknownIdentity (last_of s.state))
does_renews found set homes s seen text packets (row.Challenge sub) notes says fits f =
    challenged_renews set homes (identified s text packets) sub false None notes.number (identified_renews s text packets f)
does_renews found set homes s seen text packets (row.Resume sub) notes says fits f =
    resumed_renews set (homes_left s.options.method text homes sub) s text packets sub (context_in s.options.method text homes sub) f
does_renews found set homes s seen text packets (row.TooSmall sub) notes says fits f = challenged_renews set homes s sub true None notes.number f
does_renews found set homes s seen text packets row.WrongCounter notes says fits f = quiet (notified s why.WrongCounter silent true).0 (notifying_quiet why.WrongCounter (last_of s.state))
does_renews found set homes s seen text packets (row.Reauthenticated sent) notes says fits f = reauthenticated_renews s seen sent says
does_renews found set homes s seen text packets row.WrongMac notes says fits f = quiet (notified s why.WrongMac silent false).0 (notifying_quiet why.WrongMac (last_of s.state))
does_renews found set homes s seen text packets row.WrongRes notes says fits f = quiet (notified s why.WrongRes silent true).0 (notifying_quiet why.WrongRes (last_of s.state))
does_renews found set homes s seen text packets row.WrongCheckcode notes says fits f = quiet (notified s why.WrongCheckcode silent true).0 (notifying_quiet why.WrongCheckcode (last_of s.state))
does_renews found set homes s seen text packets (row.Success sent) notes says fits f = succeeded_renews s seen sent says
does_renews found set homes s seen text packets row.SecondSync notes says fits f = quiet (notified s why.SecondSync silent false).0 (notifying_quiet why.SecondSync (last_of s.state))
does_renews found set homes s seen text packets row.BadAuts notes says fits f =
    quiet (notified s why.BadAuts (noted (Some resync.BadAuts) None) false).0 (notifying_quiet why.BadAuts (last_of s.state))
does_renews found set homes s seen text packets (row.Resynchronise sub seq) notes says fits f = resynchronised_renews set homes s sub notes.resync notes.number f
does_renews found set homes s seen text packets row.Rejected notes says fits f = quiet (failed s why.Rejected).0 (failure_quiet why.Rejected (last_of s.state))
does_renews found set homes s seen text packets (row.ClientError code) notes says fits f = quiet (failed s (why.ClientError code)).0 (failure_quiet (why.ClientError code) (last_of s.state))
does_renews found set homes s seen text packets (row.Notified cause) notes says fits f = quiet (failed s cause).0 (failure_quiet cause (last_of s.state))

pub turn_renews : (set : Setting) (homes : List HomeRow) (s : ServerEnd) (seen : Seen) (said : Reply) (notes : Notes) → Fits s → RenewsFirst s
    → RenewsFirst (server_step set homes s seen said notes).0
turn_renews set homes s seen said notes fits f =
    does_renews (subscriber_in s.options.method set homes (text_in seen.reading)) set homes s seen (text_in seen.reading)
    (packets_after s seen (server_row set homes s seen said)) (server_row set homes s seen said) notes (says_row set homes s seen said) fits f
