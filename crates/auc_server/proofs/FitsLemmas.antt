-- No turn makes the keys of a server others than those of their inputs.
use Rattle.std.proofs.Common.{◌≡◌, ◌⊎◌, inl, inr, ℕ, Bool, true, false, List, Option, Some, None, refl}
use Rattle.auc_packet.specs.Received.{Seen}
use Rattle.auc_packet.specs.Spelling.{packet_text}
use Rattle.auc_packet.specs.declared.packet.Packet.TheVariants as packet
use Rattle.auc_vector.specs.Keys.{keys_of, master_of}
use Rattle.auc_vector.specs.declared.notes.Notes.{Notes}
use Rattle.auc_vector.specs.declared.notes.NumberNote.{NumberNote}
use Rattle.auc_vector.specs.declared.notes.NumberNote.TheVariants as number
use Rattle.auc_vector.specs.declared.notes.ResyncNote.{ResyncNote}
use Rattle.auc_vector.specs.declared.notes.ResyncNote.TheVariants as resync
use Rattle.auc_vector.specs.declared.parts.Vector.{Vector}
use Rattle.auc_vector.specs.declared.turn.Outcome.{Outcome}
use Rattle.auc_vector.specs.declared.turn.Outcome.TheVariants as outcome
use Rattle.auc_hmac.specs.declared.keys.KeySet.{KeySet}
use Rattle.auc_reauth.specs.declared.context.Context.{Context}
use Rattle.auc_server.specs.Contexts.{context_in, homes_left}
use Rattle.auc_server.specs.Laws.{EachTurnFits, Fits, Has, HasRenewed, awaits_identity}
use Rattle.auc_server.specs.Rows.{server_row, subscriber_in, text_in}
use Rattle.auc_server.specs.Server.{ServerEnd, challenged_of, resumed_of, started}
use Rattle.auc_server.specs.State.{last_of}
use Rattle.auc_subs.specs.Setting.{Setting}
use Rattle.auc_server.specs.Table.{asked, challenge_of, challenged, challenged_with, ended, failed, gave_up, identified, names_given, next_given, noted, notified, packets_after, reauthenticated, resumed_keys, resumed_with, resumption, resynchronised, resynchronising, server_does, silent, succeeded, vector_at}
use Rattle.auc_request.specs.declared.identities.IdentityRequest.{IdentityRequest}
use Rattle.auc_server.specs.declared.naming.GivenNames.{GivenNames}
use Rattle.auc_server.specs.declared.options.ServerOptions.{ServerOptions}
use Rattle.auc_server.specs.declared.rows.Row.{Row}
use Rattle.auc_server.specs.declared.rows.Row.TheVariants as row
use Rattle.auc_server.specs.declared.server.Challenged.{Challenged}
use Rattle.auc_server.specs.declared.server.Last.{Last}
use Rattle.auc_server.specs.declared.server.Resumed.{Resumed}
use Rattle.auc_server.specs.declared.server.ServerState.{ServerState}
use Rattle.auc_server.specs.declared.server.ServerState.TheVariants as state
use Rattle.auc_server.specs.declared.setting.HomeRow.{HomeRow}
use Rattle.auc_vector.specs.declared.why.ServerWhy.{ServerWhy}
use Rattle.auc_vector.specs.declared.why.ServerWhy.TheVariants as why
use Rattle.auc_server.proofs.LawLemmas.{IsRight, IsRightToo, Says, awaits_challenge, awaits_reauth, none_challenged, says_row}

no_success : (cause : ServerWhy) (keys : KeySet) (l last : Last) → state.Notifying cause l ≡ state.Ended (outcome.Success keys) last → ⊥
no_success cause keys l last e = cc

no_failure : (cause : ServerWhy) (keys : KeySet) → ◌≡◌ {A = Outcome ServerWhy} (outcome.Failure cause) (outcome.Success keys) → ⊥
no_failure cause keys e = cc

no_success_awaited : (sent : Challenged) (before : Option Resumed) (keys : KeySet) (last : Last) → state.AwaitChallenge sent before ≡ state.Ended (outcome.Success keys) last → ⊥
no_success_awaited sent before keys last e = cc

same_result : (a b : Outcome ServerWhy) (l last : Last) → state.Ended a l ≡ state.Ended b last → a ≡ b
same_result a b l last e = cc

same_keys : (a b : KeySet) → ◌≡◌ {A = Outcome ServerWhy} (outcome.Success a) (outcome.Success b) → b ≡ a
same_keys a b e = cc

pub no_sent : (c : Option Challenged) (sent : Challenged) → c ≡ None → c ≡ Some sent → ⊥
no_sent c sent e f = cc

pub no_resumed : (c : Option Resumed) (sent : Resumed) → c ≡ None → c ≡ Some sent → ⊥
no_resumed c sent e f = cc

no_success_resumed : (sent : Resumed) (keys : KeySet) (last : Last) → state.AwaitReauth sent ≡ state.Ended (outcome.Success keys) last → ⊥
no_success_resumed sent keys last e = cc

no_success_waiting : (now : ServerState) (keys : KeySet) (last : Last) → awaits_identity now ≡ true → now ≡ state.Ended (outcome.Success keys) last → ⊥
no_success_waiting now keys last e f = cc

same_sent : (a b : Challenged) → ◌≡◌ {A = Option Challenged} (Some a) (Some b) → b ≡ a
same_sent a b e = cc

no_success_asked : (kind : IdentityRequest) (keys : KeySet) (last : Last) → state.Await kind ≡ state.Ended (outcome.Success keys) last → ⊥
no_success_asked kind keys last e = cc

-- a server that fits, with another identity before its first challenge
identified_fits : (s : ServerEnd) (text : List ℕ) (packets : List (List ℕ)) → awaits_identity s.state ≡ true → Fits (identified s text packets)
identified_fits s text packets e = record {
  keys = λ sent g. absurd (no_sent (challenged_of s) sent (none_challenged s e) g);
  master = λ sent g. absurd (no_sent (challenged_of s) sent (none_challenged s e) g);
  success = λ keys last g. absurd (no_success_waiting s.state keys last e g);
}

asked_fits : (s : ServerEnd) (text : List ℕ) (packets : List (List ℕ)) (kind : IdentityRequest) → Fits (asked s text packets kind).0
asked_fits s text packets kind = record {
  keys = λ sent g. absurd (no_sent None sent refl g);
  master = λ sent g. absurd (no_sent None sent refl g);
  success = λ keys last g. absurd (no_success_asked kind keys last g);
}

notified_fits : (s : ServerEnd) (cause : ServerWhy) (notes : Notes) (checked : Bool) → Fits s → Fits (notified s cause notes checked).0
notified_fits s cause notes checked f = record {
  keys = f.keys;
  master = f.master;
  success = λ keys last e. absurd (no_success cause keys (last_of s.state) last e);
}

ended_fits : (s : ServerEnd) (result : Outcome ServerWhy) (bytes : List ℕ) (checked : Bool)
    → ((keys : KeySet) → result ≡ outcome.Success keys → Has (challenged_of s) keys ⊎ HasRenewed s keys) → Fits s → Fits (ended s result bytes checked).0
ended_fits s result bytes checked has f = record {
  keys = f.keys;
  master = f.master;
  success = λ keys last e. has keys (same_result result (outcome.Success keys) (last_of s.state) last e);
}

keys_are : (s : ServerEnd) (sub n : ℕ) (v : Vector) (next : Option (List ℕ)) (sent : Challenged) → sent ≡ challenge_of s sub n v next
    → sent.keys ≡ keys_of s.options.method s.identity sent.vector.ik sent.vector.ck
keys_are s sub n v next sent e = rw e refl

master_is : (s : ServerEnd) (sub n : ℕ) (v : Vector) (next : Option (List ℕ)) (sent : Challenged) → sent ≡ challenge_of s sub n v next
    → sent.master ≡ master_of s.options.method s.identity sent.vector.ik sent.vector.ck
master_is s sub n v next sent e = rw e refl

sent_fits : (realm : List ℕ) (s : ServerEnd) (sub n : ℕ) (v : Option Vector) (given : Option GivenNames) (notes : Notes) (checked : Bool) → Fits s
    → Fits (challenged_with realm s sub n v given notes checked).0
sent_fits realm s sub n None given notes checked f = f
sent_fits realm s sub n (Some v) given notes checked f = record {
  keys = λ sent g. keys_are s sub n v (next_given given) sent (same_sent (challenge_of s sub n v (next_given given)) sent g);
  master = λ sent g. master_is s sub n v (next_given given) sent (same_sent (challenge_of s sub n v (next_given given)) sent g);
  success = λ keys last e. absurd (no_success_awaited (challenge_of s sub n v (next_given given)) (resumed_of s) keys last e);
}

challenged_fits : (set : Setting) (homes : List HomeRow) (s : ServerEnd) (sub : ℕ) (checked : Bool) (resynced : Option ResyncNote) (drawn : Option NumberNote) → Fits s
    → Fits (challenged set homes s sub checked resynced drawn).0
challenged_fits set homes s sub checked resynced None f = f
challenged_fits set homes s sub checked resynced (Some (number.Drew n)) f =
    sent_fits set.realm s sub n (vector_at set s.options sub n) (names_given set homes s sub) (noted resynced (Some (number.Drew n))) checked f
challenged_fits set homes s sub checked resynced (Some (number.Exhausted w)) f =
    notified_fits s (why.Exhausted w) (noted resynced (Some (number.Exhausted w))) checked f
challenged_fits set homes s sub checked resynced (Some (number.Withheld n stop)) f =
    notified_fits s (why.Stopped n stop) (noted resynced (Some (number.Withheld n stop))) checked f

synced_fits : (s : ServerEnd) → Fits s → Fits (resynchronising s)
synced_fits s f = record { keys = f.keys; master = f.master; success = f.success }

resynchronised_fits : (set : Setting) (homes : List HomeRow) (s : ServerEnd) (sub : ℕ) (resynced : Option ResyncNote) (drawn : Option NumberNote) → Fits s → Fits (resynchronised set homes s sub resynced drawn).0
resynchronised_fits set homes s sub None drawn f = f
resynchronised_fits set homes s sub (Some resync.BadAuts) drawn f = f
resynchronised_fits set homes s sub (Some (resync.Beyond seen seq)) drawn f =
    notified_fits (resynchronising s) (why.Beyond seen seq) (noted (Some (resync.Beyond seen seq)) None) false (synced_fits s f)
resynchronised_fits set homes s sub (Some (resync.InRange seen seq)) drawn f =
    challenged_fits set homes (resynchronising s) sub false (Some (resync.InRange seen seq)) drawn (synced_fits s f)
resynchronised_fits set homes s sub (Some (resync.Moved seen seq)) drawn f =
    challenged_fits set homes (resynchronising s) sub false (Some (resync.Moved seen seq)) drawn (synced_fits s f)

succeeded_fits : (s : ServerEnd) (seen : Seen) (sent : Challenged) → IsRight s seen sent → Fits s → Fits (succeeded s sent).0
succeeded_fits s seen sent right f =
    ended_fits s (outcome.Success sent.keys) (packet_text (packet.Success s.id)) true
    (λ keys g. inl (sent, awaits_challenge s sent right.before right.waits, same_keys sent.keys keys g)) f

renewed_fits : (s : ServerEnd) (seen : Seen) (sent : Resumed) → IsRightToo s seen sent → Fits s → Fits (reauthenticated s sent).0
renewed_fits s seen sent right f =
    ended_fits s (outcome.Success (resumed_keys s sent)) (packet_text (packet.Success s.id)) true
    (λ keys g. inr (sent, awaits_reauth s sent right.waits, same_keys (resumed_keys s sent) keys g)) f

resumed_fits : (set : Setting) (homes : List HomeRow) (s : ServerEnd) (text : List ℕ) (packets : List (List ℕ)) (sub : ℕ) (c : Option Context) → Fits s
    → Fits (resumed_with set homes s text packets sub c).0
resumed_fits set homes s text packets sub None f = f
resumed_fits set homes s text packets sub (Some c) f = record {
  keys = λ sent g. absurd (no_sent None sent refl g);
  master = λ sent g. absurd (no_sent None sent refl g);
  success = λ keys last g. absurd (no_success_resumed (resumption set homes s sub c) keys last g);
}

failed_fits : (s : ServerEnd) (cause : ServerWhy) → Fits s → Fits (failed s cause).0
failed_fits s cause f = ended_fits s (outcome.Failure cause) (packet_text (packet.Failure s.id)) false (λ keys e. absurd (no_failure cause keys e)) f

does_fits : (found : Option ℕ) (set : Setting) (homes : List HomeRow) (s : ServerEnd) (seen : Seen) (text : List ℕ) (packets : List (List ℕ)) (r : Row) (notes : Notes) → Says found s seen r → Fits s → Fits (server_does set homes s text packets r notes).0
does_fits found set homes s seen text packets (row.Ignore cause) notes says f = f
does_fits found set homes s seen text packets (row.Ask kind) notes says f = asked_fits s text packets kind
does_fits found set homes s seen text packets row.UnknownIdentity notes says f = notified_fits (identified s text packets) why.UnknownIdentity silent false (identified_fits s text packets says)
does_fits found set homes s seen text packets (row.Challenge sub) notes says f = challenged_fits set homes (identified s text packets) sub false None notes.number (identified_fits s text packets says.0)
does_fits found set homes s seen text packets (row.Resume sub) notes says f =
    resumed_fits set (homes_left s.options.method text homes sub) s text packets sub (context_in s.options.method text homes sub) f
does_fits found set homes s seen text packets (row.TooSmall sub) notes says f = challenged_fits set homes s sub true None notes.number f
does_fits found set homes s seen text packets row.WrongCounter notes says f = notified_fits s why.WrongCounter silent true f
does_fits found set homes s seen text packets (row.Reauthenticated sent) notes says f = renewed_fits s seen sent says f
does_fits found set homes s seen text packets row.WrongMac notes says f = notified_fits s why.WrongMac silent false f
does_fits found set homes s seen text packets row.WrongRes notes says f = notified_fits s why.WrongRes silent true f
does_fits found set homes s seen text packets row.WrongCheckcode notes says f = notified_fits s why.WrongCheckcode silent true f
does_fits found set homes s seen text packets (row.Success sent) notes says f = succeeded_fits s seen sent says f
does_fits found set homes s seen text packets row.SecondSync notes says f = notified_fits s why.SecondSync silent false f
does_fits found set homes s seen text packets row.BadAuts notes says f = notified_fits s why.BadAuts (noted (Some resync.BadAuts) None) false f
does_fits found set homes s seen text packets (row.Resynchronise sub seq) notes says f = resynchronised_fits set homes s sub notes.resync notes.number f
does_fits found set homes s seen text packets row.Rejected notes says f = failed_fits s why.Rejected f
does_fits found set homes s seen text packets (row.ClientError code) notes says f = failed_fits s (why.ClientError code) f
does_fits found set homes s seen text packets (row.Notified cause) notes says f = failed_fits s cause f

pub each_turn_fits : EachTurnFits
each_turn_fits set homes s seen said notes f =
    does_fits (subscriber_in s.options.method set homes (text_in seen.reading)) set homes s seen (text_in seen.reading)
    (packets_after s seen (server_row set homes s seen said)) (server_row set homes s seen said) notes (says_row set homes s seen said) f

-- ---- beside the table

no_success_begun : (keys : KeySet) (last : Last) → state.AwaitIdentity ≡ state.Ended (outcome.Success keys) last → ⊥
no_success_begun keys last e = cc

-- a server that has just started
pub started_fits : (options : ServerOptions) → Fits (started options)
started_fits options = record {
  keys = λ sent g. absurd (no_sent None sent refl g);
  master = λ sent g. absurd (no_sent None sent refl g);
  success = λ keys last g. absurd (no_success_begun keys last g);
}

no_given_up : (keys : KeySet) (before last : Last) → state.Ended (outcome.Failure why.GivenUp) before ≡ state.Ended (outcome.Success keys) last → ⊥
no_given_up keys before last e = cc

-- one that has given up
pub given_up_fits : (s : ServerEnd) → Fits s → Fits (record s { state = state.Ended (outcome.Failure why.GivenUp) (last_of s.state) })
given_up_fits s f = record {
  keys = f.keys;
  master = f.master;
  success = λ keys last g. absurd (no_given_up keys (last_of s.state) last g);
}

-- one that gives up
pub gave_up_fits : (s : ServerEnd) (now : ServerState) → Fits s → Fits (gave_up s now).0
gave_up_fits s state.AwaitIdentity f = given_up_fits s f
gave_up_fits s (state.Await kind) f = given_up_fits s f
gave_up_fits s (state.AwaitChallenge sent before) f = given_up_fits s f
gave_up_fits s (state.AwaitReauth sent) f = given_up_fits s f
gave_up_fits s (state.Notifying cause last) f = given_up_fits s f
gave_up_fits s (state.Ended result last) f = f
