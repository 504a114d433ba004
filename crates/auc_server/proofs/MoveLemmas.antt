-- What a turn does to the last challenge of a server.
use Rattle.std.proofs.Common.{◌≡◌, ◌⊎◌, ℕ, Bool, true, false, List, Option, Some, None, refl, sym, inl, inr}
use Rattle.auc_packet.specs.Received.{Seen}
use Rattle.auc_vector.specs.Notes.{Asking}
use Rattle.auc_vector.specs.declared.notes.Notes.{Notes}
use Rattle.auc_vector.specs.declared.notes.NumberNote.{NumberNote}
use Rattle.auc_vector.specs.declared.notes.NumberNote.TheVariants as number
use Rattle.auc_vector.specs.declared.notes.ResyncNote.{ResyncNote}
use Rattle.auc_vector.specs.declared.notes.ResyncNote.TheVariants as resync
use Rattle.auc_vector.specs.declared.parts.Vector.{Vector}
use Rattle.auc_vector.specs.declared.turn.Turn.{Turn}
use Rattle.auc_reauth.specs.declared.context.Context.{Context}
use Rattle.auc_server.specs.Contexts.{context_in, homes_left}
use Rattle.auc_server.specs.Laws.{EachTurnKeepsOrChallenges, Fits, KeepsChallenge, SendsChallenge, awaits_identity}
use Rattle.auc_server.specs.Rows.{server_row, subscriber_in, text_in}
use Rattle.auc_server.specs.Server.{ServerEnd, challenged_of}
use Rattle.auc_subs.specs.Setting.{Setting}
use Rattle.auc_server.specs.Steps.{asking}
use Rattle.auc_server.specs.Table.{challenged, challenged_with, identified, names_given, next_given, noted, packets_after, reauthenticated, resumed_with, resynchronised, resynchronising, server_does, succeeded, vector_at}
use Rattle.auc_server.specs.declared.naming.GivenNames.{GivenNames}
use Rattle.auc_server.specs.declared.rows.Row.{Row}
use Rattle.auc_server.specs.declared.rows.Row.TheVariants as row
use Rattle.auc_server.specs.declared.server.Challenged.{Challenged}
use Rattle.auc_server.specs.declared.server.Resumed.{Resumed}
use Rattle.auc_server.specs.declared.setting.HomeRow.{HomeRow}
use Rattle.auc_vector.specs.declared.why.ServerWhy.{ServerWhy}
use Rattle.auc_server.proofs.FitsLemmas.{no_sent}
use Rattle.auc_server.proofs.LawLemmas.{Says, none_challenged, says_row}

abbrev Moves : Setting → Option Asking → ServerEnd → ServerEnd × Turn ServerWhy → Type 0
Moves set asked s r = KeepsChallenge s r.0 ⊎ SendsChallenge set asked r.0 r.1

-- an end with the same challenge and identity
abbrev alike : (s : ServerEnd) → KeepsChallenge s s
alike s = record { challenge = refl; identity = λ sent e. refl }

-- another identity before the first challenge
identified_keeps : (s : ServerEnd) (text : List ℕ) (packets : List (List ℕ)) → awaits_identity s.state ≡ true → KeepsChallenge s (identified s text packets)
identified_keeps s text packets e = record { challenge = refl; identity = λ sent g. absurd (no_sent (challenged_of s) sent (none_challenged s e) g) }

sent_moves : (set : Setting) (old s : ServerEnd) (asked : Asking) (checked : Bool) (resynced : Option ResyncNote) (n : ℕ) (v : Option Vector) (given : Option GivenNames) → vector_at set s.options asked.sub n ≡ v
    → KeepsChallenge old s → Moves set (Some asked) old (challenged_with set.realm s asked.sub n v given (noted resynced (Some (number.Drew n))) checked)
sent_moves set old s asked checked resynced n None given e k = inl k
sent_moves set old s asked checked resynced n (Some v) given e k = inr (record {
  request = asked;
  of = refl;
  n = n;
  drawn = refl;
  vector = v;
  of_number = e;
  next = next_given given;
  challenge = refl;
  sent = refl;
})

-- the centre is asked, by a server that keeps its last challenge so far
challenged_moves : (set : Setting) (homes : List HomeRow) (old s : ServerEnd) (asked : Asking) (checked : Bool) (resynced : Option ResyncNote) (drawn : Option NumberNote) → KeepsChallenge old s
    → Moves set (Some asked) old (challenged set homes s asked.sub checked resynced drawn)
challenged_moves set homes old s asked checked resynced None k = inl k
challenged_moves set homes old s asked checked resynced (Some (number.Drew n)) k = sent_moves set old s asked checked resynced n (vector_at set s.options asked.sub n) (names_given set homes s asked.sub) refl k
challenged_moves set homes old s asked checked resynced (Some (number.Exhausted w)) k = inl (record { challenge = k.challenge; identity = k.identity })
challenged_moves set homes old s asked checked resynced (Some (number.Withheld n stop)) k = inl (record { challenge = k.challenge; identity = k.identity })

synced_keeps : (s : ServerEnd) → KeepsChallenge s (resynchronising s)
synced_keeps s = record { challenge = refl; identity = λ sent e. refl }

resynchronised_moves : (set : Setting) (homes : List HomeRow) (s : ServerEnd) (asked : Asking) (resynced : Option ResyncNote) (drawn : Option NumberNote)
    → Moves set (Some asked) s (resynchronised set homes s asked.sub resynced drawn)
resynchronised_moves set homes s asked None drawn = inl (alike s)
resynchronised_moves set homes s asked (Some resync.BadAuts) drawn = inl (alike s)
resynchronised_moves set homes s asked (Some (resync.Beyond seen seq)) drawn = inl (record { challenge = refl; identity = λ sent e. refl })
resynchronised_moves set homes s asked (Some (resync.InRange seen seq)) drawn = challenged_moves set homes s (resynchronising s) asked false (Some (resync.InRange seen seq)) drawn (synced_keeps s)
resynchronised_moves set homes s asked (Some (resync.Moved seen seq)) drawn = challenged_moves set homes s (resynchronising s) asked false (Some (resync.Moved seen seq)) drawn (synced_keeps s)

succeeded_moves : (set : Setting) (s : ServerEnd) (sent : Challenged) → Moves set None s (succeeded s sent)
succeeded_moves set s sent = inl (record { challenge = refl; identity = λ sent e. refl })

renewed_moves : (set : Setting) (s : ServerEnd) (sent : Resumed) → Moves set None s (reauthenticated s sent)
renewed_moves set s sent = inl (record { challenge = refl; identity = λ sent e. refl })

resumed_moves : (set : Setting) (homes : List HomeRow) (s : ServerEnd) (text : List ℕ) (packets : List (List ℕ)) (sub : ℕ) (c : Option Context) → awaits_identity s.state ≡ true
    → Moves set None s (resumed_with set homes s text packets sub c)
resumed_moves set homes s text packets sub None e = inl (alike s)
resumed_moves set homes s text packets sub (Some c) e = inl (record { challenge = sym (none_challenged s e); identity = λ sent g. absurd (no_sent (challenged_of s) sent (none_challenged s e) g) })

does_moves : (found : Option ℕ) (set : Setting) (homes : List HomeRow) (s : ServerEnd) (seen : Seen) (text : List ℕ) (packets : List (List ℕ)) (r : Row) (notes : Notes) → Says found s seen r → Fits s
    → Moves set (asking r) s (server_does set homes s text packets r notes)
does_moves found set homes s seen text packets (row.Ignore cause) notes says f = inl (alike s)
does_moves found set homes s seen text packets (row.Ask kind) notes says f =
    let k = identified_keeps s text packets says in inl (record { challenge = sym (none_challenged s says); identity = k.identity })
does_moves found set homes s seen text packets row.UnknownIdentity notes says f =
    let k = identified_keeps s text packets says in inl (record { challenge = k.challenge; identity = k.identity })
does_moves found set homes s seen text packets (row.Challenge sub) notes says f =
    challenged_moves set homes s (identified s text packets) (record { sub = sub; reported = None }) false None notes.number (identified_keeps s text packets says.0)
does_moves found set homes s seen text packets (row.Resume sub) notes says f =
    resumed_moves set (homes_left s.options.method text homes sub) s text packets sub (context_in s.options.method text homes sub) says
does_moves found set homes s seen text packets (row.TooSmall sub) notes says f =
    challenged_moves set homes s s (record { sub = sub; reported = None }) true None notes.number (alike s)
does_moves found set homes s seen text packets (row.Reauthenticated sent) notes says f = renewed_moves set s sent
does_moves found set homes s seen text packets (row.Success sent) notes says f = succeeded_moves set s sent
does_moves found set homes s seen text packets (row.Resynchronise sub seq) notes says f =
    resynchronised_moves set homes s (record { sub = sub; reported = Some seq }) notes.resync notes.number
does_moves found set homes s seen text packets other notes says f = inl (record { challenge = refl; identity = λ sent e. refl })

-- each turn
pub each_turn_moves : EachTurnKeepsOrChallenges
each_turn_moves set homes s seen said notes f =
    does_moves (subscriber_in s.options.method set homes (text_in seen.reading)) set homes s seen (text_in seen.reading)
    (packets_after s seen (server_row set homes s seen said)) (server_row set homes s seen said) notes (says_row set homes s seen said) f
