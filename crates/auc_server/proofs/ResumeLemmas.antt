-- What a turn does to the re-authentication of a server: a context that is taken up again leaves its home.
use Rattle.std.proofs.Common.{◌≡◌, ◌⊎◌, inl, inr, ℕ, zero, suc, Bool, true, false, cond, List, [], ◌∷◌, slice_set, Option, Some, None, refl, sym, ap, ◌∙◌}
use Rattle.std.specs.Str.{bytes_eq}
use Rattle.auc_hmac.specs.declared.method.Method.{Method}
use Rattle.auc_hmac.specs.declared.method.Method.TheVariants as method
use Rattle.auc_ident.specs.Permanent.{username}
use Rattle.auc_packet.specs.Received.{Seen}
use Rattle.auc_reauth.specs.Server.{Contexts, entry_named, if_named, left, no_contexts, unless_named}
use Rattle.auc_reauth.specs.Store.{entry}
use Rattle.auc_reauth.specs.declared.context.Context.{Context}
use Rattle.auc_vector.specs.declared.notes.Notes.{Notes}
use Rattle.auc_vector.specs.declared.notes.NumberNote.{NumberNote}
use Rattle.auc_vector.specs.declared.notes.NumberNote.TheVariants as number
use Rattle.auc_vector.specs.declared.notes.ResyncNote.{ResyncNote}
use Rattle.auc_vector.specs.declared.notes.ResyncNote.TheVariants as resync
use Rattle.auc_vector.specs.declared.parts.Vector.{Vector}
use Rattle.auc_vector.specs.declared.turn.Turn.{Turn}
use Rattle.auc_server.specs.Contexts.{context_in, found_at, gives_next, homes_left, homes_resumed, without, without_at}
use Rattle.auc_server.specs.Laws.{EachTurnKeepsOrResumes, Fits, KeepsResumption, Resumes, awaits_identity}
use Rattle.auc_server.specs.Ordinals.{home_at, home_place, homes_given, homes_with, ordinal_after, with_next}
use Rattle.auc_server.specs.Rows.{server_row, subscriber_in, text_in}
use Rattle.auc_server.specs.Server.{ServerEnd, resumed_of}
use Rattle.auc_subs.specs.Setting.{Setting}
use Rattle.auc_server.specs.Table.{challenged, challenged_with, homes_done, identified, names_given, noted, packets_after, reauthenticated, resumed_with, resynchronised, resynchronising, server_does, succeeded, vector_at}
use Rattle.auc_server.specs.declared.naming.GivenNames.{GivenNames}
use Rattle.auc_server.specs.declared.options.ServerOptions.{ServerOptions}
use Rattle.auc_server.specs.declared.rows.Row.{Row}
use Rattle.auc_server.specs.declared.rows.Row.TheVariants as row
use Rattle.auc_server.specs.declared.server.Challenged.{Challenged}
use Rattle.auc_server.specs.declared.server.Resumed.{Resumed}
use Rattle.auc_server.specs.declared.setting.HomeRow.{HomeRow}
use Rattle.auc_vector.specs.declared.why.ServerWhy.{ServerWhy}
use Rattle.auc_server.proofs.FitsLemmas.{no_resumed}
use Rattle.auc_server.proofs.LawLemmas.{Says, none_resumed, says_row}

-- ---- a home after its context left

left_by : (b : Bool) (k c : Context) → cond b (Some k) None ≡ Some c → cond b None (Some k) ≡ None
left_by true k c e = refl
left_by false k c e = absurd cc

left_gone : (by : Method) (text : List ℕ) (contexts : Contexts) (c : Context) → entry_named by text contexts ≡ Some c → entry by (left by text contexts) ≡ None
left_gone method.Aka text contexts c e = of contexts.aka e
  where
    of : (kept : Option Context) → if_named (username text) kept ≡ Some c → unless_named (username text) kept ≡ None
    of None f = absurd cc
    of (Some k) f = left_by (bytes_eq k.identity (username text)) k c f
left_gone method.Prime text contexts c e = of contexts.prime e
  where
    of : (kept : Option Context) → if_named (username text) kept ≡ Some c → unless_named (username text) kept ≡ None
    of None f = absurd cc
    of (Some k) f = left_by (bytes_eq k.identity (username text)) k c f

no_home : (by : Method) (text : List ℕ) (c : Context) → entry_named by text no_contexts ≡ Some c → ⊥
no_home method.Aka text c e = cc
no_home method.Prime text c e = cc

gone_at : (by : Method) (text : List ℕ) (homes : List HomeRow) (place : ℕ) (c : Context) → entry_named by text (home_at homes place).store ≡ Some c
    → entry by (home_at (slice_set homes place (without by text (home_at homes place))) place).store ≡ None
gone_at by text [] zero c e = absurd (no_home by text c e)
gone_at by text [] (suc place) c e = absurd (no_home by text c e)
gone_at by text (home ∷ homes) zero c e = left_gone by text home.store c e
gone_at by text (home ∷ homes) (suc place) c e = gone_at by text homes place c e

-- an ordinal changes no store
set_store : (homes : List HomeRow) (place other : ℕ) (new : HomeRow) → new.store ≡ (home_at homes place).store → (home_at (slice_set homes place new) other).store ≡ (home_at homes other).store
set_store [] place other new same = refl
set_store (home ∷ homes) zero zero new same = same
set_store (home ∷ homes) zero (suc other) new same = refl
set_store (home ∷ homes) (suc place) zero new same = refl
set_store (home ∷ homes) (suc place) (suc other) new same = set_store homes place other new same

next_store : (home : HomeRow) (ordinal : Option ℕ) → (with_next home ordinal).store ≡ home.store
next_store home None = refl
next_store home (Some ordinal) = refl

with_store : (homes : List HomeRow) (place : Option ℕ) (other : ℕ) → (home_at (homes_with homes place) other).store ≡ (home_at homes other).store
with_store homes None other = refl
with_store homes (Some place) other =
    set_store homes place other (with_next (home_at homes place) (ordinal_after (home_at homes place))) (next_store (home_at homes place) (ordinal_after (home_at homes place)))

pub given_store : (gives : Bool) (homes : List HomeRow) (sub other : ℕ) → (home_at (homes_given gives homes sub) other).store ≡ (home_at homes other).store
given_store false homes sub other = refl
given_store true homes sub other = with_store homes (home_place homes sub) other

pub gone : (options : ServerOptions) (text : List ℕ) (homes : List HomeRow) (sub place : ℕ) (c : Context) → home_place homes sub ≡ Some place
    → entry_named options.method text (home_at homes place).store ≡ Some c → entry options.method (home_at (homes_resumed options text homes sub (Some c)) place).store ≡ None
gone options text homes sub place c e f =
    ap (entry options.method) (given_store (gives_next options c) (homes_left options.method text homes sub) sub place)
    ∙ ap (λ (p : Option ℕ). entry options.method (home_at (without_at options.method text homes p) place).store) e
    ∙ gone_at options.method text homes place c f

-- ---- the rows

abbrev Keeps : ServerEnd → ServerEnd × Turn ServerWhy → Type 0
Keeps s t = KeepsResumption s t.0 × (t.1.notes.resumed ≡ None)

abbrev alike : (s : ServerEnd) → KeepsResumption s s
alike s = record { resumption = refl; identity = λ sent e. refl }

identified_keeps : (s : ServerEnd) (text : List ℕ) (packets : List (List ℕ)) → awaits_identity s.state ≡ true → KeepsResumption s (identified s text packets)
identified_keeps s text packets e = record { resumption = refl; identity = λ sent g. absurd (no_resumed (resumed_of s) sent (none_resumed s e) g) }

with_keeps : (realm : List ℕ) (old s : ServerEnd) (sub n : ℕ) (v : Option Vector) (given : Option GivenNames) (resynced : Option ResyncNote) (drawn : Option NumberNote) (checked : Bool)
    → KeepsResumption old s → Keeps old (challenged_with realm s sub n v given (noted resynced drawn) checked)
with_keeps realm old s sub n None given resynced drawn checked k = (k, refl)
with_keeps realm old s sub n (Some v) given resynced drawn checked k = (record { resumption = k.resumption; identity = k.identity }, refl)

challenged_keeps : (set : Setting) (homes : List HomeRow) (old s : ServerEnd) (sub : ℕ) (checked : Bool) (resynced : Option ResyncNote) (drawn : Option NumberNote) → KeepsResumption old s
    → Keeps old (challenged set homes s sub checked resynced drawn)
challenged_keeps set homes old s sub checked resynced None k = (k, refl)
challenged_keeps set homes old s sub checked resynced (Some (number.Drew n)) k =
    with_keeps set.realm old s sub n (vector_at set s.options sub n) (names_given set homes s sub) resynced (Some (number.Drew n)) checked k
challenged_keeps set homes old s sub checked resynced (Some (number.Exhausted w)) k = (record { resumption = k.resumption; identity = k.identity }, refl)
challenged_keeps set homes old s sub checked resynced (Some (number.Withheld n stop)) k = (record { resumption = k.resumption; identity = k.identity }, refl)

synced_keeps : (s : ServerEnd) → KeepsResumption s (resynchronising s)
synced_keeps s = record { resumption = refl; identity = λ sent e. refl }

resynchronised_keeps : (set : Setting) (homes : List HomeRow) (s : ServerEnd) (sub : ℕ) (resynced : Option ResyncNote) (drawn : Option NumberNote) → Keeps s (resynchronised set homes s sub resynced drawn)
resynchronised_keeps set homes s sub None drawn = (alike s, refl)
resynchronised_keeps set homes s sub (Some resync.BadAuts) drawn = (alike s, refl)
resynchronised_keeps set homes s sub (Some (resync.Beyond seen seq)) drawn = (record { resumption = refl; identity = λ sent e. refl }, refl)
resynchronised_keeps set homes s sub (Some (resync.InRange seen seq)) drawn = challenged_keeps set homes s (resynchronising s) sub false (Some (resync.InRange seen seq)) drawn (synced_keeps s)
resynchronised_keeps set homes s sub (Some (resync.Moved seen seq)) drawn = challenged_keeps set homes s (resynchronising s) sub false (Some (resync.Moved seen seq)) drawn (synced_keeps s)

succeeded_keeps : (s : ServerEnd) (sent : Challenged) → Keeps s (succeeded s sent)
succeeded_keeps s sent = (record { resumption = refl; identity = λ r e. refl }, refl)

renewed_keeps : (s : ServerEnd) (sent : Resumed) → Keeps s (reauthenticated s sent)
renewed_keeps s sent = (record { resumption = refl; identity = λ r e. refl }, refl)

abbrev Renews : Setting → List HomeRow → ServerEnd → Seen → ServerEnd × Turn ServerWhy → List HomeRow → Type 0
Renews set homes s seen t later = Keeps s t ⊎ Resumes set homes s seen t.0 t.1 later

resumed_renews : (set : Setting) (homes : List HomeRow) (s : ServerEnd) (seen : Seen) (packets : List (List ℕ)) (sub : ℕ) (place : Option ℕ) (c : Option Context)
    → home_place homes sub ≡ place → found_at s.options.method (text_in seen.reading) homes place ≡ c
    → Renews set homes s seen (resumed_with set (homes_left s.options.method (text_in seen.reading) homes sub) s (text_in seen.reading) packets sub c)
    (homes_resumed s.options (text_in seen.reading) homes sub c)
resumed_renews set homes s seen packets sub place None e f = inl (alike s, refl)
resumed_renews set homes s seen packets sub None (Some c) e f = absurd cc
resumed_renews set homes s seen packets sub (Some place) (Some c) e f = inr (record {
  sub = sub;
  context = c;
  place = place;
  home = e;
  named = f;
  resumption_is = refl;
  noted = refl;
  sent = refl;
  gone = gone s.options (text_in seen.reading) homes sub place c e f;
})

does_renews : (found : Option ℕ) (set : Setting) (homes : List HomeRow) (s : ServerEnd) (seen : Seen) (packets : List (List ℕ)) (r : Row) (notes : Notes) → Says found s seen r → Fits s
    → Renews set homes s seen (server_does set homes s (text_in seen.reading) packets r notes) (homes_done homes s (text_in seen.reading) r notes)
does_renews found set homes s seen packets (row.Ignore cause) notes says f = inl (alike s, refl)
does_renews found set homes s seen packets (row.Ask kind) notes says f =
    let k = identified_keeps s (text_in seen.reading) packets says in inl (record { resumption = sym (none_resumed s says); identity = k.identity }, refl)
does_renews found set homes s seen packets row.UnknownIdentity notes says f =
    let k = identified_keeps s (text_in seen.reading) packets says in inl (record { resumption = k.resumption; identity = k.identity }, refl)
does_renews found set homes s seen packets (row.Challenge sub) notes says f =
    inl (challenged_keeps set homes s (identified s (text_in seen.reading) packets) sub false None notes.number (identified_keeps s (text_in seen.reading) packets says.0))
does_renews found set homes s seen packets (row.Resume sub) notes says f =
    resumed_renews set homes s seen packets sub (home_place homes sub) (context_in s.options.method (text_in seen.reading) homes sub) refl refl
does_renews found set homes s seen packets (row.TooSmall sub) notes says f = inl (challenged_keeps set homes s s sub true None notes.number (alike s))
does_renews found set homes s seen packets (row.Reauthenticated sent) notes says f = inl (renewed_keeps s sent)
does_renews found set homes s seen packets (row.Success sent) notes says f = inl (succeeded_keeps s sent)
does_renews found set homes s seen packets (row.Resynchronise sub seq) notes says f = inl (resynchronised_keeps set homes s sub notes.resync notes.number)
does_renews found set homes s seen packets other notes says f = inl (record { resumption = refl; identity = λ sent e. refl }, refl)

-- each turn
pub each_turn_renews : EachTurnKeepsOrResumes
each_turn_renews set homes s seen said notes f =
    does_renews (subscriber_in s.options.method set homes (text_in seen.reading)) set homes s seen (packets_after s seen (server_row set homes s seen said))
    (server_row set homes s seen said) notes (says_row set homes s seen said) f
