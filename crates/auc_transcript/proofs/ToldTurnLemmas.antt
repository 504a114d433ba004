-- For the counters that are told: a server resumes the counter that its turn notes, and a peer accepts the one that its turn notes.
use Rattle.std.proofs.Common.{◌≡◌, ℕ, ◌≤◌, Bool, true, false, List, [], ◌∷◌, ◌++◌, length, map, Option, Some, None, option_to_list, refl, sym, ap, ◌∙◌, arith, append-nil}
use Rattle.auc_peer.specs.declared.next.NextContext.{NextContext}
use Rattle.auc_peer.specs.declared.next.NextContext.TheVariants as next
use Rattle.auc_peer.specs.declared.peer.Peer.{Peer}
use Rattle.auc_peer.specs.Peer.{resumed_from}
use Rattle.auc_reauth.specs.Machine.{Used, accepted_in, used_by}
use Rattle.auc_reauth.specs.declared.context.Context.{Context}
use Rattle.auc_packet.specs.Received.{Seen}
use Rattle.auc_server.proofs.Facts.{Says, given_up_fits, none_resumed, says_row}
use Rattle.auc_server.specs.Contexts.{context_in, homes_left}
use Rattle.auc_server.specs.Laws.{Fits}
use Rattle.auc_server.specs.Rows.{server_row, subscriber_in, text_in}
use Rattle.auc_server.specs.Server.{ServerEnd, resumed_of}
use Rattle.auc_subs.specs.Setting.{Setting}
use Rattle.auc_server.specs.Table.{challenged, challenged_with, gave_up as server_gave_up, identified, names_given, noted, packets_after, resumed_with, resynchronised, resynchronising, server_does, server_step, vector_at}
use Rattle.auc_server.specs.declared.naming.GivenNames.{GivenNames}
use Rattle.auc_server.specs.declared.reply.Reply.{Reply}
use Rattle.auc_server.specs.declared.rows.Row.{Row}
use Rattle.auc_server.specs.declared.rows.Row.TheVariants as row
use Rattle.auc_server.specs.declared.server.Resumed.{Resumed}
use Rattle.auc_server.specs.declared.server.ServerState.{ServerState}
use Rattle.auc_server.specs.declared.server.ServerState.TheVariants as state
use Rattle.auc_server.specs.declared.setting.HomeRow.{HomeRow}
use Rattle.auc_vector.specs.declared.why.ServerWhy.{ServerWhy}
use Rattle.auc_vector.specs.declared.notes.CounterNote.{CounterNote}
use Rattle.auc_vector.specs.declared.notes.CounterNote.TheVariants as counts
use Rattle.auc_vector.specs.declared.notes.Notes.{Notes}
use Rattle.auc_vector.specs.declared.notes.NumberNote.{NumberNote}
use Rattle.auc_vector.specs.declared.notes.NumberNote.TheVariants as number
use Rattle.auc_vector.specs.declared.notes.ResyncNote.{ResyncNote}
use Rattle.auc_vector.specs.declared.notes.ResyncNote.TheVariants as resync
use Rattle.auc_vector.specs.declared.parts.Vector.{Vector}
use Rattle.auc_vector.specs.declared.turn.Turn.{Turn}
use Rattle.auc_world.specs.Plain.{counter_taken}
use Rattle.auc_world.specs.Resumption.{accepted_for, counter_given, counter_used, resumed_in}
use Rattle.auc_world.proofs.Facts.{Counts}

-- ---- what is told and what the ends have

abbrev pub resumed_counters : Option ServerEnd → List ℕ
resumed_counters o = map (λ (r : Resumed). r.context.counter) (resumed_in o)

abbrev pub accepted_counters : Peer → List ℕ
accepted_counters p = map (λ (u : Used). u.counter) (accepted_for p.next p)

abbrev pub FitsIf : Option ServerEnd → Type 0
FitsIf None = Unit {0}
FitsIf (Some q) = Fits q

-- ---- turns of a peer

pub one_short : (fo : NextContext) (p : Peer) → length (accepted_for fo p) ≤ 1
one_short next.Same p = omega arith
one_short (next.New c) p = omega arith
one_short (next.Renamed from to) p = by (resumed_from p.source) (counter_given p.inner)
  where
    by : (c : Option Context) (n : Option ℕ) → length (counter_used c n) ≤ 1
    by None None = omega arith
    by None (Some n) = omega arith
    by (Some c) None = omega arith
    by (Some c) (Some n) = omega arith

alone : (u : Used) (xs ys : List Used) → xs ≡ u ∷ ys → length xs ≤ 1 → ys ≡ []
alone u xs [] e short = refl
alone u xs (y ∷ ys) e short = let long = ap length e in absurd (omega (arith, long, short))

-- the counters of a peer after a turn, by its note
pub peer_counters : (store : Option Context) (p new : Peer) (n : Option CounterNote) (a : List ℕ) → ((k : ℕ) → n ≡ Some (counts.Taken k) → (c : Context) × (store ≡ Some c)) → Counts store p new n
    → a ≡ accepted_counters p → a ++ counter_taken n ≡ accepted_counters new
peer_counters store p new None a some c e = append-nil a ∙ e ∙ sym (ap (map (λ (u : Used). u.counter)) c.used)
peer_counters store p new (Some (counts.Small k)) a some c e = append-nil a ∙ e ∙ sym (ap (map (λ (u : Used). u.counter)) c.used)
peer_counters store p new (Some (counts.Taken k)) a some c e =
    let (x, is) = some k refl in
    let used : accepted_for new.next new ≡ used_by k x ∷ accepted_for p.next p = c.used ∙ ap (λ (o : Option Context). accepted_in k o ++ accepted_for p.next p) is in
    let none : accepted_for p.next p ≡ [] = alone (used_by k x) (accepted_for new.next new) (accepted_for p.next p) used (one_short new.next new) in
    ap (λ (l : List ℕ). l ++ k ∷ []) (e ∙ ap (map (λ (u : Used). u.counter)) none)
    ∙ sym (ap (map (λ (u : Used). u.counter)) (used ∙ ap (λ (l : List Used). used_by k x ∷ l) none))

-- ---- turns of a server

abbrev pub counters_of : Option Resumed → List ℕ
counters_of o = map (λ (r : Resumed). r.context.counter) (option_to_list o)

-- a turn resumes what it notes
abbrev pub Shows : ServerEnd → ServerEnd × Turn ServerWhy → Type 0
Shows s x = counters_of (resumed_of x.0) ≡ counters_of (resumed_of s) ++ option_to_list x.1.notes.resumed

kept : (s : ServerEnd) → counters_of (resumed_of s) ≡ counters_of (resumed_of s) ++ []
kept s = sym (append-nil (counters_of (resumed_of s)))

vector_shows : (realm : List ℕ) (s : ServerEnd) (sub n : ℕ) (v : Option Vector) (given : Option GivenNames) (resynced : Option ResyncNote) (drawn : Option NumberNote) (checked : Bool)
    → Shows s (challenged_with realm s sub n v given (noted resynced drawn) checked)
vector_shows realm s sub n None given resynced drawn checked = kept s
vector_shows realm s sub n (Some v) given resynced drawn checked = kept s

challenged_shows : (set : Setting) (homes : List HomeRow) (s : ServerEnd) (sub : ℕ) (checked : Bool) (resynced : Option ResyncNote) (drawn : Option NumberNote)
    → Shows s (challenged set homes s sub checked resynced drawn)
challenged_shows set homes s sub checked resynced None = kept s
challenged_shows set homes s sub checked resynced (Some (number.Drew n)) =
    vector_shows set.realm s sub n (vector_at set s.options sub n) (names_given set homes s sub) resynced (Some (number.Drew n)) checked
challenged_shows set homes s sub checked resynced (Some (number.Exhausted w)) = kept s
challenged_shows set homes s sub checked resynced (Some (number.Withheld n stop)) = kept s

resumed_shows : (set : Setting) (homes : List HomeRow) (s : ServerEnd) (text : List ℕ) (packets : List (List ℕ)) (sub : ℕ) (c : Option Context) → resumed_of s ≡ None
    → Shows s (resumed_with set homes s text packets sub c)
resumed_shows set homes s text packets sub None none = kept s
resumed_shows set homes s text packets sub (Some c) none = ap (λ (o : Option Resumed). counters_of o ++ c.counter ∷ []) (sym none)

resynchronised_shows : (set : Setting) (homes : List HomeRow) (s : ServerEnd) (sub : ℕ) (resynced : Option ResyncNote) (drawn : Option NumberNote)
    → Shows s (resynchronised set homes s sub resynced drawn)
resynchronised_shows set homes s sub None drawn = kept s
resynchronised_shows set homes s sub (Some resync.BadAuts) drawn = kept s
resynchronised_shows set homes s sub (Some (resync.Beyond seen seq)) drawn = kept s
resynchronised_shows set homes s sub (Some (resync.InRange seen seq)) drawn = challenged_shows set homes (resynchronising s) sub false (Some (resync.InRange seen seq)) drawn
resynchronised_shows set homes s sub (Some (resync.Moved seen seq)) drawn = challenged_shows set homes (resynchronising s) sub false (Some (resync.Moved seen seq)) drawn

does_shows : (who : Option ℕ) (set : Setting) (homes : List HomeRow) (s : ServerEnd) (seen : Seen) (text : List ℕ) (packets : List (List ℕ)) (r : Row) (notes : Notes) → Says who s seen r
    → Shows s (server_does set homes s text packets r notes)
does_shows who set homes s seen text packets (row.Ignore cause) notes says = kept s
does_shows who set homes s seen text packets (row.Ask kind) notes says = ap (λ (o : Option Resumed). counters_of o ++ []) (sym (none_resumed s says))
does_shows who set homes s seen text packets row.UnknownIdentity notes says = kept s
does_shows who set homes s seen text packets (row.Challenge sub) notes says = challenged_shows set homes (identified s text packets) sub false None notes.number
does_shows who set homes s seen text packets (row.Resume sub) notes says =
    resumed_shows set (homes_left s.options.method text homes sub) s text packets sub (context_in s.options.method text homes sub) (none_resumed s says)
does_shows who set homes s seen text packets (row.TooSmall sub) notes says = challenged_shows set homes s sub true None notes.number
does_shows who set homes s seen text packets row.WrongCounter notes says = kept s
does_shows who set homes s seen text packets (row.Reauthenticated sent) notes says = kept s
does_shows who set homes s seen text packets row.WrongMac notes says = kept s
does_shows who set homes s seen text packets row.WrongRes notes says = kept s
does_shows who set homes s seen text packets row.WrongCheckcode notes says = kept s
does_shows who set homes s seen text packets (row.Success sent) notes says = kept s
does_shows who set homes s seen text packets row.SecondSync notes says = kept s
does_shows who set homes s seen text packets row.BadAuts notes says = kept s
does_shows who set homes s seen text packets (row.Resynchronise sub seq) notes says = resynchronised_shows set homes s sub notes.resync notes.number
does_shows who set homes s seen text packets row.Rejected notes says = kept s
does_shows who set homes s seen text packets (row.ClientError code) notes says = kept s
does_shows who set homes s seen text packets (row.Notified cause) notes says = kept s

pub turn_shows : (set : Setting) (homes : List HomeRow) (s : ServerEnd) (seen : Seen) (said : Reply) (notes : Notes) → Shows s (server_step set homes s seen said notes)
turn_shows set homes s seen said notes =
    does_shows (subscriber_in s.options.method set homes (text_in seen.reading)) set homes s seen (text_in seen.reading)
    (packets_after s seen (server_row set homes s seen said)) (server_row set homes s seen said) notes (says_row set homes s seen said)

-- ---- a server that starts or gives up

-- a server that gives up keeps what it resumed
pub record GivesUp (s new : ServerEnd) : Type 0 where
  pub fits : Fits new
  pub same : resumed_of new ≡ resumed_of s

pub gives_up : (s : ServerEnd) (now : ServerState) → Fits s → GivesUp s (server_gave_up s now).0
gives_up s (state.Ended result last) f = record { fits = f; same = refl }
gives_up s state.AwaitIdentity f = record { fits = given_up_fits s f; same = refl }
gives_up s (state.Await kind) f = record { fits = given_up_fits s f; same = refl }
gives_up s (state.AwaitChallenge sent before) f = record { fits = given_up_fits s f; same = refl }
gives_up s (state.AwaitReauth sent) f = record { fits = given_up_fits s f; same = refl }
gives_up s (state.Notifying cause last) f = record { fits = given_up_fits s f; same = refl }
