-- The homes: whose they are, for the rows that ask the centre, and after a turn.
use Rattle.std.proofs.Common.{◌≡◌, ℕ, ◌<◌, ◌≤◌, ◌==◌, ◌||◌, Bool, true, false, List, [], ◌∷◌, length, map, Option, Some, None, IfSome, All, arith, refl, sym, ap, ◌∙◌, subst}
use Rattle.std.proofs.lemmas.Bool.Decides.{nat_tests}
use Rattle.std.proofs.Math.Seq.{map-set_same}
use Rattle.std.proofs.lemmas.List.Elements.{All-cons, All-head, All-map, All-nil, All-tail, All-weaker}
use Rattle.std.specs.List.{list_any}
use Rattle.std.specs.Prelude.{slice_get}
use Rattle.auc_subs.proofs.Facts.{top_at-row}
use Rattle.auc_subs.specs.declared.row.Row as rows
use Rattle.auc_vector.specs.Auts.{IsNumber}
use Rattle.auc_vector.specs.declared.auts.Auts.{Auts}
use Rattle.auc_vector.specs.declared.auts.Auts.TheVariants as auts
use Rattle.auc_vector.specs.declared.notes.Notes.{Notes}
use Rattle.auc_vector.specs.declared.notes.NumberNote.{NumberNote}
use Rattle.auc_vector.specs.declared.notes.NumberNote.TheVariants as number
use Rattle.auc_vector.specs.declared.notes.ResyncNote.{ResyncNote}
use Rattle.auc_vector.specs.declared.notes.ResyncNote.TheVariants as resync
use Rattle.auc_vector.specs.declared.parts.Vector.{Vector}
use Rattle.auc_vector.specs.declared.turn.Turn.{Turn}
use Rattle.auc_server.specs.InnerRows.{IsHeldRow}
use Rattle.auc_hmac.specs.declared.method.Method.{Method}
use Rattle.auc_reauth.specs.declared.context.Context.{Context}
use Rattle.auc_reauth.specs.Server.{no_contexts}
use Rattle.auc_server.specs.Contexts.{context_after, context_in, won_context, gives_next, homes_kept, homes_left, homes_resumed, homes_rewon, homes_won, with_context, with_context_at, without, without_at}
use Rattle.auc_server.specs.Ordinals.{home_at, home_place, homes_given, homes_with, ordinal_after, with_next}
use Rattle.auc_server.specs.Rows.{by_auts, is_held}
use Rattle.auc_server.specs.Server.{ServerEnd, challenged_of, resumed_of}
use Rattle.auc_server.specs.Steps.{IsHeld, IsHeldToo, IsHome, IsServed}
use Rattle.auc_subs.specs.Setting.{Setting}
use Rattle.auc_server.specs.Table.{challenged, challenged_with, homes_challenged, homes_done, homes_named, identified, names_given, noted, resumed_with, resynchronised, resynchronising, server_does, vector_at}
use Rattle.auc_server.specs.declared.naming.GivenNames.{GivenNames}
use Rattle.auc_server.specs.declared.options.ServerOptions.{ServerOptions}
use Rattle.auc_server.specs.declared.rows.Row.{Row}
use Rattle.auc_server.specs.declared.rows.Row.TheVariants as row
use Rattle.auc_server.specs.declared.server.Challenged.{Challenged}
use Rattle.auc_server.specs.declared.server.Resumed.{Resumed}
use Rattle.auc_server.specs.declared.setting.HomeRow.{HomeRow}
use Rattle.auc_vector.specs.declared.why.ServerWhy.{ServerWhy}

-- numbers that are tested as equal are
same_number : (m n : ℕ) → (m == n) ≡ true → m ≡ n
same_number m n = grind (arith, nat_tests)

by_test : (all : List rows.Row) (subs : ℕ) (top : ℕ → ℕ) (first sub : ℕ) (rest : Bool) (b : Bool) → (first == sub) ≡ b → IsHome all subs top first
    → (rest ≡ true → IsHome all subs top sub) → (b || rest) ≡ true → IsHome all subs top sub
by_test all subs top first sub rest true e here there h = subst (IsHome all subs top) (same_number first sub e) here
by_test all subs top first sub rest false e here there h = there h

-- a held subscriber is a home
pub home_of : (all : List rows.Row) (subs : ℕ) (top : ℕ → ℕ) (homes : List HomeRow) (sub : ℕ)
    → All (λ home. IsHome all subs top home.sub) homes → is_held homes sub ≡ true → IsHome all subs top sub
home_of all subs top [] sub each held = absurd cc
home_of all subs top (home ∷ homes) sub each held =
    let P : HomeRow → Type 0 = λ h. IsHome all subs top h.sub in
    by_test all subs top home.sub sub (is_held homes sub) (home.sub == sub) refl (All-head P home homes each) (home_of all subs top homes sub (All-tail P home homes each)) held

home_again : (all : List rows.Row) (subs subs' : ℕ) (top top' : ℕ → ℕ) (sub : ℕ) → subs' ≡ subs → ((i : ℕ) → top' i ≡ top i) → IsHome all subs top sub → IsHome all subs' top' sub
home_again all subs subs' top top' sub same alike home = record {
  listed = home.listed;
  known = rw same home.known;
  greatest = alike sub ∙ home.greatest;
}

-- homes stay homes if the centre has as many subscribers with the same greatest numbers
pub homes_again : (all : List rows.Row) (subs subs' : ℕ) (top top' : ℕ → ℕ) (homes : List HomeRow) → subs' ≡ subs → ((i : ℕ) → top' i ≡ top i)
    → All (λ home. IsHome all subs top home.sub) homes → All (λ home. IsHome all subs' top' home.sub) homes
homes_again all subs subs' top top' homes same alike each =
    All-weaker (λ home. IsHome all subs top home.sub) (λ home. IsHome all subs' top' home.sub) (λ home. home_again all subs subs' top top' home.sub same alike) homes each

-- a challenged subscriber has a row
pub listed_of : (all : List rows.Row) (subs : ℕ) (top : ℕ → ℕ) (homes : List HomeRow) (c : Option Challenged)
    → All (λ home. IsHome all subs top home.sub) homes → IsHeld homes c → IfSome c (λ sent. sent.sub < length all)
listed_of all subs top homes None each held = tt
listed_of all subs top homes (Some sent) each held = (home_of all subs top homes sent.sub each held).listed

-- AUTS that is read reports one of the subscriber's numbers
pub auts_own : (by : Method) (all : List rows.Row) (homes : List HomeRow) (sub : ℕ) (home : rows.Row) (a : Auts) → is_held homes sub ≡ true → slice_get all sub ≡ Some home
    → IsNumber home.bits a → IsHeldRow by all homes (by_auts sub a)
auts_own by all homes sub home auts.WrongMac held here number = tt
auts_own by all homes sub home (auts.SeqMs seq) held here number = (held, subst (λ (top : ℕ). seq ≤ top) (sym (top_at-row all sub home here)) number)

-- ---- the homes after an ordinal was used

abbrev nobody : HomeRow
nobody = record { sub = 0; ordinals = 0; store = no_contexts }

-- whether a subscriber is held is read from the homes' subscribers
held_by_subs : (homes : List HomeRow) (j : ℕ) → is_held homes j ≡ list_any (λ (n : ℕ). n == j) (map (λ (home : HomeRow). home.sub) homes)
held_by_subs [] j = refl
held_by_subs (home ∷ homes) j = ap (λ (b : Bool). (home.sub == j) || b) (held_by_subs homes j)

next_sub : (home : HomeRow) (ordinal : Option ℕ) → (with_next home ordinal).sub ≡ home.sub
next_sub home None = refl
next_sub home (Some ordinal) = refl

with_subs : (homes : List HomeRow) (place : Option ℕ) → map (λ (home : HomeRow). home.sub) (homes_with homes place) ≡ map (λ (home : HomeRow). home.sub) homes
with_subs homes None = refl
with_subs homes (Some place) =
    map-set_same (λ (h : HomeRow). h.sub) homes place (with_next (home_at homes place) (ordinal_after (home_at homes place))) nobody
    (next_sub (home_at homes place) (ordinal_after (home_at homes place)))

pub given_subs : (gives : Bool) (homes : List HomeRow) (sub : ℕ) → map (λ (home : HomeRow). home.sub) (homes_given gives homes sub) ≡ map (λ (home : HomeRow). home.sub) homes
given_subs false homes sub = refl
given_subs true homes sub = with_subs homes (home_place homes sub)

named_subs : (options : ServerOptions) (homes : List HomeRow) (sub : ℕ) → map (λ (home : HomeRow). home.sub) (homes_named options homes sub) ≡ map (λ (home : HomeRow). home.sub) homes
named_subs options homes sub = given_subs options.reauth (homes_given options.pseudonym homes sub) sub ∙ given_subs options.pseudonym homes sub

-- no challenge changes whose the homes are
pub challenged_subs : (options : ServerOptions) (homes : List HomeRow) (sub : ℕ) (drawn : Option NumberNote)
    → map (λ (home : HomeRow). home.sub) (homes_challenged options homes sub drawn) ≡ map (λ (home : HomeRow). home.sub) homes
challenged_subs options homes sub None = refl
challenged_subs options homes sub (Some (number.Drew n)) = named_subs options homes sub
challenged_subs options homes sub (Some (number.Exhausted w)) = refl
challenged_subs options homes sub (Some (number.Withheld n stop)) = refl

-- a context that comes or leaves changes it neither
pub left_subs : (by : Method) (text : List ℕ) (homes : List HomeRow) (place : Option ℕ) → map (λ (home : HomeRow). home.sub) (without_at by text homes place) ≡ map (λ (home : HomeRow). home.sub) homes
left_subs by text homes None = refl
left_subs by text homes (Some place) = map-set_same (λ (h : HomeRow). h.sub) homes place (without by text (home_at homes place)) nobody refl

put_subs : (by : Method) (c : Context) (homes : List HomeRow) (place : Option ℕ) → map (λ (home : HomeRow). home.sub) (with_context_at by c homes place) ≡ map (λ (home : HomeRow). home.sub) homes
put_subs by c homes None = refl
put_subs by c homes (Some place) = map-set_same (λ (h : HomeRow). h.sub) homes place (with_context by c (home_at homes place)) nobody refl

pub kept_subs : (by : Method) (homes : List HomeRow) (sub : ℕ) (c : Option Context) → map (λ (home : HomeRow). home.sub) (homes_kept by homes sub c) ≡ map (λ (home : HomeRow). home.sub) homes
kept_subs by homes sub None = refl
kept_subs by homes sub (Some c) = put_subs by c homes (home_place homes sub)

pub won_subs : (by : Method) (homes : List HomeRow) (sent : Challenged) → map (λ (home : HomeRow). home.sub) (homes_won by homes sent) ≡ map (λ (home : HomeRow). home.sub) homes
won_subs by homes sent = kept_subs by homes sent.sub (won_context sent)

pub rewon_subs : (by : Method) (homes : List HomeRow) (sent : Resumed) → map (λ (home : HomeRow). home.sub) (homes_rewon by homes sent) ≡ map (λ (home : HomeRow). home.sub) homes
rewon_subs by homes sent = kept_subs by homes sent.sub (context_after sent)

pub resumed_subs : (options : ServerOptions) (text : List ℕ) (homes : List HomeRow) (sub : ℕ) (c : Option Context)
    → map (λ (home : HomeRow). home.sub) (homes_resumed options text homes sub c) ≡ map (λ (home : HomeRow). home.sub) homes
resumed_subs options text homes sub None = refl
resumed_subs options text homes sub (Some c) =
    given_subs (gives_next options c) (homes_left options.method text homes sub) sub ∙ left_subs options.method text homes (home_place homes sub)

-- a subscriber stays held, and none comes
pub same_held : (homes later : List HomeRow) (j : ℕ) → map (λ (home : HomeRow). home.sub) later ≡ map (λ (home : HomeRow). home.sub) homes → is_held later j ≡ is_held homes j
same_held homes later j same = held_by_subs later j ∙ ap (list_any (λ (n : ℕ). n == j)) same ∙ sym (held_by_subs homes j)

from_subs : (P : ℕ → Type 0) (homes : List HomeRow) → All P (map (λ (home : HomeRow). home.sub) homes) → All (λ home. P home.sub) homes
from_subs P [] each = All-nil (λ (home : HomeRow). P home.sub)
from_subs P (home ∷ homes) each =
    All-cons (λ (h : HomeRow). P h.sub) home homes (All-head P home.sub (map (λ (h : HomeRow). h.sub) homes) each)
    (from_subs P homes (All-tail P home.sub (map (λ (h : HomeRow). h.sub) homes) each))

subs_each : (P : ℕ → Type 0) (homes later : List HomeRow) → map (λ (home : HomeRow). home.sub) later ≡ map (λ (home : HomeRow). home.sub) homes
    → All (λ home. P home.sub) homes → All (λ home. P home.sub) later
subs_each P homes later same each = from_subs P later (subst (All P) (sym same) (All-map P (λ (home : HomeRow). home.sub) homes each))

-- a challenged subscriber stays one of the homes
held_again : (homes later : List HomeRow) (c : Option Challenged) → ((j : ℕ) → is_held later j ≡ is_held homes j) → IsHeld homes c → IsHeld later c
held_again homes later None same held = tt
held_again homes later (Some sent) same held = same sent.sub ∙ held

held_too_again : (homes later : List HomeRow) (c : Option Resumed) → ((j : ℕ) → is_held later j ≡ is_held homes j) → IsHeldToo homes c → IsHeldToo later c
held_too_again homes later None same held = tt
held_too_again homes later (Some sent) same held = same sent.sub ∙ held

-- ---- what a server needs after a turn

-- no turn changes whose the homes are
done_subs : (homes : List HomeRow) (s : ServerEnd) (text : List ℕ) (r : Row) (notes : Notes)
    → map (λ (home : HomeRow). home.sub) (homes_done homes s text r notes) ≡ map (λ (home : HomeRow). home.sub) homes
done_subs homes s text (row.Challenge sub) notes = challenged_subs s.options homes sub notes.number
done_subs homes s text (row.Resume sub) notes = resumed_subs s.options text homes sub (context_in s.options.method text homes sub)
done_subs homes s text (row.TooSmall sub) notes = challenged_subs s.options homes sub notes.number
done_subs homes s text (row.Resynchronise sub seq) notes = challenged_subs s.options homes sub notes.number
done_subs homes s text (row.Success sent) notes = won_subs s.options.method homes sent
done_subs homes s text (row.Reauthenticated sent) notes = rewon_subs s.options.method homes sent
done_subs homes s text other notes = refl

-- whom a server has challenged or re-authenticates is one of the homes
abbrev Holds : List HomeRow → ServerEnd → Type 0
Holds homes s = IsHeld homes (challenged_of s) × IsHeldToo homes (resumed_of s)

with_holds : (homes : List HomeRow) (realm : List ℕ) (s : ServerEnd) (sub n : ℕ) (v : Option Vector) (given : Option GivenNames) (notes : Notes) (checked : Bool)
    → is_held homes sub ≡ true → Holds homes s → Holds homes (challenged_with realm s sub n v given notes checked).0
with_holds homes realm s sub n None given notes checked held was = was
with_holds homes realm s sub n (Some v) given notes checked held was = (held, was.1)

challenged_holds : (set : Setting) (homes : List HomeRow) (s : ServerEnd) (sub : ℕ) (checked : Bool) (resynced : Option ResyncNote) (drawn : Option NumberNote)
    → is_held homes sub ≡ true → Holds homes s → Holds homes (challenged set homes s sub checked resynced drawn).0
challenged_holds set homes s sub checked resynced (Some (number.Drew n)) held was =
    with_holds homes set.realm s sub n (vector_at set s.options sub n) (names_given set homes s sub) (noted resynced (Some (number.Drew n))) checked held was
challenged_holds set homes s sub checked resynced other held was = was

resynchronised_holds : (set : Setting) (homes : List HomeRow) (s : ServerEnd) (sub : ℕ) (resynced : Option ResyncNote) (drawn : Option NumberNote)
    → is_held homes sub ≡ true → Holds homes s → Holds homes (resynchronised set homes s sub resynced drawn).0
resynchronised_holds set homes s sub (Some (resync.InRange seen seq)) drawn held was =
    challenged_holds set homes (resynchronising s) sub false (Some (resync.InRange seen seq)) drawn held was
resynchronised_holds set homes s sub (Some (resync.Moved seen seq)) drawn held was =
    challenged_holds set homes (resynchronising s) sub false (Some (resync.Moved seen seq)) drawn held was
resynchronised_holds set homes s sub other drawn held was = was

resumed_holds : (set : Setting) (homes left : List HomeRow) (s : ServerEnd) (text : List ℕ) (packets : List (List ℕ)) (sub : ℕ) (c : Option Context)
    → is_held homes sub ≡ true → Holds homes s → Holds homes (resumed_with set left s text packets sub c).0
resumed_holds set homes left s text packets sub None held was = was
resumed_holds set homes left s text packets sub (Some c) held was = (tt, held)

-- also after a turn
does_hold : (set : Setting) (homes : List HomeRow) (s : ServerEnd) (text : List ℕ) (packets : List (List ℕ)) (r : Row) (notes : Notes)
    → IsHeldRow s.options.method set.rows homes r → Holds homes s → Holds homes (server_does set homes s text packets r notes).0
does_hold set homes s text packets (row.Challenge sub) notes held was = challenged_holds set homes (identified s text packets) sub false None notes.number held was
does_hold set homes s text packets (row.Resume sub) notes held was =
    resumed_holds set homes (homes_left s.options.method text homes sub) s text packets sub (context_in s.options.method text homes sub) held was
does_hold set homes s text packets (row.TooSmall sub) notes held was = challenged_holds set homes s sub true None notes.number held was
does_hold set homes s text packets (row.Resynchronise sub seq) notes held was = resynchronised_holds set homes s sub notes.resync notes.number held.0 was
does_hold set homes s text packets (row.Ask kind) notes held was = (tt, tt)
does_hold set homes s text packets other notes held was = was

-- what a server needs holds again after a turn, if the centre has as many subscribers with the same greatest numbers
pub served_again : (all : List rows.Row) (subs subs' : ℕ) (top top' : ℕ → ℕ) (set : Setting) (homes later : List HomeRow) (s new : ServerEnd) (turn : Turn ServerWhy)
    (text : List ℕ) (packets : List (List ℕ)) (r : Row) → subs' ≡ subs → ((i : ℕ) → top' i ≡ top i)
    → (new, turn) ≡ server_does set homes s text packets r turn.notes → later ≡ homes_done homes s text r turn.notes
    → IsHeldRow s.options.method set.rows homes r → IsServed all subs top homes s → IsServed all subs' top' later new
served_again all subs subs' top top' set homes later s new turn text packets r same alike step done held served =
    let is : map (λ (home : HomeRow). home.sub) later ≡ map (λ (home : HomeRow). home.sub) homes =
    ap (λ (l : List HomeRow). map (λ (home : HomeRow). home.sub) l) done ∙ done_subs homes s text r turn.notes in
    let stays : (j : ℕ) → is_held later j ≡ is_held homes j = λ j. same_held homes later j is in
    let now : Holds homes new =
    subst (λ (p : ServerEnd × Turn ServerWhy). Holds homes p.0) (sym step) (does_hold set homes s text packets r turn.notes held (served.held, served.resumed)) in
    record {
      each = homes_again all subs subs' top top' later same alike (subs_each (IsHome all subs top) homes later is served.each);
      held = held_again homes later (challenged_of new) stays now.0;
      resumed = held_too_again homes later (resumed_of new) stays now.1;
    }
