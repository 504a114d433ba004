-- What a turn of a server does to the contexts of one home: at most one move, as its notes tell, and to none of the other method.
use Rattle.std.proofs.Common.{◌≡◌, ◌≢◌, ◌<◌, ◌≤◌, ◌+◌, ℕ, zero, suc, ◌==◌, nat_lt, not, Bool, true, false, cond, List, [], ◌∷◌, ◌++◌, length, map, slice_set, Option, Some, None, refl, sym, ap, ◌∙◌, subst, arith}
use Rattle.std.proofs.Math.Seq.{map-set_same}
use Rattle.std.proofs.lemmas.Bool.Decides.{nat_tests}
use Rattle.std.proofs.lemmas.List.{get_or-set_other, get_or-set_same, length-map}
use Rattle.std.proofs.lemmas.List.Quantifiers.{position-Some}
use Rattle.std.specs.List.{position, prefix_len}
use Rattle.std.specs.Str.{bytes_eq}
use Rattle.auc_hmac.specs.declared.method.Method.{Method}
use Rattle.auc_hmac.specs.declared.method.Method.TheVariants as method
use Rattle.auc_ident.specs.Names.{name_text}
use Rattle.auc_ident.specs.Ordinals.{last_ordinal}
use Rattle.auc_ident.specs.Permanent.{username}
use Rattle.auc_ident.specs.declared.names.NameKind.TheVariants as kinds
use Rattle.auc_packet.specs.Received.{Seen}
use Rattle.auc_reauth.specs.Machine.{Challenge, Lose, Move, Places, Resume, Win, next_in, used_by, used_in, with_place}
use Rattle.auc_reauth.specs.Server.{Contexts, entry_named, if_named, no_contexts}
use Rattle.auc_reauth.specs.Store.{ByMethod, entry, with_entry}
use Rattle.auc_reauth.specs.declared.context.Context.{Context}
use Rattle.auc_server.proofs.Facts.{Says, challenged_subs, given_store, gone, none_resumed, resumed_subs, rewon_subs, says_row, won_subs}
use Rattle.auc_server.specs.Contexts.{context_after, context_in, won_context, first_context, found_at, gives_next, homes_kept, homes_left, homes_resumed, homes_rewon, homes_won, later_context, with_context, with_context_at, without, without_at}
use Rattle.auc_server.specs.Moves.{IsNewName, IsNewOrNone, is_at, moved_by, of_sub, waiting, waiting_at}
use Rattle.auc_server.specs.Ordinals.{home_at, home_place, homes_given, homes_with, ordinal_after, ordinal_at, ordinal_given, with_next}
use Rattle.auc_server.specs.Rows.{server_row, subscriber_in, text_in}
use Rattle.auc_server.specs.Server.{ServerEnd, resumed_of}
use Rattle.auc_subs.specs.Setting.{Setting}
use Rattle.auc_server.specs.Table.{asked, both_of, challenge_of, challenged, challenged_with, failed, gave_up, homes_after, homes_challenged, homes_done, homes_named, identified, identity_given, name_of, names_given, next_given, noted, notified, packets_after, pseudonym_given, random_at, reauthenticated, resumed_with, resumption, resynchronised, resynchronising, server_does, server_step, silent, succeeded, under, unknown, vector_at}
use Rattle.auc_server.specs.declared.options.ServerOptions.{ServerOptions}
use Rattle.auc_server.specs.declared.reply.Reply.{Reply}
use Rattle.auc_server.specs.declared.rows.Row.{Row}
use Rattle.auc_server.specs.declared.rows.Row.TheVariants as row
use Rattle.auc_server.specs.declared.server.Challenged.{Challenged}
use Rattle.auc_server.specs.declared.server.Resumed.{Resumed}
use Rattle.auc_server.specs.declared.server.ServerState.{ServerState}
use Rattle.auc_server.specs.declared.server.ServerState.TheVariants as state
use Rattle.auc_server.specs.declared.setting.HomeRow.{HomeRow}
use Rattle.auc_vector.specs.declared.why.ServerWhy.TheVariants as why
use Rattle.auc_vector.specs.declared.notes.Notes.{Notes}
use Rattle.auc_vector.specs.declared.notes.NumberNote.{NumberNote}
use Rattle.auc_vector.specs.declared.notes.NumberNote.TheVariants as number
use Rattle.auc_vector.specs.declared.notes.ResyncNote.{ResyncNote}
use Rattle.auc_vector.specs.declared.notes.ResyncNote.TheVariants as resync
use Rattle.auc_vector.specs.declared.parts.Vector.{Vector}
use Rattle.auc_world.specs.Places.{IsHomeMove, only}
use Rattle.auc_world.specs.Resumption.{resumed_for}

-- ---- numbers

pub same_number : (m n : ℕ) → (m == n) ≡ true → m ≡ n
same_number m n = grind (arith, nat_tests)

pub is_same : (n : ℕ) → (n == n) ≡ true
is_same n = grind (arith, nat_tests)

pub other_number : (m n : ℕ) → m ≢ n → (m == n) ≡ false
other_number m n = grind (arith, nat_tests)

apart_numbers : (m n : ℕ) → (m == n) ≡ false → m ≢ n
apart_numbers m n = grind (arith, nat_tests)

-- ---- places

pub picks : {X : Type 0} (b : Bool) (x y : X) → b ≡ true → cond b x y ≡ x
picks true x y e = refl
picks false x y e = absurd cc

pub leaves : {X : Type 0} (b : Bool) (x y : X) → b ≡ false → cond b x y ≡ y
leaves true x y e = absurd cc
leaves false x y e = refl

-- what was put at a place is there
pub at_same : (p : ℕ) (x : Option Context) (places : Places) → with_place p x places p ≡ x
at_same p x places = picks (p == p) x (places p) (is_same p)

-- another place stays as it was
pub at_other : (p i : ℕ) (x : Option Context) (places : Places) → i ≢ p → with_place p x places i ≡ places i
at_other p i x places e = leaves (i == p) x (places i) (other_number i p e)

pub store_apart : (t : ℕ) → zero ≢ suc t
store_apart t e = cc

pub session_apart : (t : ℕ) → suc t ≢ zero
session_apart t e = cc

-- ---- what is kept by method

pub entry_same : {X : Type 0} (m : Method) (x : X) (entries : ByMethod X) → entry m (with_entry m x entries) ≡ x
entry_same method.Aka x entries = refl
entry_same method.Prime x entries = refl

pub entry_other : {X : Type 0} (m other : Method) (x : X) (entries : ByMethod X) → other ≢ m → entry other (with_entry m x entries) ≡ entry other entries
entry_other method.Aka method.Aka x entries e = absurd (e refl)
entry_other method.Aka method.Prime x entries e = refl
entry_other method.Prime method.Aka x entries e = refl
entry_other method.Prime method.Prime x entries e = absurd (e refl)

-- ---- the place of a home

abbrev nobody : HomeRow
nobody = record { sub = 0; ordinals = 0; store = no_contexts }

abbrev AreAlike : List HomeRow → List HomeRow → Type 0
AreAlike later homes = map (λ (home : HomeRow). home.sub) later ≡ map (λ (home : HomeRow). home.sub) homes

by_prefix : (homes : List HomeRow) (sub : ℕ)
    → prefix_len (λ (home : HomeRow). not (home.sub == sub)) homes ≡ prefix_len (λ (n : ℕ). not (n == sub)) (map (λ (home : HomeRow). home.sub) homes)
by_prefix [] sub = refl
by_prefix (home ∷ homes) sub = ap (λ (n : ℕ). cond (not (home.sub == sub)) (1 + n) 0) (by_prefix homes sub)

place_by : (m n k l : ℕ) → m ≡ n → k ≡ l → cond (nat_lt m k) (Some m) None ≡ cond (nat_lt n l) (Some n) None
place_by m n k l e f = rw (e, f) refl

by_subs : (homes : List HomeRow) (sub : ℕ) → home_place homes sub ≡ position (λ (n : ℕ). n == sub) (map (λ (home : HomeRow). home.sub) homes)
by_subs homes sub =
    place_by (prefix_len (λ (home : HomeRow). not (home.sub == sub)) homes) (prefix_len (λ (n : ℕ). not (n == sub)) (map (λ (home : HomeRow). home.sub) homes)) (length homes)
    (length (map (λ (home : HomeRow). home.sub) homes)) (by_prefix homes sub) (sym (length-map homes (λ (home : HomeRow). home.sub)))

-- it stays if the homes' subscribers do
pub place_stays : (homes later : List HomeRow) (sub : ℕ) → AreAlike later homes → home_place later sub ≡ home_place homes sub
place_stays homes later sub same = by_subs later sub ∙ ap (position (λ (n : ℕ). n == sub)) same ∙ sym (by_subs homes sub)

pub waiting_stays : (place : ℕ) (homes later : List HomeRow) (left : Option (ℕ × Context)) → AreAlike later homes → waiting_at place later left ≡ waiting_at place homes left
waiting_stays place homes later None same = refl
waiting_stays place homes later (Some c) same = ap (λ (p : Option ℕ). cond (is_at place p) (Some c.1) None) (place_stays homes later c.0 same)

placed_in : (homes : List HomeRow) (sub place : ℕ) → home_place homes sub ≡ Some place → place < length homes
placed_in homes sub place e = (position-Some (λ (home : HomeRow). home.sub == sub) homes place nobody e).0

is_placed : (homes : List HomeRow) (sub place : ℕ) → home_place homes sub ≡ Some place → (home_at homes place).sub ≡ sub
is_placed homes sub place e = same_number (home_at homes place).sub sub (position-Some (λ (home : HomeRow). home.sub == sub) homes place nobody e).1

-- one subscriber's home is at a place
one_sub : (homes : List HomeRow) (sub other place : ℕ) → home_place homes sub ≡ Some place → home_place homes other ≡ Some place → other ≡ sub
one_sub homes sub other place e f = sym (is_placed homes other place f) ∙ is_placed homes sub place e

at_is : (place : ℕ) (o : Option ℕ) → is_at place o ≡ true → o ≡ Some place
at_is place None e = absurd cc
at_is place (Some p) e = ap (λ (n : ℕ). Some n) (same_number p place e)

set_here : (homes : List HomeRow) (sub place : ℕ) (new : HomeRow) → home_place homes sub ≡ Some place → home_at (slice_set homes place new) place ≡ new
set_here homes sub place new e = get_or-set_same homes place new nobody (placed_in homes sub place e)

set_there : (homes : List HomeRow) (at' place : ℕ) (new : HomeRow) → (at' == place) ≡ false → home_at (slice_set homes at' new) place ≡ home_at homes place
set_there homes at' place new other = get_or-set_other homes at' place new nobody (λ same. apart_numbers at' place other (sym same))

-- ---- whose the homes are

next_sub : (home : HomeRow) (ordinal : Option ℕ) → (with_next home ordinal).sub ≡ home.sub
next_sub home None = refl
next_sub home (Some ordinal) = refl

with_subs : (homes : List HomeRow) (place : Option ℕ) → AreAlike (homes_with homes place) homes
with_subs homes None = refl
with_subs homes (Some place) =
    map-set_same (λ (h : HomeRow). h.sub) homes place (with_next (home_at homes place) (ordinal_after (home_at homes place))) nobody
    (next_sub (home_at homes place) (ordinal_after (home_at homes place)))

given_subs : (gives : Bool) (homes : List HomeRow) (sub : ℕ) → AreAlike (homes_given gives homes sub) homes
given_subs false homes sub = refl
given_subs true homes sub = with_subs homes (home_place homes sub)

left_subs : (by : Method) (text : List ℕ) (homes : List HomeRow) (place : Option ℕ) → AreAlike (without_at by text homes place) homes
left_subs by text homes None = refl
left_subs by text homes (Some place) = map-set_same (λ (h : HomeRow). h.sub) homes place (without by text (home_at homes place)) nobody refl

done_subs : (homes : List HomeRow) (s : ServerEnd) (text : List ℕ) (r : Row) (notes : Notes) → AreAlike (homes_done homes s text r notes) homes
done_subs homes s text (row.Challenge sub) notes = challenged_subs s.options homes sub notes.number
done_subs homes s text (row.TooSmall sub) notes = challenged_subs s.options homes sub notes.number
done_subs homes s text (row.Resynchronise sub seq) notes = challenged_subs s.options homes sub notes.number
done_subs homes s text (row.Resume sub) notes = resumed_subs s.options text homes sub (context_in s.options.method text homes sub)
done_subs homes s text (row.Success sent) notes = won_subs s.options.method homes sent
done_subs homes s text (row.Reauthenticated sent) notes = rewon_subs s.options.method homes sent
done_subs homes s text (row.Ignore cause) notes = refl
done_subs homes s text (row.Ask kind) notes = refl
done_subs homes s text row.UnknownIdentity notes = refl
done_subs homes s text row.WrongMac notes = refl
done_subs homes s text row.WrongRes notes = refl
done_subs homes s text row.WrongCheckcode notes = refl
done_subs homes s text row.WrongCounter notes = refl
done_subs homes s text row.SecondSync notes = refl
done_subs homes s text row.BadAuts notes = refl
done_subs homes s text row.Rejected notes = refl
done_subs homes s text (row.ClientError code) notes = refl
done_subs homes s text (row.Notified cause) notes = refl

-- no turn changes it
pub turn_keeps_subs : (set : Setting) (homes : List HomeRow) (s : ServerEnd) (seen : Seen) (said : Reply) (notes : Notes) → AreAlike (homes_after set homes s seen said notes) homes
turn_keeps_subs set homes s seen said notes = done_subs homes s (text_in seen.reading) (server_row set homes s seen said) notes

-- ---- names

some_number : (a b : ℕ) → ◌≡◌ {A = Option ℕ} (Some a) (Some b) → b ≡ a
some_number a b e = cc

some_text : (a b : List ℕ) → ◌≡◌ {A = Option (List ℕ)} (Some a) (Some b) → b ≡ a
some_text a b e = cc

some_context : (a b : Context) → ◌≡◌ {A = Option Context} (Some a) (Some b) → a ≡ b
some_context a b e = cc

given_here : (g : Bool) (homes : List HomeRow) (sub place : ℕ) → home_place homes sub ≡ Some place
    → home_at (homes_given g homes sub) place ≡ cond g (with_next (home_at homes place) (ordinal_after (home_at homes place))) (home_at homes place)
given_here false homes sub place e = refl
given_here true homes sub place e =
    ap (λ (p : Option ℕ). home_at (homes_with homes p) place) e ∙ set_here homes sub place (with_next (home_at homes place) (ordinal_after (home_at homes place))) e

next_rises : (home : HomeRow) (b : Bool) → home.ordinals ≤ (with_next home (cond b None (Some (home.ordinals + 1)))).ordinals
next_rises home true = omega arith
next_rises home false = omega arith

cond_rises : (g : Bool) (home later : HomeRow) → home.ordinals ≤ later.ordinals → home.ordinals ≤ (cond g later home).ordinals
cond_rises true home later e = e
cond_rises false home later e = omega arith

rises_here : (g : Bool) (homes : List HomeRow) (sub place : ℕ) → home_place homes sub ≡ Some place → (home_at homes place).ordinals ≤ (home_at (homes_given g homes sub) place).ordinals
rises_here g homes sub place e =
    let home = home_at homes place in
    subst (λ (later : HomeRow). home.ordinals ≤ later.ordinals) (sym (given_here g homes sub place e))
    (cond_rises g home (with_next home (ordinal_after home)) (next_rises home (home.ordinals == last_ordinal)))

next_is : (home : HomeRow) (b : Bool) (ordinal : ℕ) → cond b None (Some (home.ordinals + 1)) ≡ Some ordinal
    → (ordinal ≡ home.ordinals + 1) × ((with_next home (cond b None (Some (home.ordinals + 1)))).ordinals ≡ home.ordinals + 1)
next_is home true ordinal e = absurd cc
next_is home false ordinal e = (some_number (home.ordinals + 1) ordinal e, refl)

ordinal_here : (g : Bool) (homes : List HomeRow) (sub place ordinal : ℕ) → home_place homes sub ≡ Some place → ordinal_given g homes sub ≡ Some ordinal
    → (ordinal ≡ (home_at homes place).ordinals + 1) × ((home_at (homes_given g homes sub) place).ordinals ≡ (home_at homes place).ordinals + 1)
ordinal_here false homes sub place ordinal e f = absurd cc
ordinal_here true homes sub place ordinal e f =
    let home = home_at homes place in
    let n = next_is home (home.ordinals == last_ordinal) ordinal (sym (ap (ordinal_at homes) e) ∙ f) in
    (n.0, ap (λ (h : HomeRow). h.ordinals) (given_here true homes sub place e) ∙ n.1)

-- a name that is given is new
name_here : (set : Setting) (s : ServerEnd) (g : Bool) (homes : List HomeRow) (sub place : ℕ) (home later : HomeRow) (identity : List ℕ) → home_place homes sub ≡ Some place → home.sub ≡ sub
    → home.ordinals ≤ (home_at homes place).ordinals → (home_at (homes_given g homes sub) place).ordinals ≤ later.ordinals
    → name_of set kinds.Reauth s sub (ordinal_given g homes sub) ≡ Some identity → IsNewName set.names s.options.method home later identity
name_here set s g homes sub place home later identity placed own low high is = by (ordinal_given g homes sub) refl is
  where
    by : (o : Option ℕ) → ordinal_given g homes sub ≡ o → name_of set kinds.Reauth s sub o ≡ Some identity → IsNewName set.names s.options.method home later identity
    by None e f = absurd cc
    by (Some ordinal) e f =
        let o = ordinal_here g homes sub place ordinal placed e in record {
          ordinal = ordinal;
          above = omega (arith, o.0, low);
          used = omega (arith, o.0, o.1, high);
          is = some_text (name_text set.names kinds.Reauth s.options.method sub ordinal) identity f
              ∙ ap (λ (k : ℕ). name_text set.names kinds.Reauth s.options.method k ordinal) (sym own);
        }

-- the next identity among the names of a challenge
given_is : (iv : List ℕ) (a b : Option (List ℕ)) → next_given (under iv (both_of a b)) ≡ b
given_is iv None None = refl
given_is iv (Some text) None = refl
given_is iv None (Some other) = refl
given_is iv (Some text) (Some other) = refl

-- ---- a turn at one home

pub record HomeTurn (set : Setting) (m : Method) (sub place t : ℕ) (homes later : List HomeRow) (before : Option Resumed) (new : ServerEnd) (notes : Notes) (w : Places) : Type 0 where
  pub move : Option Move
  pub allowed : IsHomeMove set m (home_at homes place) (home_at later place) notes move
  pub store : (moved_by move (only w)).place zero ≡ entry m (home_at later place).store
  pub session : (moved_by move (only w)).place (suc t) ≡ waiting_at place later (waiting new.state)
  pub others : (i : ℕ) → i ≢ zero → i ≢ suc t → (moved_by move (only w)).place i ≡ w i
  pub used : resumed_for sub (resumed_of new) ≡ (moved_by move (only w)).used ++ resumed_for sub before

-- the context of a Challenge
context_is : (place : ℕ) (later : List HomeRow) (sub : ℕ) (sent : Challenged) (next : Option (List ℕ)) (c : Context) → waiting_at place later (of_sub sub (first_context sent next)) ≡ Some c
    → (is_at place (home_place later sub) ≡ true) × (next ≡ Some c.identity) × (sent.number ≡ c.origin) × (c.counter ≡ 1)
context_is place later sub sent None c e = absurd cc
context_is place later sub sent (Some identity) c e = by (is_at place (home_place later sub)) refl e
  where
    k : Context
    k = record { origin = sent.number; identity = identity; k_encr = sent.keys.k_encr; k_aut = sent.keys.k_aut; master = sent.master; counter = 1 }

    by : (b : Bool) → is_at place (home_place later sub) ≡ b → cond b (Some k) None ≡ Some c
        → (is_at place (home_place later sub) ≡ true) × (Some identity ≡ Some c.identity) × (sent.number ≡ c.origin) × (c.counter ≡ 1)
    by true here f = let same = some_context k c f in
        (here, ap (λ (x : Context). Some x.identity) same, ap (λ (x : Context). x.origin) same, ap (λ (x : Context). x.counter) (sym same))
    by false here f = absurd cc

named_store : (options : ServerOptions) (homes : List HomeRow) (sub place : ℕ) → (home_at (homes_named options homes sub) place).store ≡ (home_at homes place).store
named_store options homes sub place =
    given_store options.reauth (homes_given options.pseudonym homes sub) sub place ∙ given_store options.pseudonym homes sub place

challenged_store : (options : ServerOptions) (homes : List HomeRow) (sub : ℕ) (drawn : Option NumberNote) (place : ℕ)
    → (home_at (homes_challenged options homes sub drawn) place).store ≡ (home_at homes place).store
challenged_store options homes sub None place = refl
challenged_store options homes sub (Some (number.Drew n)) place = named_store options homes sub place
challenged_store options homes sub (Some (number.Exhausted w)) place = refl
challenged_store options homes sub (Some (number.Withheld n stop)) place = refl

found_by : (b : Bool) (k c : Context) → cond b (Some k) None ≡ Some c → ◌≡◌ {A = Option Context} (Some k) (Some c)
found_by true k c e = e
found_by false k c e = absurd cc

if_named_is : (name : List ℕ) (kept : Option Context) (c : Context) → if_named name kept ≡ Some c → kept ≡ Some c
if_named_is name None c e = absurd cc
if_named_is name (Some k) c e = found_by (bytes_eq k.identity name) k c e

resumed_same : (sub other : ℕ) (r : Resumed) → r.sub ≡ other → other ≡ sub → resumed_for sub (Some r) ≡ used_by r.context.counter r.context ∷ []
resumed_same sub other r e f = picks (r.sub == sub) (used_by r.context.counter r.context ∷ []) [] (ap (λ (n : ℕ). n == sub) (e ∙ f) ∙ is_same sub)

resumed_other : (sub : ℕ) (r : Resumed) → r.sub ≢ sub → resumed_for sub (Some r) ≡ []
resumed_other sub r e = leaves (r.sub == sub) (used_by r.context.counter r.context ∷ []) [] (other_number r.sub sub e)

some_place : (a b : ℕ) → ◌≡◌ {A = Option ℕ} (Some a) (Some b) → a ≡ b
some_place a b e = cc

next_here : (next : Option (List ℕ)) (c : Context) (sub place : ℕ) (homes : List HomeRow) → is_at place (home_place homes sub) ≡ true
    → waiting_at place homes (of_sub sub (later_context c next)) ≡ next_in next (Some c)
next_here None c sub place homes here = refl
next_here (Some identity) c sub place homes here = ap (λ (b : Bool). cond b (Some (record c { identity = identity; counter = c.counter + 1 })) None) here

no_next : (next : Option (List ℕ)) (c : Context) (sub place : ℕ) (homes : List HomeRow) → is_at place (home_place homes sub) ≡ false
    → waiting_at place homes (of_sub sub (later_context c next)) ≡ None
no_next None c sub place homes other = refl
no_next (Some identity) c sub place homes other = ap (λ (b : Bool). cond b (Some (record c { identity = identity; counter = c.counter + 1 })) None) other

module _ (set : Setting) (sub place t : ℕ) (homes : List HomeRow) (s : ServerEnd) (left : Option (ℕ × Context)) (w : Places)
    (placed : home_place homes sub ≡ Some place) (stored : w zero ≡ entry s.options.method (home_at homes place).store) (waits : w (suc t) ≡ waiting_at place homes left) where
  abbrev T : List HomeRow → ServerEnd → Notes → Type 0
  T later new notes = HomeTurn set s.options.method sub place t homes later (resumed_of s) new notes w

  abbrev SameStore : List HomeRow → Type 0
  SameStore later = (home_at later place).store ≡ (home_at homes place).store

  kept_store : (later : List HomeRow) → SameStore later → w zero ≡ entry s.options.method (home_at later place).store
  kept_store later same = stored ∙ ap (λ (c : Contexts). entry s.options.method c) (sym same)

  -- ---- moves

  stays : (later : List HomeRow) (new : ServerEnd) (notes : Notes) → SameStore later → AreAlike later homes → waiting new.state ≡ left → resumed_of new ≡ resumed_of s → T later new notes
  stays later new notes same subs is kept = record {
    move = None;
    allowed = tt;
    store = kept_store later same;
    session = waits ∙ sym (waiting_stays place homes later left subs) ∙ ap (waiting_at place later) (sym is);
    others = λ i e f. refl;
    used = ap (resumed_for sub) kept;
  }

  loses : (later : List HomeRow) (new : ServerEnd) (notes : Notes) → SameStore later → waiting_at place later (waiting new.state) ≡ None
      → resumed_for sub (resumed_of new) ≡ resumed_for sub (resumed_of s) → T later new notes
  loses later new notes same is used = record {
    move = Some (Lose t);
    allowed = tt;
    store = at_other (suc t) zero None w (store_apart t) ∙ kept_store later same;
    session = at_same (suc t) None w ∙ sym is;
    others = λ i e f. at_other (suc t) i None w f;
    used = used;
  }

  comes : (later : List HomeRow) (new : ServerEnd) (notes : Notes) (c : Context) → SameStore later → waiting_at place later (waiting new.state) ≡ Some c
      → IsHomeMove set s.options.method (home_at homes place) (home_at later place) notes (Some (Challenge t c)) → resumed_of new ≡ resumed_of s → T later new notes
  comes later new notes c same is allowed kept = record {
    move = Some (Challenge t c);
    allowed = allowed;
    store = at_other (suc t) zero (Some c) w (store_apart t) ∙ kept_store later same;
    session = at_same (suc t) (Some c) w ∙ sym is;
    others = λ i e f. at_other (suc t) i (Some c) w f;
    used = ap (resumed_for sub) kept;
  }

  wins : (later : List HomeRow) (new : ServerEnd) (notes : Notes) → w (suc t) ≡ entry s.options.method (home_at later place).store → waiting_at place later (waiting new.state) ≡ None
      → resumed_of new ≡ resumed_of s → T later new notes
  wins later new notes same is kept =
      let rest : Places = with_place (suc t) None w in record {
        move = Some (Win t);
        allowed = tt;
        store = at_same zero (w (suc t)) rest ∙ same;
        session = at_other zero (suc t) (w (suc t)) rest (session_apart t) ∙ at_same (suc t) None w ∙ sym is;
        others = λ i e f. at_other zero i (w (suc t)) rest e ∙ at_other (suc t) i None w f;
        used = ap (resumed_for sub) kept;
      }

  resumes : (later : List HomeRow) (new : ServerEnd) (notes : Notes) (next : Option (List ℕ)) (c : Context) → w zero ≡ Some c → entry s.options.method (home_at later place).store ≡ None
      → waiting_at place later (waiting new.state) ≡ next_in next (Some c)
      → IsNewOrNone set.names s.options.method (home_at homes place) (home_at later place) next
      → resumed_for sub (resumed_of new) ≡ used_by c.counter c ∷ [] → resumed_of s ≡ None → T later new notes
  resumes later new notes next c there left' is named used none =
      let rest : Places = with_place zero None w in record {
        move = Some (Resume t next);
        allowed = named;
        store = at_other (suc t) zero (next_in next (w zero)) rest (store_apart t) ∙ at_same zero None w ∙ sym left';
        session = at_same (suc t) (next_in next (w zero)) rest ∙ ap (next_in next) there ∙ sym is;
        others = λ i e f. at_other (suc t) i (next_in next (w zero)) rest f ∙ at_other zero i None w e;
        used = used ∙ ap (λ (r : Option Resumed). (used_by c.counter c ∷ []) ++ resumed_for sub r) (sym none)
            ∙ ap (λ (o : Option Context). (used_in o ++ []) ++ resumed_for sub (resumed_of s)) (sym there);
      }

  -- ---- a challenge

  challenge_allowed : (other n : ℕ) (sent : Challenged) (notes : Notes) (c : Context) → sent.number ≡ n → notes.number ≡ Some (number.Drew n)
      → waiting_at place (homes_named s.options homes other) (of_sub other (first_context sent (next_given (names_given set homes s other)))) ≡ Some c
      → IsHomeMove set s.options.method (home_at homes place) (home_at (homes_named s.options homes other) place) notes (Some (Challenge t c))
  challenge_allowed other n sent notes c is drawn e =
      let later = homes_named s.options homes other in
      let mid = homes_given s.options.pseudonym homes other in
      let x = context_is place later other sent (next_given (names_given set homes s other)) c e in
      let there : home_place homes other ≡ Some place = sym (place_stays homes later other (challenged_subs s.options homes other (Some (number.Drew n)))) ∙ at_is place (home_place later other) x.0 in
      let same : other ≡ sub = one_sub homes sub other place placed there in
      let named : identity_given set homes s other ≡ Some c.identity =
      sym (given_is (random_at set s s.next_iv) (pseudonym_given set homes s other) (identity_given set homes s other)) ∙ x.1 in
      let new : IsNewName set.names s.options.method (home_at homes place) (home_at later place) c.identity =
      name_here set s s.options.reauth mid other place (home_at homes place) (home_at later place) c.identity
      (place_stays homes mid other (given_subs s.options.pseudonym homes other) ∙ there) (is_placed homes other place there) (rises_here s.options.pseudonym homes other place there) (omega arith) named in
      (drawn ∙ ap (λ (m : ℕ). Some (number.Drew m)) (sym is ∙ x.2), x.3, new)

  sent_turn : (other n : ℕ) (v : Vector) (resynced : Option ResyncNote) (checked : Bool) (notes : Notes) → notes.number ≡ Some (number.Drew n)
      → T (homes_named s.options homes other) (challenged_with set.realm s other n (Some v) (names_given set homes s other) (noted resynced (Some (number.Drew n))) checked).0 notes
  sent_turn other n v resynced checked notes drawn =
      by (waiting_at place (homes_named s.options homes other) (of_sub other (first_context sent (next_given (names_given set homes s other))))) refl
    where
      sent : Challenged
      sent = challenge_of s other n v (next_given (names_given set homes s other))

      new : ServerEnd
      new = (challenged_with set.realm s other n (Some v) (names_given set homes s other) (noted resynced (Some (number.Drew n))) checked).0

      by : (o : Option Context) → waiting_at place (homes_named s.options homes other) (of_sub other (first_context sent (next_given (names_given set homes s other)))) ≡ o
          → T (homes_named s.options homes other) new notes
      by None e = loses (homes_named s.options homes other) new notes (named_store s.options homes other place) e refl
      by (Some c) e = comes (homes_named s.options homes other) new notes c (named_store s.options homes other place) e (challenge_allowed other n sent notes c refl drawn e) refl

  with_turn : (other n : ℕ) (v : Option Vector) (resynced : Option ResyncNote) (checked : Bool) (notes : Notes) → notes.number ≡ Some (number.Drew n) → waiting s.state ≡ left
      → T (homes_named s.options homes other) (challenged_with set.realm s other n v (names_given set homes s other) (noted resynced (Some (number.Drew n))) checked).0 notes
  with_turn other n None resynced checked notes drawn e =
      stays (homes_named s.options homes other) s notes (named_store s.options homes other place) (challenged_subs s.options homes other (Some (number.Drew n))) e refl
  with_turn other n (Some v) resynced checked notes drawn e = sent_turn other n v resynced checked notes drawn

  challenged_turn : (other : ℕ) (checked : Bool) (resynced : Option ResyncNote) (n : Option NumberNote) (notes : Notes) → notes.number ≡ n → waiting s.state ≡ left
      → T (homes_challenged s.options homes other n) (challenged set homes s other checked resynced n).0 notes
  challenged_turn other checked resynced None notes drawn e = stays homes s notes refl refl e refl
  challenged_turn other checked resynced (Some (number.Drew n)) notes drawn e = with_turn other n (vector_at set s.options other n) resynced checked notes drawn e
  challenged_turn other checked resynced (Some (number.Exhausted x)) notes drawn e =
      loses homes (challenged set homes s other checked resynced (Some (number.Exhausted x))).0 notes refl refl refl
  challenged_turn other checked resynced (Some (number.Withheld n stop)) notes drawn e =
      loses homes (challenged set homes s other checked resynced (Some (number.Withheld n stop))).0 notes refl refl refl

  -- ---- success

  won_turn : (other : ℕ) (c : Option Context) (new : ServerEnd) (notes : Notes) → left ≡ of_sub other c → waiting new.state ≡ None → resumed_of new ≡ resumed_of s
      → T (homes_kept s.options.method homes other c) new notes
  won_turn other None new notes before after kept = loses homes new notes refl (ap (waiting_at place homes) after) (ap (resumed_for sub) kept)
  won_turn other (Some c) new notes before after kept = at (home_place homes other) refl
    where
      m : Method
      m = s.options.method

      by : (at' : ℕ) (b : Bool) → (at' == place) ≡ b → home_place homes other ≡ Some at' → T (with_context_at m c homes (Some at')) new notes
      by at' true here e =
          let same = same_number at' place here in
          let later = with_context_at m c homes (Some at') in
          let there : home_place homes other ≡ Some place = e ∙ ap (λ (n : ℕ). Some n) same in
          wins later new notes
          (waits ∙ ap (waiting_at place homes) before ∙ ap (λ (p : Option ℕ). cond (is_at place p) (Some c) None) e ∙ ap (λ (b : Bool). cond b (Some c) None) here
          ∙ sym (subst (λ (p : ℕ). entry m (home_at (with_context_at m c homes (Some p)) place).store ≡ Some c) (sym same)
          (ap (λ (h : HomeRow). entry m h.store) (set_here homes other place (with_context m c (home_at homes place)) there) ∙ entry_same m (Some c) (home_at homes place).store)))
          (ap (waiting_at place later) after) kept
      by at' false away e =
          loses (with_context_at m c homes (Some at')) new notes (ap (λ (h : HomeRow). h.store) (set_there homes at' place (with_context m c (home_at homes at')) away))
          (ap (waiting_at place (with_context_at m c homes (Some at'))) after) (ap (resumed_for sub) kept)

      at : (p : Option ℕ) → home_place homes other ≡ p → T (with_context_at m c homes p) new notes
      at None e = loses homes new notes refl (ap (waiting_at place homes) after) (ap (resumed_for sub) kept)
      at (Some at') e = by at' (at' == place) refl e

  succeeded_turn : (sent : Challenged) (notes : Notes) → left ≡ of_sub sent.sub (won_context sent) → T (homes_won s.options.method homes sent) (succeeded s sent).0 notes
  succeeded_turn sent notes e = won_turn sent.sub (won_context sent) (succeeded s sent).0 notes e refl refl

  renewed_turn : (sent : Resumed) (notes : Notes) → left ≡ of_sub sent.sub (context_after sent) → T (homes_rewon s.options.method homes sent) (reauthenticated s sent).0 notes
  renewed_turn sent notes e = won_turn sent.sub (context_after sent) (reauthenticated s sent).0 notes e refl refl

  -- ---- a context that is taken up again

  resumes_by : (text : List ℕ) (packets : List (List ℕ)) (other at' : ℕ) (c : Context) (notes : Notes) (b : Bool) → (at' == place) ≡ b → home_place homes other ≡ Some at'
      → entry_named s.options.method text (home_at homes at').store ≡ Some c → resumed_of s ≡ None
      → T (homes_resumed s.options text homes other (Some c)) (resumed_with set (homes_left s.options.method text homes other) s text packets other (Some c)).0 notes
  resumes_by text packets other at' c notes true here e f none =
      let m = s.options.method in
      let same = same_number at' place here in
      let placed' : home_place homes other ≡ Some place = e ∙ ap (λ (n : ℕ). Some n) same in
      let mid = homes_left m text homes other in
      let later = homes_resumed s.options text homes other (Some c) in
      let r = resumption set mid s other c in
      let one : other ≡ sub = one_sub homes sub other place placed placed' in
      let is : entry_named m text (home_at homes place).store ≡ Some c = subst (λ (p : ℕ). entry_named m text (home_at homes p).store ≡ Some c) same f in
      let there : w zero ≡ Some c = stored ∙ if_named_is (username text) (entry m (home_at homes place).store) c is in
      let placed_mid : home_place mid other ≡ Some place = place_stays homes mid other (left_subs m text homes (home_place homes other)) ∙ placed' in
      let low : (home_at homes place).ordinals ≡ (home_at mid place).ordinals =
      sym (ap (λ (p : Option ℕ). (home_at (without_at m text homes p) place).ordinals) placed'
      ∙ ap (λ (h : HomeRow). h.ordinals) (set_here homes other place (without m text (home_at homes place)) placed')) in
      let named : IsNewOrNone set.names m (home_at homes place) (home_at later place) r.next =
      by_next set s other (gives_next s.options c) mid place (home_at homes place) (home_at later place) placed_mid (is_placed homes other place placed') (omega (arith, low)) (omega arith) r.next refl in
      resumes later (resumed_with set mid s text packets other (Some c)).0 notes r.next c there
      (gone s.options text homes other place c placed' is)
      (next_here r.next c other place later (ap (is_at place) (place_stays homes later other (resumed_subs s.options text homes other (Some c)) ∙ e) ∙ here))
      named (resumed_same sub other r refl one) none
    where
      by_next : (set : Setting) (s : ServerEnd) (other : ℕ) (g : Bool) (mid : List HomeRow) (place : ℕ) (home later : HomeRow) → home_place mid other ≡ Some place → home.sub ≡ other
          → home.ordinals ≤ (home_at mid place).ordinals → (home_at (homes_given g mid other) place).ordinals ≤ later.ordinals → (next : Option (List ℕ))
          → name_of set kinds.Reauth s other (ordinal_given g mid other) ≡ next → IsNewOrNone set.names s.options.method home later next
      by_next set s other g mid place home later placed own low high None e = tt
      by_next set s other g mid place home later placed own low high (Some identity) e = name_here set s g mid other place home later identity placed own low high e
  resumes_by text packets other at' c notes false away e f none =
      let m = s.options.method in
      let mid = homes_left m text homes other in
      let later = homes_resumed s.options text homes other (Some c) in
      let r = resumption set mid s other c in
      loses later (resumed_with set mid s text packets other (Some c)).0 notes
      (given_store (gives_next s.options c) mid other place ∙ ap (λ (p : Option ℕ). (home_at (without_at m text homes p) place).store) e
      ∙ ap (λ (h : HomeRow). h.store) (set_there homes at' place (without m text (home_at homes at')) away))
      (no_next r.next c other place later (ap (is_at place) (place_stays homes later other (resumed_subs s.options text homes other (Some c)) ∙ e) ∙ away))
      (resumed_other sub r (λ one. apart_numbers at' place away (some_place at' place (sym e ∙ ap (home_place homes) one ∙ placed))) ∙ ap (resumed_for sub) (sym none))

  resumed_turn : (text : List ℕ) (packets : List (List ℕ)) (other : ℕ) (at' : Option ℕ) (c : Option Context) (notes : Notes) → home_place homes other ≡ at'
      → found_at s.options.method text homes at' ≡ c → resumed_of s ≡ None → waiting s.state ≡ left
      → T (homes_resumed s.options text homes other c) (resumed_with set (homes_left s.options.method text homes other) s text packets other c).0 notes
  resumed_turn text packets other at' None notes e f none g = stays homes s notes refl refl g refl
  resumed_turn text packets other None (Some c) notes e f none g = absurd cc
  resumed_turn text packets other (Some at') (Some c) notes e f none g = resumes_by text packets other at' c notes (at' == place) refl e f none

-- ---- the rows

module _ (set : Setting) (sub place t : ℕ) (homes : List HomeRow) (s : ServerEnd) (w : Places)
    (placed : home_place homes sub ≡ Some place) (stored : w zero ≡ entry s.options.method (home_at homes place).store) (waits : w (suc t) ≡ waiting_at place homes (waiting s.state)) where
  abbrev R : List HomeRow → ServerEnd → Notes → Type 0
  R later new notes = HomeTurn set s.options.method sub place t homes later (resumed_of s) new notes w

  still : (notes : Notes) → R homes s notes
  still notes = stays set sub place t homes s (waiting s.state) w placed stored waits homes s notes refl refl refl refl

  ends : (later : List HomeRow) (new : ServerEnd) (notes : Notes) → (home_at later place).store ≡ (home_at homes place).store → waiting new.state ≡ None → resumed_of new ≡ resumed_of s → R later new notes
  ends later new notes same is kept =
      loses set sub place t homes s (waiting s.state) w placed stored waits later new notes same (ap (waiting_at place later) is) (ap (resumed_for sub) kept)

  asks_again : (other : ℕ) (resynced : Option ResyncNote) (notes : Notes)
      → R (homes_challenged s.options homes other notes.number) (challenged set homes (resynchronising s) other false resynced notes.number).0 notes
  asks_again other resynced notes =
      challenged_turn set sub place t homes (resynchronising s) (waiting s.state) w placed stored waits other false resynced notes.number notes refl refl

  resynchronised_turn : (other : ℕ) (resynced : Option ResyncNote) (notes : Notes)
      → R (homes_challenged s.options homes other notes.number) (resynchronised set homes s other resynced notes.number).0 notes
  resynchronised_turn other None notes =
      stays set sub place t homes s (waiting s.state) w placed stored waits (homes_challenged s.options homes other notes.number) s notes
      (challenged_store s.options homes other notes.number place) (challenged_subs s.options homes other notes.number) refl refl
  resynchronised_turn other (Some resync.BadAuts) notes =
      stays set sub place t homes s (waiting s.state) w placed stored waits (homes_challenged s.options homes other notes.number) s notes
      (challenged_store s.options homes other notes.number place) (challenged_subs s.options homes other notes.number) refl refl
  resynchronised_turn other (Some (resync.Beyond seen seq)) notes =
      ends (homes_challenged s.options homes other notes.number) (resynchronised set homes s other (Some (resync.Beyond seen seq)) notes.number).0 notes
      (challenged_store s.options homes other notes.number place) refl refl
  resynchronised_turn other (Some (resync.InRange seen seq)) notes = asks_again other (Some (resync.InRange seen seq)) notes
  resynchronised_turn other (Some (resync.Moved seen seq)) notes = asks_again other (Some (resync.Moved seen seq)) notes

  does_turn : (who : Option ℕ) (seen : Seen) (text : List ℕ) (packets : List (List ℕ)) (r : Row) (notes : Notes) → Says who s seen r
      → R (homes_done homes s text r notes) (server_does set homes s text packets r notes).0 notes
  does_turn who seen text packets (row.Ignore cause) notes says = still notes
  does_turn who seen text packets (row.Ask kind) notes says = ends homes (asked s text packets kind).0 notes refl refl (sym (none_resumed s says))
  does_turn who seen text packets row.UnknownIdentity notes says = ends homes (unknown s text packets).0 notes refl refl refl
  does_turn who seen text packets (row.Challenge other) notes says =
      challenged_turn set sub place t homes (identified s text packets) (waiting s.state) w placed stored waits other false None notes.number notes refl refl
  does_turn who seen text packets (row.Resume other) notes says =
      resumed_turn set sub place t homes s (waiting s.state) w placed stored waits text packets other (home_place homes other) (context_in s.options.method text homes other) notes refl refl
      (none_resumed s says) refl
  does_turn who seen text packets (row.TooSmall other) notes says =
      challenged_turn set sub place t homes s (waiting s.state) w placed stored waits other true None notes.number notes refl refl
  does_turn who seen text packets row.WrongCounter notes says = ends homes (notified s why.WrongCounter silent true).0 notes refl refl refl
  does_turn who seen text packets (row.Reauthenticated sent) notes says =
      renewed_turn set sub place t homes s (waiting s.state) w placed stored waits sent notes (ap waiting says.waits)
  does_turn who seen text packets row.WrongMac notes says = ends homes (notified s why.WrongMac silent false).0 notes refl refl refl
  does_turn who seen text packets row.WrongRes notes says = ends homes (notified s why.WrongRes silent true).0 notes refl refl refl
  does_turn who seen text packets row.WrongCheckcode notes says = ends homes (notified s why.WrongCheckcode silent true).0 notes refl refl refl
  does_turn who seen text packets (row.Success sent) notes says =
      succeeded_turn set sub place t homes s (waiting s.state) w placed stored waits sent notes (ap waiting says.waits)
  does_turn who seen text packets row.SecondSync notes says = ends homes (notified s why.SecondSync silent false).0 notes refl refl refl
  does_turn who seen text packets row.BadAuts notes says = ends homes (notified s why.BadAuts (noted (Some resync.BadAuts) None) false).0 notes refl refl refl
  does_turn who seen text packets (row.Resynchronise other seq) notes says = resynchronised_turn other notes.resync notes
  does_turn who seen text packets row.Rejected notes says = ends homes (failed s why.Rejected).0 notes refl refl refl
  does_turn who seen text packets (row.ClientError code) notes says = ends homes (failed s (why.ClientError code)).0 notes refl refl refl
  does_turn who seen text packets (row.Notified cause) notes says = ends homes (failed s cause).0 notes refl refl refl

  -- each turn
  pub turn_moves_home : (seen : Seen) (said : Reply) (notes : Notes)
      → R (homes_after set homes s seen said notes) (server_step set homes s seen said notes).0 notes
  turn_moves_home seen said notes =
      does_turn (subscriber_in s.options.method set homes (text_in seen.reading)) seen (text_in seen.reading)
      (packets_after s seen (server_row set homes s seen said)) (server_row set homes s seen said) notes (says_row set homes s seen said)

  -- a server gives up, or its session has ended before
  pub giving_up_moves_home : (now : ServerState) (notes : Notes) → s.state ≡ now → R homes (gave_up s now).0 notes
  giving_up_moves_home (state.Ended result last) notes e = still notes
  giving_up_moves_home state.AwaitIdentity notes e = ends homes (gave_up s state.AwaitIdentity).0 notes refl refl refl
  giving_up_moves_home (state.Await kind) notes e = ends homes (gave_up s (state.Await kind)).0 notes refl refl refl
  giving_up_moves_home (state.AwaitChallenge sent before) notes e = ends homes (gave_up s (state.AwaitChallenge sent before)).0 notes refl refl refl
  giving_up_moves_home (state.AwaitReauth sent) notes e = ends homes (gave_up s (state.AwaitReauth sent)).0 notes refl refl refl
  giving_up_moves_home (state.Notifying cause last) notes e = ends homes (gave_up s (state.Notifying cause last)).0 notes refl refl refl

-- ---- the other method

set_entry : (m : Method) (homes : List HomeRow) (at' place : ℕ) (new : HomeRow) → entry m new.store ≡ entry m (home_at homes at').store
    → entry m (home_at (slice_set homes at' new) place).store ≡ entry m (home_at homes place).store
set_entry m [] at' place new same = refl
set_entry m (home ∷ homes) zero zero new same = same
set_entry m (home ∷ homes) zero (suc place) new same = refl
set_entry m (home ∷ homes) (suc at') zero new same = refl
set_entry m (home ∷ homes) (suc at') (suc place) new same = set_entry m homes at' place new same

module _ (m : Method) (place : ℕ) where
  abbrev Leaves : List HomeRow → List HomeRow → Type 0
  Leaves homes later = entry m (home_at later place).store ≡ entry m (home_at homes place).store

  challenged_leaves : (options : ServerOptions) (homes : List HomeRow) (sub : ℕ) (drawn : Option NumberNote) → Leaves homes (homes_challenged options homes sub drawn)
  challenged_leaves options homes sub drawn = ap (λ (c : Contexts). entry m c) (challenged_store options homes sub drawn place)

  kept_leaves : (by : Method) (homes : List HomeRow) (sub : ℕ) (c : Option Context) → m ≢ by → Leaves homes (homes_kept by homes sub c)
  kept_leaves by homes sub None e = refl
  kept_leaves by homes sub (Some c) e = at (home_place homes sub)
    where
      at : (p : Option ℕ) → Leaves homes (with_context_at by c homes p)
      at None = refl
      at (Some at') = set_entry m homes at' place (with_context by c (home_at homes at')) (entry_other by m (Some c) (home_at homes at').store e)

  won_leaves : (by : Method) (homes : List HomeRow) (sent : Challenged) → m ≢ by → Leaves homes (homes_won by homes sent)
  won_leaves by homes sent e = kept_leaves by homes sent.sub (won_context sent) e

  rewon_leaves : (by : Method) (homes : List HomeRow) (sent : Resumed) → m ≢ by → Leaves homes (homes_rewon by homes sent)
  rewon_leaves by homes sent e = kept_leaves by homes sent.sub (context_after sent) e

  left_leaves : (by : Method) (text : List ℕ) (homes : List HomeRow) (p : Option ℕ) → m ≢ by → Leaves homes (without_at by text homes p)
  left_leaves by text homes None e = refl
  left_leaves by text homes (Some at') e = set_entry m homes at' place (without by text (home_at homes at')) (entry_other by m _ (home_at homes at').store e)

  resumed_leaves : (options : ServerOptions) (text : List ℕ) (homes : List HomeRow) (sub : ℕ) (c : Option Context) → m ≢ options.method → Leaves homes (homes_resumed options text homes sub c)
  resumed_leaves options text homes sub None e = refl
  resumed_leaves options text homes sub (Some c) e =
      ap (λ (cs : Contexts). entry m cs) (given_store (gives_next options c) (homes_left options.method text homes sub) sub place) ∙ left_leaves options.method text homes (home_place homes sub) e

  done_leaves : (homes : List HomeRow) (s : ServerEnd) (text : List ℕ) (r : Row) (notes : Notes) → m ≢ s.options.method → Leaves homes (homes_done homes s text r notes)
  done_leaves homes s text (row.Challenge sub) notes e = challenged_leaves s.options homes sub notes.number
  done_leaves homes s text (row.TooSmall sub) notes e = challenged_leaves s.options homes sub notes.number
  done_leaves homes s text (row.Resynchronise sub seq) notes e = challenged_leaves s.options homes sub notes.number
  done_leaves homes s text (row.Resume sub) notes e = resumed_leaves s.options text homes sub (context_in s.options.method text homes sub) e
  done_leaves homes s text (row.Success sent) notes e = won_leaves s.options.method homes sent e
  done_leaves homes s text (row.Reauthenticated sent) notes e = rewon_leaves s.options.method homes sent e
  done_leaves homes s text (row.Ignore cause) notes e = refl
  done_leaves homes s text (row.Ask kind) notes e = refl
  done_leaves homes s text row.UnknownIdentity notes e = refl
  done_leaves homes s text row.WrongMac notes e = refl
  done_leaves homes s text row.WrongRes notes e = refl
  done_leaves homes s text row.WrongCheckcode notes e = refl
  done_leaves homes s text row.WrongCounter notes e = refl
  done_leaves homes s text row.SecondSync notes e = refl
  done_leaves homes s text row.BadAuts notes e = refl
  done_leaves homes s text row.Rejected notes e = refl
  done_leaves homes s text (row.ClientError code) notes e = refl
  done_leaves homes s text (row.Notified cause) notes e = refl

  -- each turn
  pub turn_leaves_other : (set : Setting) (homes : List HomeRow) (s : ServerEnd) (seen : Seen) (said : Reply) (notes : Notes) → m ≢ s.options.method
      → Leaves homes (homes_after set homes s seen said notes)
  turn_leaves_other set homes s seen said notes e = done_leaves homes s (text_in seen.reading) (server_row set homes s seen said) notes e
