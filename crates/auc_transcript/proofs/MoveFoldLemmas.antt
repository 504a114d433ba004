-- For the law of contexts: the moves of one home or of one device, which follow each other over events, jobs and rounds.
use Rattle.std.proofs.Common.{◌≡◌, ◌≢◌, ◌⊎◌, ℕ, zero, suc, ◌+◌, ◌<◌, ◌≤◌, ◌==◌, Bool, true, false, cond, List, [], ◌∷◌, ◌++◌, length, get_or, All, AllPairs, Option, Some, None, slice_set, refl, sym, ap, ◌∙◌, subst, arith, inl, inr, ⊎_elim, append-nil}
use Rattle.std.specs.Prelude.{IsPermutation, swap}
use Rattle.std.specs.Option.{option_to_list}
use Rattle.std.proofs.lemmas.Bool.{cases_order}
use Rattle.std.proofs.lemmas.Bool.Decides.{nat_tests}
use Rattle.std.proofs.lemmas.List.{get_or-set_other, get_or-set_same, length-set}
use Rattle.std.proofs.lemmas.List.Edits.{length-swap, swap_is}
use Rattle.std.proofs.lemmas.List.Elements.{All-append, All-cons, All-head, All-nil, All-tail}
use Rattle.std.proofs.lemmas.List.Sorted.{All-permutation, IsPermutation-append_right, IsPermutation-keeps, IsPermutation-refl, IsPermutation-trans}
use Rattle.auc_reauth.specs.Device.{accepting}
use Rattle.auc_reauth.specs.Machine.{Accept, Adopt, AreDifferent, Challenge, EachCounterOnce, EachGivesNew, EachIdentityOnce, EachIsFresh, GivesNew, HaveOwnNames, HomePast, IsFresh, Lose, Move, Places, Resume, Used, Win, accepted_in, after, empty_home, moved, next_in, renamed, used_by, used_in, with_place}
use Rattle.auc_reauth.specs.declared.context.Context.{Context}
use Rattle.auc_server.specs.Moves.{moved_by}
use Rattle.auc_world.specs.Places.{only}

-- ---- pairs

-- any two elements of a list, in whichever order they stand
abbrev AllApart : {X : Type 0} → (X → X → Type 0) → List X → Type 0
AllApart {X} R xs = (i j : ℕ) (d : X) → i ≢ j → i < length xs → j < length xs → R (get_or xs i d) (get_or xs j d)

-- the place from which an element comes when those of two places are exchanged
abbrev comes_from : ℕ → ℕ → ℕ → ℕ
comes_from i j k = cond (k == j) i (cond (k == i) j k)

one_origin : (i j a b : ℕ) → comes_from i j a ≡ comes_from i j b → a ≡ b
one_origin i j a b = grind (arith, nat_tests)

origin_within : (i j k n : ℕ) → i < n → j < n → k < n → comes_from i j k < n
origin_within i j k n = grind (arith, nat_tests)

same_number : (m n : ℕ) → (m == n) ≡ true → m ≡ n
same_number m n = grind (arith, nat_tests)

other_number : (m n : ℕ) → (m == n) ≡ false → m ≢ n
other_number m n = grind (arith, nat_tests)

exchanged_at : {X : Type 0} (xs : List X) (i j k : ℕ) (d : X) → i < length xs → j < length xs → get_or (swap xs i j) k d ≡ get_or xs (comes_from i j k) d
exchanged_at {X} xs i j k d p q = ap (λ (l : List X). get_or l k d) (sym (swap_is xs i j d p q)) ∙ by (k == j) (k == i) refl refl
  where
    first : List X
    first = slice_set xs i (get_or xs j d)

    long : j < length first
    long = omega (arith, length-set xs i (get_or xs j d), q)

    by : (b c : Bool) → (k == j) ≡ b → (k == i) ≡ c → get_or (slice_set first j (get_or xs i d)) k d ≡ get_or xs (cond b i (cond c j k)) d
    by true c e f =
        ap (λ (m : ℕ). get_or (slice_set first j (get_or xs i d)) m d) (same_number k j e) ∙ get_or-set_same first j (get_or xs i d) d long
    by false true e f =
        get_or-set_other first j k (get_or xs i d) d (other_number k j e) ∙ ap (λ (m : ℕ). get_or first m d) (same_number k i f) ∙ get_or-set_same xs i (get_or xs j d) d p
    by false false e f =
        get_or-set_other first j k (get_or xs i d) d (other_number k j e) ∙ get_or-set_other xs i k (get_or xs j d) d (other_number k i f)

exchanged_apart : {X : Type 0} (R : X → X → Type 0) (xs : List X) (i j : ℕ) → i < length xs → j < length xs → AllApart R xs → AllApart R (swap xs i j)
exchanged_apart {X} R xs i j p q all a b d apart below also =
    let long = length-swap xs i j in
    let x : R (get_or xs (comes_from i j a) d) (get_or xs (comes_from i j b) d) =
    all (comes_from i j a) (comes_from i j b) d (λ same. apart (one_origin i j a b same)) (origin_within i j a (length xs) p q (omega (arith, below, long)))
    (origin_within i j b (length xs) p q (omega (arith, also, long))) in
    subst (λ (y : X). R y (get_or (swap xs i j) b d)) (sym (exchanged_at xs i j a d p q)) (subst (R (get_or xs (comes_from i j a) d)) (sym (exchanged_at xs i j b d p q)) x)

apart_of_pairs : {X : Type 0} (R : X → X → Type 0) (xs : List X) → ((x y : X) → R x y → R y x) → AllPairs R xs → AllApart R xs
apart_of_pairs R xs turn all i j d other below also =
    ⊎_elim (λ (same : i ≡ j). absurd (other same))
    (λ (apart : (i < j) ⊎ (j < i)). ⊎_elim (λ (less : i < j). all i j d less also) (λ (more : j < i). turn (get_or xs j d) (get_or xs i d) (all j i d more below)) apart)
    (cases_order i j)

-- a relation that holds both ways of all pairs of a list holds of those of each permutation of it
pub AllPairs-permutation : {X : Type 0} (R : X → X → Type 0) (xs ys : List X) → ((x y : X) → R x y → R y x) → IsPermutation xs ys → AllPairs R xs → AllPairs R ys
AllPairs-permutation R xs ys turn same all i j d less inside =
    IsPermutation-keeps xs (AllApart R) (apart_of_pairs R xs turn all) (λ l a b p q h. exchanged_apart R l a b p q h) ys same i j d (λ e. omega (arith, e, less)) (omega arith) inside

-- ---- places

-- what was put at a place is there
pub at_same : (p : ℕ) (c : Option Context) (places : Places) → with_place p c places p ≡ c
at_same p c places = by (p == p) refl
  where
    by : (b : Bool) → (p == p) ≡ b → cond b c (places p) ≡ c
    by true e = refl
    by false e = absurd (other_number p p e refl)

-- and the other places stay as they were
pub at_other : (p i : ℕ) (c : Option Context) (places : Places) → i ≢ p → with_place p c places i ≡ places i
at_other p i c places other = by (i == p) refl
  where
    by : (b : Bool) → (i == p) ≡ b → cond b c (places i) ≡ places i
    by true e = absurd (other (same_number i p e))
    by false e = refl

with_alike : (p : ℕ) (c d : Option Context) (x y : Places) → c ≡ d → ((i : ℕ) → x i ≡ y i) → (i : ℕ) → with_place p c x i ≡ with_place p d y i
with_alike p c d x y same alike i = ap (λ (e : Option Context). cond (i == p) e (x i)) same ∙ ap (λ (e : Option Context). cond (i == p) d e) (alike i)

-- a move does the same to places that are equal at each place
moved_alike : (m : Move) (w v : HomePast) → ((i : ℕ) → w.place i ≡ v.place i) → (i : ℕ) → (moved m w).place i ≡ (moved m v).place i
moved_alike (Challenge t c) w v alike = with_alike (suc t) (Some c) (Some c) w.place v.place refl alike
moved_alike (Resume t identity) w v alike =
    with_alike (suc t) (next_in identity (w.place zero)) (next_in identity (v.place zero)) (with_place zero None w.place) (with_place zero None v.place) (ap (next_in identity) (alike zero))
    (with_alike zero None None w.place v.place refl alike)
moved_alike (Accept counter) w v alike = with_alike zero (accepting counter (w.place zero)) (accepting counter (v.place zero)) w.place v.place (ap (accepting counter) (alike zero)) alike
moved_alike (Win t) w v alike =
    with_alike zero (w.place (suc t)) (v.place (suc t)) (with_place (suc t) None w.place) (with_place (suc t) None v.place) (alike (suc t)) (with_alike (suc t) None None w.place v.place refl alike)
moved_alike (Lose t) w v alike = with_alike (suc t) None None w.place v.place refl alike
moved_alike (Adopt identity) w v alike = with_alike zero (renamed identity (w.place zero)) (renamed identity (v.place zero)) w.place v.place (ap (renamed identity) (alike zero)) alike

-- ---- what a move adds

abbrev pub origins_in : Move → List ℕ
origins_in (Challenge t c) = c.origin ∷ []
origins_in (Resume t identity) = []
origins_in (Accept counter) = []
origins_in (Win t) = []
origins_in (Lose t) = []
origins_in (Adopt identity) = []

abbrev pub given_in : Move → List (List ℕ)
given_in (Challenge t c) = c.identity ∷ []
given_in (Resume t identity) = option_to_list identity
given_in (Accept counter) = []
given_in (Win t) = []
given_in (Lose t) = []
given_in (Adopt identity) = []

abbrev used_with : Move → Option Context → List Used
used_with (Challenge t c) stored = []
used_with (Resume t identity) stored = used_in stored
used_with (Accept counter) stored = accepted_in counter stored
used_with (Win t) stored = []
used_with (Lose t) stored = []
used_with (Adopt identity) stored = []

moved_used : (m : Move) (w : HomePast) → (moved m w).used ≡ used_with m (w.place zero) ++ w.used
moved_used (Challenge t c) w = refl
moved_used (Resume t identity) w = refl
moved_used (Accept counter) w = refl
moved_used (Win t) w = refl
moved_used (Lose t) w = refl
moved_used (Adopt identity) w = refl

moved_origins : (m : Move) (w : HomePast) → (moved m w).origins ≡ origins_in m ++ w.origins
moved_origins (Challenge t c) w = refl
moved_origins (Resume t identity) w = refl
moved_origins (Accept counter) w = refl
moved_origins (Win t) w = refl
moved_origins (Lose t) w = refl
moved_origins (Adopt identity) w = refl

moved_given : (m : Move) (w : HomePast) → (moved m w).given ≡ given_in m ++ w.given
moved_given (Challenge t c) w = refl
moved_given (Resume t identity) w = refl
moved_given (Accept counter) w = refl
moved_given (Win t) w = refl
moved_given (Lose t) w = refl
moved_given (Adopt identity) w = refl

-- the same of a move that there may be
abbrev pub origins_of : Option Move → List ℕ
origins_of None = []
origins_of (Some m) = origins_in m

abbrev pub given_of : Option Move → List (List ℕ)
given_of None = []
given_of (Some m) = given_in m

-- ---- moves one after the other

after-push : (ms : List Move) (m : Move) (w : HomePast) → after (ms ++ m ∷ []) w ≡ moved m (after ms w)
after-push [] m w = refl
after-push (n ∷ ms) m w = after-push ms m (moved n w)

-- each of some moves meets a condition on the home before it
abbrev pub EachMeets : (Move → HomePast → Type 0) → List Move → HomePast → Type 0
EachMeets P [] w = Unit {0}
EachMeets P (m ∷ ms) w = P m w × EachMeets P ms (moved m w)

meets-push : (P : Move → HomePast → Type 0) (ms : List Move) (m : Move) (w : HomePast) → EachMeets P ms w → P m (after ms w) → EachMeets P (ms ++ m ∷ []) w
meets-push P [] m w all last = (last, tt)
meets-push P (n ∷ ms) m w all last = (all.0, meets-push P ms m (moved n w) all.1 last)

each_fresh : (P : Move → HomePast → Type 0) (ms : List Move) (w : HomePast) → ((m : Move) (v : HomePast) → P m v → IsFresh m v) → EachMeets P ms w → EachIsFresh ms w
each_fresh P [] w is all = tt
each_fresh P (m ∷ ms) w is all = (is m w all.0, each_fresh P ms (moved m w) is all.1)

each_new : (P : Move → HomePast → Type 0) (ms : List Move) (w : HomePast) → ((m : Move) (v : HomePast) → P m v → GivesNew m v) → EachMeets P ms w → EachGivesNew ms w
each_new P [] w is all = tt
each_new P (m ∷ ms) w is all = (is m w all.0, each_new P ms (moved m w) is all.1)

-- moves from nothing, each of which meets a condition, lead to these places; they used these counters, in some order, and these
-- are the origins and the identities that they gave
pub record AreLedTo (P : Move → HomePast → Type 0) (places : Places) (used : List Used) (origins : List ℕ) (given : List (List ℕ)) : Type 0 where
  pub moves : List Move
  pub meet : EachMeets P moves empty_home
  pub places_are : (i : ℕ) → (after moves empty_home).place i ≡ places i
  pub used_are : IsPermutation (after moves empty_home).used used
  pub origins_are : (after moves empty_home).origins ≡ origins
  pub given_are : (after moves empty_home).given ≡ given

-- at the beginning there is nothing
pub led_to_nothing : (P : Move → HomePast → Type 0) → AreLedTo P (λ i. None) [] [] []
led_to_nothing P = record {
  moves = [];
  meet = tt;
  places_are = λ i. refl;
  used_are = IsPermutation-refl [];
  origins_are = refl;
  given_are = refl;
}

-- places that are equal at each place
pub led_alike : (P : Move → HomePast → Type 0) (old new : Places) (before since : List Used) (origins : List ℕ) (given : List (List ℕ)) → ((i : ℕ) → new i ≡ old i) → IsPermutation before since
    → AreLedTo P old before origins given → AreLedTo P new since origins given
led_alike P old new before since origins given same used k = record {
  moves = k.moves;
  meet = k.meet;
  places_are = λ i. k.places_are i ∙ sym (same i);
  used_are = IsPermutation-trans (after k.moves empty_home).used before since k.used_are used;
  origins_are = k.origins_are;
  given_are = k.given_are;
}

-- a home has these places, origins and identities
pub record Has (w : HomePast) (places : Places) (origins : List ℕ) (given : List (List ℕ)) : Type 0 where
  pub places_are : (i : ℕ) → w.place i ≡ places i
  pub origins_are : w.origins ≡ origins
  pub given_are : w.given ≡ given

-- a move that there may be meets the condition at each home with what is there
abbrev pub MayMove : (Move → HomePast → Type 0) → Places → List ℕ → List (List ℕ) → Option Move → Type 0
MayMove P places origins given None = Unit {0}
MayMove P places origins given (Some m) = (w : HomePast) → Has w places origins given → P m w

-- one move more, or none
pub led_on : (P : Move → HomePast → Type 0) (old new : Places) (before since : List Used) (origins : List ℕ) (given : List (List ℕ)) (move : Option Move)
    → ((i : ℕ) → new i ≡ (moved_by move (only old)).place i) → IsPermutation ((moved_by move (only old)).used ++ before) since → MayMove P old origins given move
    → AreLedTo P old before origins given → AreLedTo P new since (origins_of move ++ origins) (given_of move ++ given)
led_on P old new before since origins given None places used meets k = led_alike P old new before since origins given places used k
led_on P old new before since origins given (Some m) places used meets k = record {
  moves = k.moves ++ m ∷ [];
  meet = meets-push P k.moves m empty_home k.meet (meets was (record { places_are = k.places_are; origins_are = k.origins_are; given_are = k.given_are }));
  places_are = λ i. ap (λ (w : HomePast). w.place i) now ∙ moved_alike m was (only old) k.places_are i ∙ sym (places i);
  used_are = subst (λ (w : HomePast). IsPermutation w.used since) (sym now) (subst (λ (l : List Used). IsPermutation l since) (sym (moved_used m was)) all_used);
  origins_are = ap (λ (w : HomePast). w.origins) now ∙ moved_origins m was ∙ ap (λ (l : List ℕ). origins_in m ++ l) k.origins_are;
  given_are = ap (λ (w : HomePast). w.given) now ∙ moved_given m was ∙ ap (λ (l : List (List ℕ)). given_in m ++ l) k.given_are;
}
  where
    was : HomePast
    was = after k.moves empty_home

    now : after (k.moves ++ m ∷ []) empty_home ≡ moved m was
    now = after-push k.moves m empty_home

    adds : used_with m (was.place zero) ++ before ≡ (moved m (only old)).used ++ before
    adds =
        ap (λ (c : Option Context). used_with m c ++ before) (k.places_are zero)
        ∙ sym (ap (λ (l : List Used). l ++ before) (moved_used m (only old) ∙ append-nil (used_with m (old zero))))

    all_used : IsPermutation (used_with m (was.place zero) ++ was.used) since
    all_used =
        IsPermutation-trans (used_with m (was.place zero) ++ was.used) (used_with m (was.place zero) ++ before) since
        (IsPermutation-append_right (used_with m (was.place zero)) was.used before k.used_are) (subst (λ (l : List Used). IsPermutation l since) (sym adds) used)

-- ---- between two jobs

-- only the store has a context
abbrev pub stored_alone : Option Context → Places
stored_alone c zero = c
stored_alone c (suc t) = None

lost_session : (t u : ℕ) (places : Places) → ((v : ℕ) → suc t ≤ v → places (suc v) ≡ None) → t ≤ u → with_place (suc t) None places (suc u) ≡ None
lost_session t u places none above = by (suc u == suc t) refl
  where
    by : (b : Bool) → (suc u == suc t) ≡ b → cond b None (places (suc u)) ≡ None
    by true e = refl
    by false e = let other = other_number (suc u) (suc t) e in none u (apart (cases_order u t) (λ same. other (ap (λ (n : ℕ). suc n) same)))
      where
        apart : (u ≡ t) ⊎ ((u < t) ⊎ (t < u)) → u ≢ t → suc t ≤ u
        apart (inl same) other = absurd (other same)
        apart (inr (inl less)) other = absurd (omega (arith, less, above))
        apart (inr (inr more)) other = omega (arith, more)

-- what sessions would leave is forgotten
pub led_between : (P : Move → HomePast → Type 0) (n : ℕ) (places : Places) (used : List Used) (origins : List ℕ) (given : List (List ℕ)) → ((t : ℕ) (w : HomePast) → P (Lose t) w)
    → ((t : ℕ) → n ≤ t → places (suc t) ≡ None) → AreLedTo P places used origins given → AreLedTo P (stored_alone (places zero)) used origins given
led_between P zero places used origins given may none k =
    led_alike P places (stored_alone (places zero)) used used origins given alone (IsPermutation-refl used) k
  where
    alone : (i : ℕ) → stored_alone (places zero) i ≡ places i
    alone zero = refl
    alone (suc t) = sym (none t (omega arith))
led_between P (suc n) places used origins given may none k =
    let lost : Places = with_place (suc n) None places in
    subst (λ (c : Option Context). AreLedTo P (stored_alone c) used origins given) (at_other (suc n) zero None places (λ e. omega (arith, e)))
    (led_between P n lost used origins given may (λ t above. lost_session n t places none above)
    (led_on P places lost used used origins given (Some (Lose n)) (λ i. refl) (IsPermutation-refl used) (λ w has. may n w) k))

-- ---- what moves promise

turned_counters : (u v : Used) → AreDifferent u v → AreDifferent v u
turned_counters u v differ same counter = differ (sym same) (sym counter)

turned_names : (u v : Used) → HaveOwnNames u v → HaveOwnNames v u
turned_names u v differ same = differ (sym same)

-- no counter is used twice
pub led_counters_differ : EachCounterOnce → (P : Move → HomePast → Type 0) (places : Places) (used : List Used) (origins : List ℕ) (given : List (List ℕ)) → ((m : Move) (w : HomePast) → P m w → IsFresh m w)
    → AreLedTo P places used origins given → AllPairs AreDifferent used
led_counters_differ law P places used origins given is k =
    AllPairs-permutation AreDifferent (after k.moves empty_home).used used turned_counters k.used_are (law k.moves (each_fresh P k.moves empty_home is k.meet))

-- no identity is resumed twice
pub led_names_differ : EachIdentityOnce → (P : Move → HomePast → Type 0) (places : Places) (used : List Used) (origins : List ℕ) (given : List (List ℕ)) → ((m : Move) (w : HomePast) → P m w → GivesNew m w)
    → AreLedTo P places used origins given → AllPairs HaveOwnNames used
led_names_differ law P places used origins given is k =
    AllPairs-permutation HaveOwnNames (after k.moves empty_home).used used turned_names k.used_are (law k.moves (each_new P k.moves empty_home is k.meet))

-- ---- what identities are

-- all contexts, and what was used, have identities of a kind
record Named (Q : List ℕ → Type 0) (w : HomePast) : Type 0 where
  contexts : (i : ℕ) (c : Context) → w.place i ≡ Some c → Q c.identity
  used : All (λ u. Q u.identity) w.used

no_context : (c : Context) → ◌≡◌ {A = Option Context} None (Some c) → ⊥
no_context c e = cc

one_context : (a b : Context) → ◌≡◌ {A = Option Context} (Some a) (Some b) → a ≡ b
one_context a b e = cc

module _ (Q : List ℕ → Type 0) where
  put_named : (p : ℕ) (c : Option Context) (places : Places) → ((x : Context) → c ≡ Some x → Q x.identity) → ((i : ℕ) (x : Context) → places i ≡ Some x → Q x.identity) → (i : ℕ) (x : Context)
      → with_place p c places i ≡ Some x → Q x.identity
  put_named p c places here there i x = by (i == p)
    where
      by : (b : Bool) → cond b c (places i) ≡ Some x → Q x.identity
      by true e = here x e
      by false e = there i x e

  cleared : (p : ℕ) (places : Places) → ((i : ℕ) (x : Context) → places i ≡ Some x → Q x.identity) → (i : ℕ) (x : Context) → with_place p None places i ≡ Some x → Q x.identity
  cleared p places there = put_named p None places (λ x e. absurd (no_context x e)) there

  next_named : (identity : Option (List ℕ)) (c : Option Context) (given : List (List ℕ)) → All Q (option_to_list identity ++ given) → (x : Context) → next_in identity c ≡ Some x → Q x.identity
  next_named identity None given all x e = absurd (no_context x e)
  next_named None (Some c) given all x e = absurd (no_context x e)
  next_named (Some identity) (Some c) given all x e =
      subst (λ (y : Context). Q y.identity) (one_context (record c { identity = identity; counter = c.counter + 1 }) x e) (All-head Q identity given all)

  used_named : (c : Option Context) → ((x : Context) → c ≡ Some x → Q x.identity) → All (λ u. Q u.identity) (used_in c)
  used_named None named = All-nil (λ (u : Used). Q u.identity)
  used_named (Some c) named = All-cons (λ (u : Used). Q u.identity) (used_by c.counter c) [] (named c refl) (All-nil (λ (u : Used). Q u.identity))

  moved_named : (m : Move) (w : HomePast) → GivesNew m w → All Q (moved m w).given → Named Q w → Named Q (moved m w)
  moved_named (Challenge t c) w new all named = record {
    contexts = put_named (suc t) (Some c) w.place (λ x e. subst (λ (y : Context). Q y.identity) (one_context c x e) (All-head Q c.identity w.given all)) named.contexts;
    used = named.used;
  }
  moved_named (Resume t identity) w new all named = record {
    contexts = put_named (suc t) (next_in identity (w.place zero)) (with_place zero None w.place) (next_named identity (w.place zero) w.given all) (cleared zero w.place named.contexts);
    used = All-append (λ (u : Used). Q u.identity) (used_in (w.place zero)) w.used (used_named (w.place zero) (named.contexts zero)) named.used;
  }
  moved_named (Accept counter) w new all named = absurd new
  moved_named (Win t) w new all named = record {
    contexts = put_named zero (w.place (suc t)) (with_place (suc t) None w.place) (named.contexts (suc t)) (cleared (suc t) w.place named.contexts);
    used = named.used;
  }
  moved_named (Lose t) w new all named = record { contexts = cleared (suc t) w.place named.contexts; used = named.used }
  moved_named (Adopt identity) w new all named = absurd new

  given_before : (m : Move) (w : HomePast) → All Q (moved m w).given → All Q w.given
  given_before m w all = All-right (given_in m) w.given (subst (All Q) (moved_given m w) all)
    where
      All-right : (xs ys : List (List ℕ)) → All Q (xs ++ ys) → All Q ys
      All-right [] ys all = all
      All-right (x ∷ xs) ys all = All-right xs ys (All-tail Q x (xs ++ ys) all)

  given_first : (ms : List Move) (w : HomePast) → All Q (after ms w).given → All Q w.given
  given_first [] w all = all
  given_first (m ∷ ms) w all = given_before m w (given_first ms (moved m w) all)

  after_named : (ms : List Move) (w : HomePast) → EachGivesNew ms w → All Q (after ms w).given → Named Q w → Named Q (after ms w)
  after_named [] w new all named = named
  after_named (m ∷ ms) w new all named = after_named ms (moved m w) new.1 all (moved_named m w new.0 (given_first ms (moved m w) all) named)

  -- what was used has one of the identities that were given
  pub led_named : (P : Move → HomePast → Type 0) (places : Places) (used : List Used) (origins : List ℕ) (given : List (List ℕ)) → ((m : Move) (w : HomePast) → P m w → GivesNew m w)
      → AreLedTo P places used origins given → All Q given → All (λ u. Q u.identity) used
  led_named P places used origins given is k all =
      All-permutation (λ (u : Used). Q u.identity) (after k.moves empty_home).used used k.used_are
      (after_named k.moves empty_home (each_new P k.moves empty_home is k.meet) (subst (All Q) (sym k.given_are) all)
      (record { contexts = λ i c e. absurd (no_context c e); used = All-nil (λ (u : Used). Q u.identity) })).used
