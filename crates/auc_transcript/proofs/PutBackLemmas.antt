-- For the laws of contexts: where a job has a subscriber's home and device, what it begins with there, and what is kept of the
-- subscriber after it.
use Rattle.std.proofs.Common.{◌≡◌, ◌≢◌, ℕ, zero, suc, ◌+◌, ◌==◌, ◌||◌, ◌<◌, nat_lt, not, cond, Bool, true, false, List, [], ◌∷◌, ◌++◌, length, get_or, map, fold, flat_map, position, All, Option, Some, None, slice_get, slice_set, refl, sym, ap, ◌∙◌, subst, arith, inl, inr}
use Rattle.std.specs.Prelude.{if◌then◌else◌}
use Rattle.std.specs.List.{list_any, position_or_len}
use Rattle.std.proofs.lemmas.Bool.{eq-eqb, eqb-true, or_left, or_right}
use Rattle.std.proofs.lemmas.Bool.Decides.{nat_tests}
use Rattle.std.proofs.lemmas.List.{length-set}
use Rattle.std.proofs.lemmas.List.Elements.{All-head, All-tail}
use Rattle.std.proofs.lemmas.List.Folds.{list_any-append}
use Rattle.std.proofs.lemmas.Option.{get_or_from_slice_get, slice_get_cases, slice_get_within}
use Rattle.auc_memory.specs.Identity.{Identity}
use Rattle.auc_lines.specs.Part.{held_by, held_subs, holds, is_held_by, is_that, with_held}
use Rattle.auc_lines.specs.declared.part.Line.{Line}
use Rattle.auc_peer.specs.Subscription.{Subscription}
use Rattle.auc_reauth.specs.Device.{Keeps}
use Rattle.auc_server.specs.Ordinals.{home_at, home_place}
use Rattle.auc_subs.specs.Setting.{Setting}
use Rattle.auc_server.specs.declared.setting.HomeRow.{HomeRow}
use Rattle.auc_subs.specs.Subscriber.{AreSubscribers, same_identity}
use Rattle.auc_subs.specs.declared.row.Row.{Row}
use Rattle.auc_world.specs.Net.{device_place, keeps_or, place_with}
use Rattle.auc_world.specs.Start.{Kept, home_of, keeps_by, keeps_of, kept_now, kept_of, kept_or, put_back, subscription_at, subscription_by}

-- ---- first places

-- a place that is counted from the second element on
abbrev pub up : Option ℕ → Option ℕ
up None = None
up (Some i) = Some (suc i)

pub place_hit : {X : Type 0} (p : X → Bool) (x : X) (xs : List X) → p x ≡ true → position p (x ∷ xs) ≡ Some zero
place_hit p x xs e =
    ap (λ (b : Bool). cond (nat_lt (cond (not b) (1 + position_or_len p xs) 0) (suc (length xs))) (Some (cond (not b) (1 + position_or_len p xs) 0)) None) e
    ∙ ap (λ (t : Bool). cond t (Some zero) None) (some (length xs))
  where
    some : (len : ℕ) → nat_lt 0 (suc len) ≡ true
    some len = grind (arith, nat_tests)

pub place_miss : {X : Type 0} (p : X → Bool) (x : X) (xs : List X) → p x ≡ false → position p (x ∷ xs) ≡ up (position p xs)
place_miss p x xs e =
    ap (λ (b : Bool). cond (nat_lt (cond (not b) (1 + position_or_len p xs) 0) (suc (length xs))) (Some (cond (not b) (1 + position_or_len p xs) 0)) None) e
    ∙ ap (λ (t : Bool). cond t (Some (1 + position_or_len p xs)) None) (less (position_or_len p xs) (length xs)) ∙ next (position_or_len p xs) (nat_lt (position_or_len p xs) (length xs))
  where
    less : (n len : ℕ) → nat_lt (1 + n) (suc len) ≡ nat_lt n len
    less n len = grind (arith, nat_tests)

    next : (n : ℕ) (b : Bool) → cond b (Some (1 + n)) None ≡ up (cond b (Some n) None)
    next n false = refl
    next n true = let same : ◌≡◌ {A = ℕ} (1 + n) (suc n) = omega arith in ap Some same

-- the place of a subscriber among some
abbrev pub place_among : ℕ → List ℕ → Option ℕ
place_among sub subs = position (λ s. s == sub) subs

-- the place of a home is that of its subscriber
pub home_among : (homes : List HomeRow) (sub : ℕ) → home_place homes sub ≡ place_among sub (map (λ (home : HomeRow). home.sub) homes)
home_among [] sub = refl
home_among (h ∷ homes) sub = by (home_among homes sub) (h.sub == sub) refl
  where
    by : home_place homes sub ≡ place_among sub (map (λ (home : HomeRow). home.sub) homes) → (b : Bool) → (h.sub == sub) ≡ b
        → home_place (h ∷ homes) sub ≡ place_among sub (h.sub ∷ map (λ (home : HomeRow). home.sub) homes)
    by rest true e = place_hit (λ (home : HomeRow). home.sub == sub) h homes e ∙ sym (place_hit (λ (s : ℕ). s == sub) h.sub (map (λ (home : HomeRow). home.sub) homes) e)
    by rest false e =
        place_miss (λ (home : HomeRow). home.sub == sub) h homes e ∙ ap up rest
        ∙ sym (place_miss (λ (s : ℕ). s == sub) h.sub (map (λ (home : HomeRow). home.sub) homes) e)

-- ---- the subscribers that a job holds

with_one : (sub : ℕ) (subs : List ℕ) (o : Option ℕ) → list_any (λ s. s == sub) (with_held subs o) ≡ (list_any (λ s. s == sub) subs || is_that sub o)
with_one sub subs None = sym (or_none (list_any (λ s. s == sub) subs))
  where
    or_none : (b : Bool) → (b || false) ≡ b
    or_none true = refl
    or_none false = refl
with_one sub subs (Some other) = by (list_any (λ s. s == other) subs) refl
  where
    right : (b c : Bool) → (b || (c || false)) ≡ (b || c)
    right true c = refl
    right false true = refl
    right false false = refl

    kept : (any that : Bool) → (that ≡ true → any ≡ true) → any ≡ (any || that)
    kept true that same = refl
    kept false true same = same refl
    kept false false same = refl

    by : (b : Bool) → list_any (λ s. s == other) subs ≡ b → list_any (λ s. s == sub) (if b then subs else subs ++ other ∷ []) ≡ (list_any (λ s. s == sub) subs || (other == sub))
    by true e = kept (list_any (λ s. s == sub) subs) (other == sub) (λ is. subst (λ (n : ℕ). list_any (λ s. s == n) subs ≡ true) (eqb-true other sub is) e)
    by false e = list_any-append (λ s. s == sub) subs (other ∷ []) ∙ right (list_any (λ s. s == sub) subs) (other == sub)

held_in : (sub : ℕ) (subs : List ℕ) (job : List Line)
    → list_any (λ s. s == sub) (fold (λ have l. with_held have (held_by l)) subs job) ≡ (list_any (λ s. s == sub) subs || holds sub job)
held_in sub subs [] = sym (or_none (list_any (λ s. s == sub) subs))
  where
    or_none : (b : Bool) → (b || false) ≡ b
    or_none true = refl
    or_none false = refl
held_in sub subs (l ∷ job) =
    held_in sub (with_held subs (held_by l)) job ∙ ap (λ (b : Bool). b || holds sub job) (with_one sub subs (held_by l))
    ∙ assoc (list_any (λ s. s == sub) subs) (is_held_by sub l) (holds sub job)
  where
    assoc : (a b c : Bool) → ((a || b) || c) ≡ (a || (b || c))
    assoc true b c = refl
    assoc false b c = refl

-- a job holds the USIMs of these, and no others
pub held_is : (sub : ℕ) (job : List Line) → list_any (λ s. s == sub) (held_subs job) ≡ holds sub job
held_is sub job = held_in sub [] job

any_own : (subs : List ℕ) (k d : ℕ) → k < length subs → list_any (λ s. s == get_or subs k d) subs ≡ true
any_own [] k d inside = absurd (omega arith)
any_own (s ∷ subs) zero d inside = or_left (s == s) (list_any (λ x. x == s) subs) (eq-eqb s s refl)
any_own (s ∷ subs) (suc k) d inside = or_right (s == get_or subs k d) (list_any (λ x. x == get_or subs k d) subs) (any_own subs k d (omega arith))

-- a job that holds USIMs of known subscribers alone
pub held_known : (count : ℕ) (job : List Line) → ((sub : ℕ) → holds sub job ≡ true → sub < count) → All (λ s. s < count) (held_subs job)
held_known count job known k d inside = let s = get_or (held_subs job) k d in known s (sym (held_is s job) ∙ any_own (held_subs job) k d inside)

none_among : (sub : ℕ) (subs : List ℕ) → list_any (λ s. s == sub) subs ≡ false → place_among sub subs ≡ None
none_among sub [] none = refl
none_among sub (s ∷ subs) none = by (none_among sub subs) (s == sub) refl
  where
    left : (a b : Bool) → (a || b) ≡ false → a ≡ true → ⊥
    left true b e f = cc
    left false b e f = cc

    right : (a b : Bool) → (a || b) ≡ false → b ≡ false
    right true b e = absurd cc
    right false b e = e

    by : (list_any (λ x. x == sub) subs ≡ false → place_among sub subs ≡ None) → (b : Bool) → (s == sub) ≡ b → place_among sub (s ∷ subs) ≡ None
    by rest true e = absurd (left (s == sub) (list_any (λ x. x == sub) subs) none e)
    by rest false e = place_miss (λ (x : ℕ). x == sub) s subs e ∙ ap up (rest (right (s == sub) (list_any (λ x. x == sub) subs) none))

some_among : (sub : ℕ) (subs : List ℕ) → list_any (λ s. s == sub) subs ≡ true → (p : ℕ) × (place_among sub subs ≡ Some p)
some_among sub [] some = absurd cc
some_among sub (s ∷ subs) some = by (some_among sub subs) (s == sub) refl
  where
    right : (a b : Bool) → (a || b) ≡ true → a ≡ false → b ≡ true
    right true b e f = absurd cc
    right false b e f = e

    by : (list_any (λ x. x == sub) subs ≡ true → (p : ℕ) × (place_among sub subs ≡ Some p)) → (b : Bool) → (s == sub) ≡ b → (p : ℕ) × (place_among sub (s ∷ subs) ≡ Some p)
    by rest true e = (zero, place_hit (λ (x : ℕ). x == sub) s subs e)
    by rest false e =
        let (p, is) = rest (right (s == sub) (list_any (λ x. x == sub) subs) some e) in
        (suc p, place_miss (λ (x : ℕ). x == sub) s subs e ∙ ap up is)

-- a subscriber that a job doesn't hold has no place in it, and one that it holds has one
pub not_held : (sub : ℕ) (job : List Line) → holds sub job ≡ false → place_among sub (held_subs job) ≡ None
not_held sub job none = none_among sub (held_subs job) (held_is sub job ∙ none)

pub is_held : (sub : ℕ) (job : List Line) → holds sub job ≡ true → (p : ℕ) × (place_among sub (held_subs job) ≡ Some p)
is_held sub job some = some_among sub (held_subs job) (held_is sub job ∙ some)

-- ---- homes and devices with which a job begins

pub homes_of : (kept : List Kept) (subs : List ℕ) → map (λ (home : HomeRow). home.sub) (map (home_of kept) subs) ≡ subs
homes_of kept [] = refl
homes_of kept (sub ∷ subs) = ap (λ (xs : List ℕ). sub ∷ xs) (homes_of kept subs)

row_at : (rows : List Row) (sub : ℕ) → sub < length rows → (row : Row) × (slice_get rows sub ≡ Some row)
row_at rows sub inside = elim ((slice_get_cases rows sub).1) [
  | inl some ↦ (some.0, some.2)
  | inr none ↦ absurd (let past = none.0 in omega (arith, past, inside))
]

-- rows of two subscribers have two identities
identity_test : (rows : List Row) (i j : ℕ) (a b : Row) → AreSubscribers rows → slice_get rows i ≡ Some a → slice_get rows j ≡ Some b → same_identity a.imsi b.imsi ≡ (i == j)
identity_test rows i j a b are there also = by (i == j) refl
  where
    one_row : (o : Option Row) (x y : Row) → o ≡ Some x → o ≡ Some y → x ≡ y
    one_row o x y e f = cc

    itself : (x : Identity) → same_identity x x ≡ true
    itself x = grind (arith, nat_tests)

    equal : (x y : Identity) → same_identity x y ≡ true → x ≡ y
    equal x y e =
        let digits : x.digits ≡ y.digits = grind (arith, nat_tests) in
        let number : x.number ≡ y.number = grind (arith, nat_tests) in
        λ k. record { digits = digits k; number = number k }

    apart : (less : Bool) → nat_lt i j ≡ less → (i == j) ≡ false → a.imsi ≢ b.imsi
    apart true is other same =
        are.differ i j a (grind (arith, nat_tests)) (slice_get_within rows j b also)
        (ap (λ (r : Row). r.imsi) (get_or_from_slice_get rows i a a there) ∙ same ∙ sym (ap (λ (r : Row). r.imsi) (get_or_from_slice_get rows j b a also)))
    apart false is other same =
        are.differ j i a (grind (arith, nat_tests)) (slice_get_within rows i a there)
        (ap (λ (r : Row). r.imsi) (get_or_from_slice_get rows j b a also) ∙ sym same ∙ sym (ap (λ (r : Row). r.imsi) (get_or_from_slice_get rows i a a there)))

    false_or : (t : Bool) → (t ≡ true → ⊥) → t ≡ false
    false_or true = λ no. absurd (no refl)
    false_or false = λ no. refl

    by : (t : Bool) → (i == j) ≡ t → same_identity a.imsi b.imsi ≡ t
    by true e = ap (λ (r : Row). same_identity r.imsi b.imsi) (one_row (slice_get rows j) a b (ap (slice_get rows) (sym (eqb-true i j e)) ∙ there) also) ∙ itself b.imsi
    by false e = false_or (same_identity a.imsi b.imsi) (λ same. apart (nat_lt i j) refl e (equal a.imsi b.imsi same))

module _ (set : Setting) (are : AreSubscribers set.rows) where
  -- a subscriber's device has the place of the subscriber among those whose USIMs the job holds
  device_among : (subs : List ℕ) (sub : ℕ) (row : Row) → slice_get set.rows sub ≡ Some row → All (λ s. s < length set.rows) subs
      → place_with (flat_map (subscription_at set) subs) (Some row) ≡ place_among sub subs
  device_among [] sub row there known = refl
  device_among (s ∷ subs) sub row there known =
      let (first, here) = row_at set.rows s (All-head (λ (n : ℕ). n < length set.rows) s subs known) in
      let card : Subscription = record { imsi = first.imsi; realm = set.realm; secret = first.secret } in
      let more = flat_map (subscription_at set) subs in
      let test = identity_test set.rows s sub first row are here there in
      let rest = device_among subs sub row there (All-tail (λ (n : ℕ). n < length set.rows) s subs known) in
      ap (λ (o : Option Row). place_with (subscription_by set o ++ more) (Some row)) here ∙ by card more test rest (s == sub) refl
    where
      by : (card : Subscription) (more : List Subscription) → same_identity card.imsi row.imsi ≡ (s == sub) → place_with more (Some row) ≡ place_among sub subs → (b : Bool) → (s == sub) ≡ b
          → place_with (card ∷ more) (Some row) ≡ place_among sub (s ∷ subs)
      by card more test rest true e =
          place_hit (λ (d : Subscription). same_identity d.imsi row.imsi) card more (test ∙ e) ∙ sym (place_hit (λ (x : ℕ). x == sub) s subs e)
      by card more test rest false e =
          place_miss (λ (d : Subscription). same_identity d.imsi row.imsi) card more (test ∙ e) ∙ ap up rest ∙ sym (place_miss (λ (x : ℕ). x == sub) s subs e)

  pub device_begins : (subs : List ℕ) (sub : ℕ) → sub < length set.rows → All (λ s. s < length set.rows) subs
      → device_place set.rows (flat_map (subscription_at set) subs) sub ≡ place_among sub subs
  device_begins subs sub inside known =
      let (row, there) = row_at set.rows sub inside in
      ap (place_with (flat_map (subscription_at set) subs)) there ∙ device_among subs sub row there known

-- at the place of a subscriber among those of a job there is the device that keeps what is kept of it, and its home
abbrev HasKeeps : Setting → List Kept → ℕ → List ℕ → Type 0
HasKeeps set kept sub subs = (place : ℕ) → place_among sub subs ≡ Some place → slice_get (flat_map (keeps_of set kept) subs) place ≡ Some (kept_of kept sub).device

abbrev HasHome : List Kept → ℕ → List ℕ → Type 0
HasHome kept sub subs = (place : ℕ) → place_among sub subs ≡ Some place → home_at (map (home_of kept) subs) place ≡ home_of kept sub

-- the device there keeps what is kept of the subscriber
pub keeps_begin : (set : Setting) (kept : List Kept) (subs : List ℕ) (sub place : ℕ) → All (λ s. s < length set.rows) subs → place_among sub subs ≡ Some place
    → slice_get (flat_map (keeps_of set kept) subs) place ≡ Some (kept_of kept sub).device
keeps_begin set kept [] sub place known is = absurd cc
keeps_begin set kept (s ∷ subs) sub place known is =
    let (row, here) = row_at set.rows s (All-head (λ (n : ℕ). n < length set.rows) s subs known) in
    let known_later = All-tail (λ (n : ℕ). n < length set.rows) s subs known in
    ap (λ (o : Option Row). slice_get (keeps_by o (kept_of kept s).device ++ flat_map (keeps_of set kept) subs) place) here
    ∙ by (λ q. keeps_begin set kept subs sub q known_later) (s == sub) refl place is
  where
    more : List Keeps
    more = flat_map (keeps_of set kept) subs

    one : (a b : ℕ) → Some a ≡ Some b → a ≡ b
    one a b e = cc

    later : HasKeeps set kept sub subs → (o : Option ℕ) (p : ℕ) → place_among sub subs ≡ o → up o ≡ Some p → slice_get ((kept_of kept s).device ∷ more) p ≡ Some (kept_of kept sub).device
    later rest None p e f = absurd cc
    later rest (Some q) p e f = ap (slice_get ((kept_of kept s).device ∷ more)) (sym (one (suc q) p f)) ∙ rest q e

    by : HasKeeps set kept sub subs → (b : Bool) → (s == sub) ≡ b → (p : ℕ) → place_among sub (s ∷ subs) ≡ Some p → slice_get ((kept_of kept s).device ∷ more) p ≡ Some (kept_of kept sub).device
    by rest true e p is =
        ap (slice_get ((kept_of kept s).device ∷ more)) (sym (one zero p (sym (place_hit (λ (x : ℕ). x == sub) s subs e) ∙ is)))
        ∙ ap (λ (n : ℕ). Some (kept_of kept n).device) (eqb-true s sub e)
    by rest false e p is = later rest (place_among sub subs) p refl (sym (place_miss (λ (x : ℕ). x == sub) s subs e) ∙ is)

-- and the home has what is kept of it
pub home_begins : (kept : List Kept) (subs : List ℕ) (sub place : ℕ) → place_among sub subs ≡ Some place → home_at (map (home_of kept) subs) place ≡ home_of kept sub
home_begins kept [] sub place is = absurd cc
home_begins kept (s ∷ subs) sub place is = by (home_begins kept subs sub) (s == sub) refl place is
  where
    one : (a b : ℕ) → Some a ≡ Some b → a ≡ b
    one a b e = cc

    later : HasHome kept sub subs → (o : Option ℕ) (p : ℕ) → place_among sub subs ≡ o → up o ≡ Some p → home_at (home_of kept s ∷ map (home_of kept) subs) p ≡ home_of kept sub
    later rest None p e f = absurd cc
    later rest (Some q) p e f = ap (home_at (home_of kept s ∷ map (home_of kept) subs)) (sym (one (suc q) p f)) ∙ rest q e

    by : HasHome kept sub subs → (b : Bool) → (s == sub) ≡ b → (p : ℕ) → place_among sub (s ∷ subs) ≡ Some p → home_at (home_of kept s ∷ map (home_of kept) subs) p ≡ home_of kept sub
    by rest true e p is =
        ap (home_at (home_of kept s ∷ map (home_of kept) subs)) (sym (one zero p (sym (place_hit (λ (x : ℕ). x == sub) s subs e) ∙ is))) ∙ ap (home_of kept) (eqb-true s sub e)
    by rest false e p is = later rest (place_among sub subs) p refl (sym (place_miss (λ (x : ℕ). x == sub) s subs e) ∙ is)

-- there are as many devices as subscribers
pub stores_begin : (set : Setting) (kept : List Kept) (subs : List ℕ) → All (λ s. s < length set.rows) subs → length (flat_map (keeps_of set kept) subs) ≡ length subs
stores_begin set kept [] known = refl
stores_begin set kept (s ∷ subs) known =
    let (row, here) = row_at set.rows s (All-head (λ (n : ℕ). n < length set.rows) s subs known) in
    ap (λ (o : Option Row). length (keeps_by o (kept_of kept s).device ++ flat_map (keeps_of set kept) subs)) here
    ∙ ap suc (stores_begin set kept subs (All-tail (λ (n : ℕ). n < length set.rows) s subs known))

-- ---- what is kept after a job

set_here : {X : Type 0} (xs : List X) (i : ℕ) (y : X) → i < length xs → slice_get (slice_set xs i y) i ≡ Some y
set_here [] i y inside = absurd (omega arith)
set_here (x ∷ xs) zero y inside = refl
set_here (x ∷ xs) (suc i) y inside = set_here xs i y (omega arith)

pub set_there : {X : Type 0} (xs : List X) (i j : ℕ) (y : X) → i ≢ j → slice_get (slice_set xs i y) j ≡ slice_get xs j
set_there [] i j y other = refl
set_there (x ∷ xs) zero zero y other = absurd (other refl)
set_there (x ∷ xs) zero (suc j) y other = refl
set_there (x ∷ xs) (suc i) zero y other = refl
set_there (x ∷ xs) (suc i) (suc j) y other = set_there xs i j y (λ same. other (ap (λ (n : ℕ). suc n) same))

pub apart_number : (m n : ℕ) → (m == n) ≡ false → m ≢ n
apart_number m n = grind (arith, nat_tests)

pub length-put_back : (kept : List Kept) (homes : List HomeRow) (stores : List Keeps) → length (put_back kept homes stores) ≡ length kept
length-put_back kept [] stores = refl
length-put_back kept (h ∷ homes) [] = refl
length-put_back kept (h ∷ homes) (keeps ∷ stores) = length-set (put_back kept homes stores) h.sub (kept_now h keeps) ∙ length-put_back kept homes stores

-- a job that doesn't hold a subscriber leaves what is kept of it
pub put_idle : (kept : List Kept) (homes : List HomeRow) (stores : List Keeps) (sub : ℕ) → home_place homes sub ≡ None → kept_of (put_back kept homes stores) sub ≡ kept_of kept sub
put_idle kept [] stores sub none = refl
put_idle kept (h ∷ homes) [] sub none = refl
put_idle kept (h ∷ homes) (keeps ∷ stores) sub none = by (put_idle kept homes stores sub) (h.sub == sub) refl
  where
    past : List Kept
    past = put_back kept homes stores

    later : (o : Option ℕ) → up o ≡ None → o ≡ None
    later None e = refl
    later (Some i) e = absurd cc

    by : (home_place homes sub ≡ None → kept_of past sub ≡ kept_of kept sub) → (b : Bool) → (h.sub == sub) ≡ b → kept_of (slice_set past h.sub (kept_now h keeps)) sub ≡ kept_of kept sub
    by rest true e = absurd (let hit = place_hit (λ (home : HomeRow). home.sub == sub) h homes e in let no : ⊥ = cc in no)
    by rest false e =
        ap kept_or (set_there past h.sub sub (kept_now h keeps) (apart_number h.sub sub e))
        ∙ rest (later (home_place homes sub) (sym (place_miss (λ (home : HomeRow). home.sub == sub) h homes e) ∙ none))

-- what is kept of a subscriber by its place in a job
abbrev pub kept_by_place : List Kept → List HomeRow → List Keeps → ℕ → Option ℕ → Kept
kept_by_place kept homes stores sub None = kept_of kept sub
kept_by_place kept homes stores sub (Some place) = kept_now (home_at homes place) (keeps_or (slice_get stores place))

-- a job that holds the subscriber puts back what its home and its device have then, and another one leaves what is kept
pub put_is : (kept : List Kept) (homes : List HomeRow) (stores : List Keeps) (sub : ℕ) → length stores ≡ length homes → sub < length kept
    → kept_of (put_back kept homes stores) sub ≡ kept_by_place kept homes stores sub (home_place homes sub)
put_is kept [] stores sub sizes inside = refl
put_is kept (h ∷ homes) [] sub sizes inside = absurd (omega (arith, sizes))
put_is kept (h ∷ homes) (keeps ∷ stores) sub sizes inside = by (put_is kept homes stores sub (omega (arith, sizes)) inside) (h.sub == sub) refl
  where
    past : List Kept
    past = put_back kept homes stores

    shift : (o : Option ℕ) → kept_by_place kept homes stores sub o ≡ kept_by_place kept (h ∷ homes) (keeps ∷ stores) sub (up o)
    shift None = refl
    shift (Some i) = refl

    by : kept_of past sub ≡ kept_by_place kept homes stores sub (home_place homes sub) → (b : Bool) → (h.sub == sub) ≡ b
        → kept_of (slice_set past h.sub (kept_now h keeps)) sub ≡ kept_by_place kept (h ∷ homes) (keeps ∷ stores) sub (home_place (h ∷ homes) sub)
    by rest true e =
        ap (λ (n : ℕ). kept_or (slice_get (slice_set past n (kept_now h keeps)) sub)) (eqb-true h.sub sub e)
        ∙ ap kept_or (set_here past sub (kept_now h keeps) (omega (arith, length-put_back kept homes stores, inside)))
        ∙ sym (ap (kept_by_place kept (h ∷ homes) (keeps ∷ stores) sub) (place_hit (λ (home : HomeRow). home.sub == sub) h homes e))
    by rest false e =
        ap kept_or (set_there past h.sub sub (kept_now h keeps) (apart_number h.sub sub e)) ∙ rest ∙ shift (home_place homes sub)
        ∙ sym (ap (kept_by_place kept (h ∷ homes) (keeps ∷ stores) sub) (place_miss (λ (home : HomeRow). home.sub == sub) h homes e))
