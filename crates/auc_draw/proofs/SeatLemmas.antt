-- The opening, a split and a join of seats, and the closing.
use Rattle.std.proofs.Common.{◌≡◌, ◌≢◌, ◌⊎◌, ℕ, zero, suc, ◌+◌, ◌<◌, ◌≤◌, ◌&&◌, nat_lt, nat_le, if◌then◌else◌, List, [], ◌∷◌, ◌++◌, length, map, set, slice_index, slice_set, All, AllPairs, sum_by, flat_map, IsPermutation, arith, refl, sym, ap, ◌∙◌, subst, ⊎_elim, inl, inr}
use Rattle.std.proofs.lemmas.Bool.Decides.{nat_tests}
use Rattle.std.proofs.lemmas.Grind.{flat_map-append}
use Rattle.std.proofs.lemmas.List.{append-nil, append_assoc, length-append, set_comm, get_or_append_left, get_or-append-add}
use Rattle.std.proofs.lemmas.List.Elements.{All-append}
use Rattle.std.proofs.lemmas.List.Sums.{sum_by-cons, sum_by-append}
use Rattle.std.proofs.lemmas.List.Sorted.{IsPermutation-sym, IsPermutation-trans, IsPermutation-append_left, IsPermutation-append_right, IsPermutation-append_comm}
use mathlib.Core.Option.{some, some-ne-none, some-injective}
use lib.ListN.{get_elem?}
use Rattle.atomic_table.specs.Table.{State, opening, Splits as Cuts, Joins}
use Rattle.atomic_table.proofs.Lists.{at_set, at_snoc, set_else}
use Rattle.auc_history.specs.declared.entry.Entry.{Entry}
use Rattle.auc_history.specs.History.{IsInOrder, IsMove, IsFound, reach_of, IsBefore}
use Rattle.auc_history.specs.Split.{Splits, all_entries, times}
use Rattle.auc_history.proofs.Facts.{times-append}
use Rattle.auc_sqn.specs.Number.{max_seq}
use Rattle.auc_draw.specs.declared.rule.Deed.{Deed}
use Rattle.auc_draw.specs.declared.rule.View.{View}
use Rattle.auc_draw.specs.Deeds.{entries_of, claims_of}
use Rattle.auc_draw.specs.declared.rule.Note.{Note}
use Rattle.auc_draw.specs.Book.{AreTaken}
use Rattle.auc_draw.specs.InnerLimits.{opening_note, first_note, stop_at, limit_at, AreTold, IsTold, KeepsLimits}
use Rattle.auc_draw.specs.InnerRule.{keeper_view, new_view, spent_view, after_split, after_join, lists_view, view_entries, view_claims, all_view_entries, all_view_claims, passes_in, IsCovered, FitsWord, FitsJoined, Numbers, FitsClaims, Jobs, KeepsNumbers, Keeps, mark_by, marks_in, wide_by, wide_in}
use Rattle.auc_draw.proofs.CoverLemmas.{covered_permuted}
use Rattle.auc_draw.proofs.StepLemmas.{Alike, numbers_still, jobs_still, few_marks}
use Rattle.auc_draw.proofs.LimitLemmas.{first_same, first_else, still_same, limits_stepped, limits_push, told_none}
use Rattle.auc_draw.proofs.ViewLemmas.{all_nil, all_cons, total_set, total_first, total_rest, permuted_more, flat_first, times_flat}

-- an empty list has no pairs
no_pairs : {X : Type 0} (R : X → X → Type 0) → AllPairs R []
no_pairs R k j d below within = absurd (omega arith)

-- no entries fit at each word
nothing_fits : (top word active : ℕ) → FitsWord top word active []
nothing_fits top word active = record { marked = omega arith; ordered = no_pairs IsBefore; below = all_nil (λ e. reach_of e ≤ word) }

-- no claims fit at each word
nothing_claims : (word active : ℕ) → FitsClaims word active []
nothing_claims word active = record { wide = omega arith; below = all_nil (λ n. n < word) }

-- ---- the opening

-- no number is above a word and at most the word
nothing_between : (n word : ℕ) → ◌≡◌ {A = ℕ} 0 (if nat_lt word n && nat_le n word then 1 else 0)
nothing_between n word = grind (arith, nat_tests)

-- no entries cover an opening up to itself
nothing_covers : (top opening word : ℕ) → word ≡ opening → IsCovered top opening word []
nothing_covers top opening word is = record {
  forward = omega (arith, is);
  once = λ n. nothing_between n word ∙ ap (λ k. if nat_lt k n && nat_le n word then 1 else 0) is;
  moves = all_nil (IsMove top);
  looks = all_nil (IsFound opening []);
  stands = inl is;
}

-- no number is below 0
nothing_below : (n : ℕ) → ◌≡◌ {A = ℕ} 0 (if nat_lt n 0 then 1 else 0)
nothing_below n = grind (arith, nat_tests)

-- the words of an opening keep the part on numbers
opens_numbers : (openings tops rest : List ℕ) (note : Note) → ((i : ℕ) → i < length openings → slice_index openings i ≤ slice_index tops i) → KeepsNumbers openings tops (opening (openings ++ 0 ∷ rest) [] (keeper_view 0 tops note))
opens_numbers openings tops rest note low = record {
  room = omega (arith, length-append openings (0 ∷ rest));
  numbers = record {
    bounded = λ i known. omega (arith, low i known, word i known);
    covers = λ i known. nothing_covers (slice_index tops i) (slice_index openings i) (slice_index words i) (word i known);
    fits = λ j v at i known. one (λ u. FitsWord (slice_index tops i) (slice_index words i) u.active (entries_of i u.own)) (nothing_fits (slice_index tops i) (slice_index words i) 0) j v at;
    rests = λ j v at i known. one (λ u. All (FitsJoined (slice_index tops i) i) u.joined) (all_nil (FitsJoined (slice_index tops i) i)) j v at;
  };
  jobs = record {
    bounded = omega (arith, last);
    once = λ n. nothing_below n ∙ ap (λ k. if nat_lt n k then 1 else 0) (sym last);
    fits = λ j v at. one (λ u. FitsClaims (slice_index words (length openings)) u.active (claims_of u.own)) (nothing_claims (slice_index words (length openings)) 0) j v at;
    rests = λ j v at. one (λ u. All (λ deeds. wide_in (claims_of deeds) ≤ 1) u.joined) (all_nil (λ deeds. wide_in (claims_of deeds) ≤ 1)) j v at;
  };
  seats = record {
    counted = refl;
    few = omega arith;
    alone = λ j v at apart. one (λ u. (u.split ≡ 0) × (u.joined ≡ [])) (refl, refl) j v at;
    idle = λ j v at none. one (λ u. u.own ≡ []) refl j v at;
  };
}
  where
    words : List ℕ
    words = openings ++ 0 ∷ rest

    word : (i : ℕ) → i < length openings → slice_index words i ≡ slice_index openings i
    word i known = get_or_append_left openings (0 ∷ rest) 0 i known

    last : slice_index words (length openings) ≡ 0
    last = ap (λ k. slice_index words k) (omega arith) ∙ get_or-append-add openings (0 ∷ rest) 0 0

    one : (P : View → Type 0) → P (keeper_view 0 tops note) → (j : ℕ) (v : View) → get_elem? (keeper_view 0 tops note ∷ []) j ≡ some v → P v
    one P here zero v at = subst P (some-injective (keeper_view 0 tops note) v at) here
    one P here (suc j) v at = absurd (some-ne-none v (sym at))

-- the words of an opening
abbrev opened : List ℕ → List ℕ → List ℕ
opened openings limits = openings ++ 0 ∷ 0 ∷ limits

-- they keep the part on limits
opens_limits : (openings tops limits : List ℕ) → length limits ≡ length openings → All (λ n. n ≤ max_seq) limits
    → KeepsLimits openings limits (opening (opened openings limits) [] (keeper_view 0 tops (opening_note openings limits)))
opens_limits openings tops limits many low = record {
  sized = omega (arith, many, length-append openings (0 ∷ 0 ∷ limits));
  tied = record {
    sized = many;
    looks = refl;
    limit = λ i known. word (suc (suc i)) (limit_at (length openings) i) (omega arith);
    stop = word 1 (stop_at (length openings)) refl;
    each = λ i known. record {
      within = low i 0 (omega (arith, known, many));
      looked = omega (arith, get_or_append_left openings (0 ∷ 0 ∷ limits) 0 i known);
      step = inl refl;
      near = omega arith;
    };
  };
  told = λ j v at. one j v at;
}
  where
    word : (k place : ℕ) → place ≡ length openings + k → slice_index (opened openings limits) place ≡ slice_index (0 ∷ 0 ∷ limits) k
    word k place is = ap (λ p. slice_index (opened openings limits) p) is ∙ get_or-append-add openings (0 ∷ 0 ∷ limits) k 0

    note : Note
    note = opening_note openings limits

    one : (j : ℕ) (v : View) → get_elem? (keeper_view 0 tops note ∷ []) j ≡ some v → IsTold note v
    one zero v at = subst (λ (u : View). IsTold note u) (some-injective (keeper_view 0 tops note) v at) (record { own = told_none note; joined = all_nil (AreTold note) })
    one (suc j) v at = absurd (some-ne-none v (sym at))

-- the words of an opening keep the rule
pub opens_ok : (openings tops limits words : List ℕ) → words ≡ openings ++ 0 ∷ 0 ∷ limits → length limits ≡ length openings → ((i : ℕ) → i < length openings → slice_index openings i ≤ slice_index tops i)
    → All (λ n. n ≤ max_seq) limits → Keeps openings tops limits (opening words [] (keeper_view 0 tops (opening_note openings limits)))
opens_ok openings tops limits words is many low under =
    subst (λ (ws : List ℕ). Keeps openings tops limits (opening ws [] (keeper_view 0 tops (opening_note openings limits)))) (sym is) (record {
      numbers = opens_numbers openings tops (0 ∷ limits) (opening_note openings limits) low;
      limits = opens_limits openings tops limits many under;
    })

-- ---- a further view with no deeds

record Bare (r : View) : Type 0 where
  pub own : r.own ≡ []
  pub joined : r.joined ≡ []

-- a view without deeds has no entries
bare_entries : (i : ℕ) (r : View) → Bare r → view_entries i r ≡ []
bare_entries i r bare = ap (λ (l : List (List Deed)). flat_map (entries_of i) l ++ entries_of i r.own) bare.joined ∙ ap (entries_of i) bare.own

-- and no claims
bare_claims : (r : View) → Bare r → view_claims r ≡ []
bare_claims r bare = ap (λ (l : List (List Deed)). flat_map claims_of l ++ claims_of r.own) bare.joined ∙ ap claims_of bare.own

-- a further view without elements adds none
flat_push : {X : Type 0} (f : View → List X) (views : List View) (r : View) → f r ≡ [] → flat_map f (views ++ r ∷ []) ≡ flat_map f views
flat_push f views r none = flat_map-append f views (r ∷ []) ∙ ap (λ xs. flat_map f views ++ xs) (append-nil (f r) ∙ none) ∙ append-nil (flat_map f views)

-- a further view adds its count
sum_push : (f : View → ℕ) (views : List View) (r : View) → sum_by f (views ++ r ∷ []) ≡ sum_by f views + f r
sum_push f views r = omega (arith, sum_by-append f views (r ∷ []), sum_by-cons f r [])

-- a further view without deeds keeps the part on numbers
numbers_push : (openings tops : List ℕ) (s : State (Unit {0}) View) (r : View) → Numbers openings tops s → Bare r → Numbers openings tops record { words = s.words; homes = s.homes; views = s.views ++ r ∷ [] }
numbers_push openings tops s r rule bare = record {
  bounded = λ i known. omega (arith, rule.bounded i known, sum_push (λ v. marks_in (slice_index tops i) (view_entries i v)) s.views r);
  covers = λ i known. subst (λ (es : List Entry). IsCovered (slice_index tops i) (slice_index openings i) (slice_index s.words i) es) (sym (flat_push (view_entries i) s.views r (bare_entries i r bare))) (rule.covers i known);
  fits = λ j u at i known. ⊎_elim (λ (old : get_elem? s.views j ≡ some u). rule.fits j u old i known)
      (λ (new : r ≡ u). subst (λ (x : View). FitsWord (slice_index tops i) (slice_index s.words i) x.active (entries_of i x.own)) new (subst (λ (ds : List Deed). FitsWord (slice_index tops i) (slice_index s.words i) r.active (entries_of i ds)) (sym bare.own) (nothing_fits (slice_index tops i) (slice_index s.words i) r.active)))
      (at_snoc s.views r u j at);
  rests = λ j u at i known. ⊎_elim (λ (old : get_elem? s.views j ≡ some u). rule.rests j u old i known)
      (λ (new : r ≡ u). subst (λ (x : View). All (FitsJoined (slice_index tops i) i) x.joined) new (subst (λ (l : List (List Deed)). All (FitsJoined (slice_index tops i) i) l) (sym bare.joined) (all_nil (FitsJoined (slice_index tops i) i))))
      (at_snoc s.views r u j at);
}

-- and the part on jobs
jobs_push : (place : ℕ) (s : State (Unit {0}) View) (r : View) → Jobs place s → Bare r → Jobs place record { words = s.words; homes = s.homes; views = s.views ++ r ∷ [] }
jobs_push place s r rule bare = record {
  bounded = omega (arith, rule.bounded, sum_push (λ v. wide_in (view_claims v)) s.views r);
  once = λ n. ap (times n) (flat_push view_claims s.views r (bare_claims r bare)) ∙ rule.once n;
  fits = λ j u at. ⊎_elim (λ (old : get_elem? s.views j ≡ some u). rule.fits j u old)
      (λ (new : r ≡ u). subst (λ (x : View). FitsClaims (slice_index s.words place) x.active (claims_of x.own)) new (subst (λ (ds : List Deed). FitsClaims (slice_index s.words place) r.active (claims_of ds)) (sym bare.own) (nothing_claims (slice_index s.words place) r.active)))
      (at_snoc s.views r u j at);
  rests = λ j u at. ⊎_elim (λ (old : get_elem? s.views j ≡ some u). rule.rests j u old)
      (λ (new : r ≡ u). subst (λ (x : View). All (λ deeds. wide_in (claims_of deeds) ≤ 1) x.joined) new (subst (λ (l : List (List Deed)). All (λ deeds. wide_in (claims_of deeds) ≤ 1) l) (sym bare.joined) (all_nil (λ deeds. wide_in (claims_of deeds) ≤ 1))))
      (at_snoc s.views r u j at);
}

-- ---- a split

-- a split keeps the part on numbers
splits_numbers : (openings tops : List ℕ) (v : View) → v.split + 1 ≤ 64 → Cuts (KeepsNumbers openings tops) 0 v (after_split v) (new_view v.tops)
splits_numbers openings tops v room s rule at = record {
  room = rule.room;
  numbers = numbers_push openings tops mid new (numbers_still openings tops s 0 v (after_split v) s.words rule.numbers at (λ i known. refl) alike (λ i. refl)) bare;
  jobs = jobs_push (length openings) mid new (jobs_still (length openings) s 0 v (after_split v) s.words rule.jobs at refl alike refl) bare;
  seats = record {
    counted = omega (arith, rule.seats.counted, sum_push passes_in mid.views new, sum_push (λ x. x.split) mid.views new, total_set passes_in s.views 0 v (after_split v) at, split);
    few = omega (arith, sum_push (λ x. x.split) mid.views new, split, room, total_first (λ x. x.split) s.views v at (λ j u there apart. (rule.seats.alone j u there apart).0));
    alone = λ j u there apart. ⊎_elim
        (λ (old : get_elem? mid.views j ≡ some u). rule.seats.alone j u (sym (set_else s.views 0 j (after_split v) apart) ∙ old) apart)
        (λ (last : new ≡ u). (ap (λ (x : View). x.split) (sym last), ap (λ (x : View). x.joined) (sym last)))
        (at_snoc mid.views new u j there);
    idle = λ j u there none. ⊎_elim
        (λ (old : get_elem? mid.views j ≡ some u). ⊎_elim
        (λ (mine : (j ≡ 0) × (after_split v ≡ u)). ap (λ (x : View). x.own) (sym mine.1) ∙ rule.seats.idle 0 v at (ap (λ (x : View). x.active) mine.1 ∙ none))
        (λ (theirs : (j ≢ 0) × (get_elem? s.views j ≡ some u)). rule.seats.idle j u theirs.1 none)
        (at_set s.views 0 j (after_split v) u old))
        (λ (last : new ≡ u). ap (λ (x : View). x.own) (sym last))
        (at_snoc mid.views new u j there);
  };
}
  where
    mid : State (Unit {0}) View
    mid = record { words = s.words; homes = s.homes; views = slice_set s.views 0 (after_split v) }

    new : View
    new = new_view v.tops

    alike : Alike v (after_split v)
    alike = record { joined = refl; active = refl }

    bare : Bare new
    bare = record { own = refl; joined = refl }

    split : sum_by (λ x. x.split) (set s.views 0 (after_split v)) + v.split ≡ sum_by (λ x. x.split) s.views + (v.split + 1)
    split = total_set (λ x. x.split) s.views 0 v (after_split v) at

-- and the part on limits
splits_limits : (openings limits : List ℕ) (v : View) → Cuts (KeepsLimits openings limits) 0 v (after_split v) (new_view v.tops)
splits_limits openings limits v s rule at =
    let told = rule.told 0 v at in
    let mid : State (Unit {0}) View = record { words = s.words; homes = s.homes; views = slice_set s.views 0 (after_split v) } in
    let stepped : KeepsLimits openings limits mid = limits_stepped openings limits s 0 (after_split v) s.words s.homes rule (still_same openings s.words s.words refl) (first_same s.views 0 v (after_split v) at refl) (record { own = told.own; joined = told.joined }) in
    limits_push openings limits mid 0 (after_split v) (new_view v.tops) stepped (there s.views v at) refl refl
  where
    there : (views : List View) (u : View) → get_elem? views 0 ≡ some u → get_elem? (set views 0 (after_split v)) 0 ≡ some (after_split v)
    there [] u at = absurd (some-ne-none u (sym at))
    there (x ∷ xs) u at = refl

-- a pass may be split from the keeper's seat
pub splits_ok : (openings tops limits : List ℕ) (v : View) → v.split + 1 ≤ 64 → Cuts (Keeps openings tops limits) 0 v (after_split v) (new_view v.tops)
splits_ok openings tops limits v room s rule at = record { numbers = splits_numbers openings tops v room s rule.numbers at; limits = splits_limits openings limits v s rule.limits at }

-- a view that is put where it stands
set_same : (views : List View) (j : ℕ) (v : View) → get_elem? views j ≡ some v → set views j v ≡ views
set_same [] j v at = refl
set_same (x ∷ xs) zero v at = ap (λ (y : View). y ∷ xs) (sym (some-injective x v at))
set_same (x ∷ xs) (suc j) v at = ap (λ (ys : List View). x ∷ ys) (set_same xs j v at)

-- a seat that shows the joined lists
shows_numbers : (openings tops : List ℕ) (id : ℕ) (v : View) → Cuts (KeepsNumbers openings tops) id v v (lists_view v)
shows_numbers openings tops id v s rule at =
    subst (λ (views : List View). KeepsNumbers openings tops record { words = s.words; homes = s.homes; views = views ++ lists_view v ∷ [] }) (sym (set_same s.views id v at)) (record {
      room = rule.room;
      numbers = numbers_push openings tops s (lists_view v) rule.numbers bare;
      jobs = jobs_push (length openings) s (lists_view v) rule.jobs bare;
      seats = record {
        counted = omega (arith, rule.seats.counted, sum_push passes_in s.views (lists_view v), sum_push (λ x. x.split) s.views (lists_view v));
        few = omega (arith, rule.seats.few, sum_push (λ x. x.split) s.views (lists_view v));
        alone = λ j u there apart. ⊎_elim (λ (old : get_elem? s.views j ≡ some u). rule.seats.alone j u old apart)
            (λ (new : lists_view v ≡ u). (ap (λ (x : View). x.split) (sym new), ap (λ (x : View). x.joined) (sym new))) (at_snoc s.views (lists_view v) u j there);
        idle = λ j u there none. ⊎_elim (λ (old : get_elem? s.views j ≡ some u). rule.seats.idle j u old none)
            (λ (new : lists_view v ≡ u). ap (λ (x : View). x.own) (sym new)) (at_snoc s.views (lists_view v) u j there);
      };
    })
  where
    bare : Bare (lists_view v)
    bare = record { own = refl; joined = refl }

-- a seat may be split off that tells a closed book the joined lists
pub shows_ok : (openings tops limits : List ℕ) (id : ℕ) (v : View) → Cuts (Keeps openings tops limits) id v v (lists_view v)
shows_ok openings tops limits id v s rule at = record {
  numbers = shows_numbers openings tops id v s rule.numbers at;
  limits = subst (λ (views : List View). KeepsLimits openings limits record { words = s.words; homes = s.homes; views = views ++ lists_view v ∷ [] }) (sym (set_same s.views id v at))
      (limits_push openings limits s id v (lists_view v) rule.limits at refl refl);
}

-- ---- a join

module _ {X : Type 0} where
  -- one view with less
  permuted_less : (f : View → List X) (views : List View) (id : ℕ) (v w : View) (es : List X) → get_elem? views id ≡ some v → f v ≡ f w ++ es
      → IsPermutation (es ++ flat_map f (set views id w)) (flat_map f views)
  permuted_less f [] id v w es at is = absurd (some-ne-none v (sym at))
  permuted_less f (u ∷ us) zero v w es at is =
      let same : u ≡ v = some-injective u v at in
      let now : flat_map f (u ∷ us) ≡ (f w ++ es) ++ flat_map f us = ap (λ (xs : List X). xs ++ flat_map f us) (ap f same ∙ is) in
      subst (λ (xs : List X). IsPermutation (es ++ (f w ++ flat_map f us)) xs) (sym now)
      (subst (λ (xs : List X). IsPermutation xs ((f w ++ es) ++ flat_map f us)) (append_assoc es (f w) (flat_map f us))
      (IsPermutation-append_left (flat_map f us) (es ++ f w) (f w ++ es) (IsPermutation-append_comm es (f w))))
  permuted_less f (u ∷ us) (suc id) v w es at is =
      let tail : List X = flat_map f (set us id w) in
      let swapped : IsPermutation (es ++ (f u ++ tail)) (f u ++ (es ++ tail)) =
      subst (λ (xs : List X). IsPermutation xs (f u ++ (es ++ tail))) (append_assoc es (f u) tail)
      (subst (λ (xs : List X). IsPermutation ((es ++ f u) ++ tail) xs) (append_assoc (f u) es tail)
      (IsPermutation-append_left tail (es ++ f u) (f u ++ es) (IsPermutation-append_comm es (f u)))) in
      IsPermutation-trans (es ++ (f u ++ tail)) (f u ++ (es ++ tail)) (f u ++ flat_map f us) swapped
      (IsPermutation-append_right (f u) (es ++ tail) (flat_map f us) (permuted_less f us id v w es at is))

-- a view in the place of another, elsewhere
at_else : (views : List View) (i j : ℕ) (w v : View) → i ≢ j → get_elem? (set views i w) j ≡ some v → get_elem? views j ≡ some v
at_else views i j w v apart at = sym (set_else views i j w (λ same. apart (sym same))) ∙ at

-- the keeper's view v takes in the view w of another seat
pub record Meets (s : State (Unit {0}) View) (v w : View) (other : ℕ) : Type 0 where
  pub first : get_elem? s.views 0 ≡ some v
  pub second : get_elem? s.views other ≡ some w
  pub apart : other ≢ 0
  pub idle : v.own ≡ []
  pub active : w.active ≡ 1
  pub plain : w.joined ≡ []
  pub single : w.split ≡ 0

abbrev after : State (Unit {0}) View → View → View → ℕ → List View
after s v w other = set (set s.views 0 (after_join v w)) other spent_view

-- a view after a join
one_of : (s : State (Unit {0}) View) (v w : View) (other : ℕ) (j : ℕ) (u : View) → get_elem? (after s v w other) j ≡ some u
    → (spent_view ≡ u) ⊎ (((j ≡ 0) × (after_join v w ≡ u)) ⊎ ((j ≢ 0) × (get_elem? s.views j ≡ some u)))
one_of s v w other j u at = ⊎_elim
    (λ (mine : (j ≡ other) × (spent_view ≡ u)). inl mine.1)
    (λ (rest : (j ≢ other) × (get_elem? (set s.views 0 (after_join v w)) j ≡ some u)). inr (at_set s.views 0 j (after_join v w) u rest.1))
    (at_set (set s.views 0 (after_join v w)) other j spent_view u at)

-- a count over all views stays if the two views together count as before
joined_total : (f : View → ℕ) (s : State (Unit {0}) View) (v w : View) (other : ℕ) → Meets s v w other → f (after_join v w) + f spent_view ≡ f v + f w
    → sum_by f (after s v w other) ≡ sum_by f s.views
joined_total f s v w other meets same =
    let there : get_elem? (set s.views 0 (after_join v w)) other ≡ some w = set_else s.views 0 other (after_join v w) meets.apart ∙ meets.second in
    omega (arith, same, total_set f s.views 0 v (after_join v w) meets.first, total_set f (set s.views 0 (after_join v w)) other w spent_view there)

-- a pass into which nothing was joined has its own entries
entries_of_pass : (i : ℕ) (s : State (Unit {0}) View) (v w : View) (other : ℕ) → Meets s v w other → view_entries i w ≡ entries_of i w.own
entries_of_pass i s v w other meets = ap (λ (l : List (List Deed)). flat_map (entries_of i) l ++ entries_of i w.own) meets.plain

-- the keeper's entries after the join
entries_joined : (i : ℕ) (s : State (Unit {0}) View) (v w : View) (other : ℕ) → Meets s v w other → view_entries i (after_join v w) ≡ view_entries i v ++ entries_of i w.own
entries_joined i s v w other meets =
    let J : List Entry = flat_map (entries_of i) v.joined in
    let E : List Entry = entries_of i w.own in
    let none : entries_of i v.own ≡ [] = ap (entries_of i) meets.idle in
    ap (λ (es : List Entry). flat_map (entries_of i) (v.joined ++ w.own ∷ []) ++ es) none ∙ append-nil (flat_map (entries_of i) (v.joined ++ w.own ∷ []))
    ∙ flat_map-append (entries_of i) v.joined (w.own ∷ []) ∙ ap (λ (es : List Entry). J ++ es) (append-nil E)
    ∙ ap (λ (es : List Entry). es ++ E) (sym (append-nil J) ∙ ap (λ (es : List Entry). J ++ es) (sym none))

-- such a pass has its own claims
claims_of_pass : (s : State (Unit {0}) View) (v w : View) (other : ℕ) → Meets s v w other → view_claims w ≡ claims_of w.own
claims_of_pass s v w other meets = ap (λ (l : List (List Deed)). flat_map claims_of l ++ claims_of w.own) meets.plain

-- the keeper's claims after the join
claims_joined : (s : State (Unit {0}) View) (v w : View) (other : ℕ) → Meets s v w other → view_claims (after_join v w) ≡ view_claims v ++ claims_of w.own
claims_joined s v w other meets =
    let J : List ℕ = flat_map claims_of v.joined in
    let E : List ℕ = claims_of w.own in
    let none : claims_of v.own ≡ [] = ap claims_of meets.idle in
    ap (λ (es : List ℕ). flat_map claims_of (v.joined ++ w.own ∷ []) ++ es) none ∙ append-nil (flat_map claims_of (v.joined ++ w.own ∷ []))
    ∙ flat_map-append claims_of v.joined (w.own ∷ []) ∙ ap (λ (es : List ℕ). J ++ es) (append-nil E)
    ∙ ap (λ (es : List ℕ). es ++ E) (sym (append-nil J) ∙ ap (λ (es : List ℕ). J ++ es) (sym none))

-- the entries of all views are the same, in another order
joined_view_entries : (i : ℕ) (s : State (Unit {0}) View) (v w : View) (other : ℕ) → Meets s v w other → IsPermutation (all_view_entries i s.views) (all_view_entries i (after s v w other))
joined_view_entries i s v w other meets =
    let D : List View = set s.views other spent_view in
    let es : List Entry = entries_of i w.own in
    let less : IsPermutation (es ++ all_view_entries i D) (all_view_entries i s.views) = permuted_less (view_entries i) s.views other w spent_view es meets.second (entries_of_pass i s v w other meets) in
    let still : get_elem? D 0 ≡ some v = set_else s.views other 0 spent_view (λ same. meets.apart (sym same)) ∙ meets.first in
    let more : IsPermutation (es ++ all_view_entries i D) (all_view_entries i (set D 0 (after_join v w))) = permuted_more (view_entries i) D 0 v (after_join v w) es still (entries_joined i s v w other meets) in
    let turned : set D 0 (after_join v w) ≡ after s v w other = set_comm s.views other 0 spent_view (after_join v w) meets.apart in
    IsPermutation-trans (all_view_entries i s.views) (es ++ all_view_entries i D) (all_view_entries i (after s v w other)) (IsPermutation-sym (es ++ all_view_entries i D) (all_view_entries i s.views) less)
    (subst (λ (views : List View). IsPermutation (es ++ all_view_entries i D) (all_view_entries i views)) turned more)

-- a join keeps what holds of the numbers
numbers_joined : (openings tops : List ℕ) (s : State (Unit {0}) View) (v w : View) (other : ℕ) → Numbers openings tops s → Meets s v w other
    → Numbers openings tops record { words = s.words; homes = s.homes; views = after s v w other }
numbers_joined openings tops s v w other rule meets = record {
  bounded = λ i known. omega (
    arith,
    rule.bounded i known,
    joined_total (λ x. marks_in (slice_index tops i) (view_entries i x)) s v w other meets (omega (
      arith,
      ap (marks_in (slice_index tops i)) (entries_joined i s v w other meets) ∙ sum_by-append (mark_by (slice_index tops i)) (view_entries i v) (entries_of i w.own),
      ap (marks_in (slice_index tops i)) (entries_of_pass i s v w other meets),
    )),
  );
  covers = λ i known. covered_permuted (slice_index tops i) (slice_index openings i) (slice_index s.words i) (all_view_entries i s.views) (all_view_entries i (after s v w other)) (rule.covers i known) (joined_view_entries i s v w other meets);
  fits = λ j u at i known. ⊎_elim
      (λ (gone : spent_view ≡ u). subst (λ (x : View). FitsWord (slice_index tops i) (slice_index s.words i) x.active (entries_of i x.own)) gone (nothing_fits (slice_index tops i) (slice_index s.words i) 0))
      (λ (rest : ((j ≡ 0) × (after_join v w ≡ u)) ⊎ ((j ≢ 0) × (get_elem? s.views j ≡ some u))). ⊎_elim
      (λ (mine : (j ≡ 0) × (after_join v w ≡ u)). subst (λ (x : View). FitsWord (slice_index tops i) (slice_index s.words i) x.active (entries_of i x.own)) mine.1 (rule.fits 0 v meets.first i known))
      (λ (theirs : (j ≢ 0) × (get_elem? s.views j ≡ some u)). rule.fits j u theirs.1 i known) rest)
      (one_of s v w other j u at);
  rests = λ j u at i known. ⊎_elim
      (λ (gone : spent_view ≡ u). subst (λ (x : View). All (FitsJoined (slice_index tops i) i) x.joined) gone (all_nil (FitsJoined (slice_index tops i) i)))
      (λ (rest : ((j ≡ 0) × (after_join v w ≡ u)) ⊎ ((j ≢ 0) × (get_elem? s.views j ≡ some u))). ⊎_elim
      (λ (mine : (j ≡ 0) × (after_join v w ≡ u)). subst (λ (x : View). All (FitsJoined (slice_index tops i) i) x.joined) mine.1
      (All-append (FitsJoined (slice_index tops i) i) v.joined (w.own ∷ []) (rule.rests 0 v meets.first i known) (all_cons (FitsJoined (slice_index tops i) i) w.own [] (joins i known) (all_nil (FitsJoined (slice_index tops i) i)))))
      (λ (theirs : (j ≢ 0) × (get_elem? s.views j ≡ some u)). rule.rests j u theirs.1 i known) rest)
      (one_of s v w other j u at);
}
  where
    joins : (i : ℕ) → i < length openings → FitsJoined (slice_index tops i) i w.own
    joins i known = let fits = rule.fits other w meets.second i known in record { marked = omega (arith, fits.marked, meets.active); ordered = fits.ordered }

-- and what holds of the jobs
jobs_joined : (place : ℕ) (s : State (Unit {0}) View) (v w : View) (other : ℕ) → Jobs place s → Meets s v w other
    → Jobs place record { words = s.words; homes = s.homes; views = after s v w other }
jobs_joined place s v w other rule meets = record {
  bounded = omega (
    arith,
    rule.bounded,
    joined_total (λ x. wide_in (view_claims x)) s v w other meets
        (omega (arith, ap wide_in (claims_joined s v w other meets) ∙ sum_by-append wide_by (view_claims v) (claims_of w.own), ap wide_in (claims_of_pass s v w other meets))),
  );
  once = λ n. times_flat n view_claims (after s v w other)
      ∙ joined_total (λ x. times n (view_claims x)) s v w other meets (omega (arith, ap (times n) (claims_joined s v w other meets) ∙ times-append n (view_claims v) (claims_of w.own), ap (times n) (claims_of_pass s v w other meets)))
      ∙ sym (times_flat n view_claims s.views) ∙ rule.once n;
  fits = λ j u at. ⊎_elim
      (λ (gone : spent_view ≡ u). subst (λ (x : View). FitsClaims (slice_index s.words place) x.active (claims_of x.own)) gone (nothing_claims (slice_index s.words place) 0))
      (λ (rest : ((j ≡ 0) × (after_join v w ≡ u)) ⊎ ((j ≢ 0) × (get_elem? s.views j ≡ some u))). ⊎_elim
      (λ (mine : (j ≡ 0) × (after_join v w ≡ u)). subst (λ (x : View). FitsClaims (slice_index s.words place) x.active (claims_of x.own)) mine.1 (rule.fits 0 v meets.first))
      (λ (theirs : (j ≢ 0) × (get_elem? s.views j ≡ some u)). rule.fits j u theirs.1) rest)
      (one_of s v w other j u at);
  rests = λ j u at. ⊎_elim
      (λ (gone : spent_view ≡ u). subst (λ (x : View). All (λ deeds. wide_in (claims_of deeds) ≤ 1) x.joined) gone (all_nil (λ deeds. wide_in (claims_of deeds) ≤ 1)))
      (λ (rest : ((j ≡ 0) × (after_join v w ≡ u)) ⊎ ((j ≢ 0) × (get_elem? s.views j ≡ some u))). ⊎_elim
      (λ (mine : (j ≡ 0) × (after_join v w ≡ u)). subst (λ (x : View). All (λ deeds. wide_in (claims_of deeds) ≤ 1) x.joined) mine.1
      (All-append (λ deeds. wide_in (claims_of deeds) ≤ 1) v.joined (w.own ∷ []) (rule.rests 0 v meets.first) (all_cons (λ deeds. wide_in (claims_of deeds) ≤ 1) w.own [] joins (all_nil (λ deeds. wide_in (claims_of deeds) ≤ 1)))))
      (λ (theirs : (j ≢ 0) × (get_elem? s.views j ≡ some u)). rule.rests j u theirs.1) rest)
      (one_of s v w other j u at);
}
  where
    joins : wide_in (claims_of w.own) ≤ 1
    joins = omega (arith, (rule.fits other w meets.second).wide, meets.active)

-- a join keeps the part on numbers
joins_numbers : (openings tops : List ℕ) (v w : View) (other : ℕ) → v.own ≡ [] → w.active ≡ 1 → Joins (KeepsNumbers openings tops) 0 v other w (after_join v w) spent_view
joins_numbers openings tops v w other idle active s rule first apart second = record {
  room = rule.room;
  numbers = numbers_joined openings tops s v w other rule.numbers meets;
  jobs = jobs_joined (length openings) s v w other rule.jobs meets;
  seats = record {
    counted = joined_total passes_in s v w other meets (omega (arith, length-append v.joined (w.own ∷ []), active, ap (λ (l : List (List Deed)). length l) meets.plain)) ∙ rule.seats.counted
        ∙ sym (joined_total (λ x. x.split) s v w other meets (omega (arith, meets.single)));
    few = omega (arith, rule.seats.few, joined_total (λ x. x.split) s v w other meets (omega (arith, meets.single)));
    alone = λ j u at far. ⊎_elim
        (λ (gone : spent_view ≡ u). (ap (λ (x : View). x.split) (sym gone), ap (λ (x : View). x.joined) (sym gone)))
        (λ (rest : ((j ≡ 0) × (after_join v w ≡ u)) ⊎ ((j ≢ 0) × (get_elem? s.views j ≡ some u))). ⊎_elim
        (λ (mine : (j ≡ 0) × (after_join v w ≡ u)). absurd (far mine.0))
        (λ (theirs : (j ≢ 0) × (get_elem? s.views j ≡ some u)). rule.seats.alone j u theirs.1 far) rest)
        (one_of s v w other j u at);
    idle = λ j u at none. ⊎_elim
        (λ (gone : spent_view ≡ u). ap (λ (x : View). x.own) (sym gone))
        (λ (rest : ((j ≡ 0) × (after_join v w ≡ u)) ⊎ ((j ≢ 0) × (get_elem? s.views j ≡ some u))). ⊎_elim
        (λ (mine : (j ≡ 0) × (after_join v w ≡ u)). ap (λ (x : View). x.own) (sym mine.1) ∙ idle)
        (λ (theirs : (j ≢ 0) × (get_elem? s.views j ≡ some u)). rule.seats.idle j u theirs.1 none) rest)
        (one_of s v w other j u at);
  };
}
  where
    there : get_elem? s.views other ≡ some w
    there = at_else s.views 0 other (after_join v w) w (λ same. apart (sym same)) second

    meets : Meets s v w other
    meets = record { first = first; second = there; apart = apart; idle = idle; active = active; plain = (rule.seats.alone other w there apart).1; single = (rule.seats.alone other w there apart).0 }

-- and the part on limits
joins_limits : (openings limits : List ℕ) (v w : View) (other : ℕ) → Joins (KeepsLimits openings limits) 0 v other w (after_join v w) spent_view
joins_limits openings limits v w other s rule first apart second =
    let note = first_note s.views in
    let there = at_else s.views 0 other (after_join v w) w (λ same. apart (sym same)) second in
    let mine = rule.told 0 v first in
    let theirs = rule.told other w there in
    let mid : State (Unit {0}) View = record { words = s.words; homes = s.homes; views = slice_set s.views 0 (after_join v w) } in
    let same = still_same openings s.words s.words refl in
    let stepped : KeepsLimits openings limits mid = limits_stepped openings limits s 0 (after_join v w) s.words s.homes rule same (first_same s.views 0 v (after_join v w) first refl) (record {
      own = mine.own;
      joined = All-append (AreTold note) v.joined (w.own ∷ []) mine.joined (all_cons (AreTold note) w.own [] theirs.own (all_nil (AreTold note)));
    }) in
    limits_stepped openings limits mid other spent_view s.words s.homes stepped same (first_else mid.views other spent_view apart) (record { own = told_none (first_note mid.views); joined = all_nil (AreTold (first_note mid.views)) })

-- a pass may be joined into the keeper's seat
pub joins_ok : (openings tops limits : List ℕ) (v w : View) (other : ℕ) → v.own ≡ [] → w.active ≡ 1 → Joins (Keeps openings tops limits) 0 v other w (after_join v w) spent_view
joins_ok openings tops limits v w other idle active s rule first apart second =
    record { numbers = joins_numbers openings tops v w other idle active s rule.numbers first apart second; limits = joins_limits openings limits v w other s rule.limits first apart second }

-- ---- the closing

-- all passes were joined into the keeper's view, which is the first
pub record Whole (openings tops : List ℕ) (s : State (Unit {0}) View) (v : View) : Type 0 where
  pub rule : KeepsNumbers openings tops s
  pub first : get_elem? s.views 0 ≡ some v
  pub active : v.active ≡ 0
  pub all : length v.joined ≡ v.split

-- the other views have no deeds
others_bare : (openings tops : List ℕ) (s : State (Unit {0}) View) (v : View) → Whole openings tops s v → (j : ℕ) (u : View) → get_elem? s.views j ≡ some u → j ≢ 0 → Bare u
others_bare openings tops s v whole j u at apart =
    let alone = whole.rule.seats.alone in
    let split = total_first (λ x. x.split) s.views v whole.first (λ k x there far. (alone k x there far).0) in
    let none = total_rest passes_in s.views v whole.first (omega (arith, whole.rule.seats.counted, split, whole.active, whole.all)) j u at apart in
    record { own = whole.rule.seats.idle j u at (omega (arith, none)); joined = (alone j u at apart).1 }

-- so all entries are those of the joined lists
joined_entries : (openings tops : List ℕ) (s : State (Unit {0}) View) (v : View) (i : ℕ) → Whole openings tops s v → all_view_entries i s.views ≡ flat_map (entries_of i) v.joined
joined_entries openings tops s v i whole =
    flat_first (view_entries i) s.views v whole.first (λ j u at apart. bare_entries i u (others_bare openings tops s v whole j u at apart))
    ∙ ap (λ (ds : List Deed). flat_map (entries_of i) v.joined ++ entries_of i ds) (whole.rule.seats.idle 0 v whole.first whole.active) ∙ append-nil (flat_map (entries_of i) v.joined)

-- and all claims are theirs
joined_claims : (openings tops : List ℕ) (s : State (Unit {0}) View) (v : View) → Whole openings tops s v → all_view_claims s.views ≡ flat_map claims_of v.joined
joined_claims openings tops s v whole =
    flat_first view_claims s.views v whole.first (λ j u at apart. bare_claims u (others_bare openings tops s v whole j u at apart))
    ∙ ap (λ (ds : List Deed). flat_map claims_of v.joined ++ claims_of ds) (whole.rule.seats.idle 0 v whole.first whole.active) ∙ append-nil (flat_map claims_of v.joined)

-- the entries of lists, one list after the other
flat_map_map : (f : List Deed → List Entry) (ls : List (List Deed)) → flat_map f ls ≡ all_entries (map f ls)
flat_map_map f [] = refl
flat_map_map f (l ∷ ls) = ap (λ (es : List Entry). f l ++ es) (flat_map_map f ls)

-- each joined list is in order
orders : (top i : ℕ) (ls : List (List Deed)) → All (FitsJoined top i) ls → All IsInOrder (map (entries_of i) ls)
orders top i [] all k d within = absurd (omega arith)
orders top i (l ∷ ls) all zero d within = (all 0 l (omega arith)).ordered
orders top i (l ∷ ls) all (suc k) d within = orders top i ls (λ k d within. all (suc k) d (omega (arith, within))) k d (omega (arith, within))

-- entries that are covered, in lists that are in order, are a split
split_of : (top opening word : ℕ) (es : List Entry) (lists : List (List Entry)) → es ≡ all_entries lists → IsCovered top opening word es → All IsInOrder lists → Splits top opening word lists
split_of top opening word es lists is c ordered =
    let here : IsCovered top opening word (all_entries lists) = subst (λ (xs : List Entry). IsCovered top opening word xs) is c in
    record { forward = here.forward; once = here.once; ordered = ordered; moves = here.moves; looks = here.looks }

-- at the close the joined lists split a history of each subscriber
pub whole_splits : (openings tops : List ℕ) (s : State (Unit {0}) View) (v : View) → Whole openings tops s v → (i : ℕ) → i < length openings → Splits (slice_index tops i) (slice_index openings i) (slice_index s.words i) (map (entries_of i) v.joined)
whole_splits openings tops s v whole i known =
    split_of (slice_index tops i) (slice_index openings i) (slice_index s.words i) (all_view_entries i s.views) (map (entries_of i) v.joined) (joined_entries openings tops s v i whole ∙ flat_map_map (entries_of i) v.joined)
    (whole.rule.numbers.covers i known) (orders (slice_index tops i) i v.joined (whole.rule.numbers.rests 0 v whole.first i known))

-- the claimed numbers are those below the job word
pub whole_taken : (openings tops : List ℕ) (s : State (Unit {0}) View) (v : View) → Whole openings tops s v → AreTaken (slice_index s.words (length openings)) (flat_map claims_of v.joined)
whole_taken openings tops s v whole = record { once = λ n. ap (times n) (sym (joined_claims openings tops s v whole)) ∙ whole.rule.jobs.once n }

-- and no word is more than 64 above its subscriber's greatest number
pub whole_bounded : (openings tops : List ℕ) (s : State (Unit {0}) View) (v : View) → Whole openings tops s v → (i : ℕ) → i < length openings → slice_index s.words i ≤ slice_index tops i + 64
whole_bounded openings tops s v whole i known = omega (arith, whole.rule.numbers.bounded i known, few_marks openings tops s i whole.rule.numbers whole.rule.seats known)
