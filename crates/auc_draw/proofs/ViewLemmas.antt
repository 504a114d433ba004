-- Lists and sums over all views, when some change.
use Rattle.std.proofs.Common.{◌≡◌, ◌≢◌, ℕ, zero, suc, ◌+◌, ◌≤◌, List, [], ◌∷◌, ◌++◌, length, set, All, IsPermutation, sum_by, flat_map, arith, refl, sym, ap, ◌∙◌, subst}
use Rattle.std.proofs.lemmas.List.{append-nil, append_assoc}
use Rattle.std.proofs.lemmas.List.Sums.{sum_by-cons, sum_by-append}
use Rattle.std.proofs.lemmas.List.Sorted.{IsPermutation-trans, IsPermutation-append_left, IsPermutation-append_right, IsPermutation-append_comm}
use mathlib.Core.Option.{some, some-ne-none, some-injective}
use lib.ListN.{get_elem?}
use Rattle.auc_history.specs.Split.{times}
use Rattle.auc_history.proofs.Facts.{times-append}
use Rattle.auc_draw.specs.declared.rule.View.{View}

-- anything holds of all elements of an empty list
pub all_nil : {X : Type 0} (P : X → Type 0) → All P []
all_nil P k d within = absurd (omega arith)

-- of the head and of all others
pub all_cons : {X : Type 0} (P : X → Type 0) (x : X) (xs : List X) → P x → All P xs → All P (x ∷ xs)
all_cons P x xs first rest zero d within = first
all_cons P x xs first rest (suc k) d within = rest k d (omega arith)

-- of the head
pub all_head : {X : Type 0} (P : X → Type 0) (x : X) (xs : List X) → All P (x ∷ xs) → P x
all_head P x xs all = all 0 x (omega arith)

-- of all others
pub all_tail : {X : Type 0} (P : X → Type 0) (x : X) (xs : List X) → All P (x ∷ xs) → All P xs
all_tail P x xs all k d within = all (suc k) d (omega (arith, within))

-- ---- a sum over the views

-- a sum after one view is set
pub total_set : (f : View → ℕ) (views : List View) (j : ℕ) (v w : View) → get_elem? views j ≡ some v → sum_by f (set views j w) + f v ≡ sum_by f views + f w
total_set f [] j v w at = absurd (some-ne-none v (sym at))
total_set f (u ∷ us) zero v w at = omega (arith, ap f (some-injective u v at), sum_by-cons f w us, sum_by-cons f u us)
total_set f (u ∷ us) (suc j) v w at = omega (arith, total_set f us j v w at, sum_by-cons f u (set us j w), sum_by-cons f u us)

-- a sum is no greater if each count is no greater
pub total_below : (f g : View → ℕ) (views : List View) → ((j : ℕ) (v : View) → get_elem? views j ≡ some v → f v ≤ g v) → sum_by f views ≤ sum_by g views
total_below f g [] each = omega arith
total_below f g (u ∷ us) each = omega (arith, sum_by-cons f u us, sum_by-cons g u us, each 0 u refl, total_below f g us (λ j v at. each (suc j) v at))

-- a sum of counts that are 0
pub total_none : (f : View → ℕ) (views : List View) → ((j : ℕ) (v : View) → get_elem? views j ≡ some v → f v ≡ 0) → sum_by f views ≡ 0
total_none f [] each = refl
total_none f (u ∷ us) each = omega (arith, sum_by-cons f u us, each 0 u refl, total_none f us (λ j v at. each (suc j) v at))

-- a sum if only the first view counts
pub total_first : (f : View → ℕ) (views : List View) (v : View) → get_elem? views 0 ≡ some v → ((j : ℕ) (u : View) → get_elem? views j ≡ some u → j ≢ 0 → f u ≡ 0) → sum_by f views ≡ f v
total_first f [] v at each = absurd (some-ne-none v (sym at))
total_first f (u ∷ us) v at each = omega (arith, sum_by-cons f u us, ap f (some-injective u v at), total_none f us (λ j x there. each (suc j) x there (λ no. omega (arith, no))))

-- a view counts no more than all
pub total_at : (f : View → ℕ) (views : List View) (j : ℕ) (v : View) → get_elem? views j ≡ some v → f v ≤ sum_by f views
total_at f [] j v at = absurd (some-ne-none v (sym at))
total_at f (u ∷ us) zero v at = omega (arith, sum_by-cons f u us, ap f (some-injective u v at))
total_at f (u ∷ us) (suc j) v at = omega (arith, sum_by-cons f u us, total_at f us j v at)

-- if the first view counts as much as all, the others count nothing
pub total_rest : (f : View → ℕ) (views : List View) (v : View) → get_elem? views 0 ≡ some v → sum_by f views ≡ f v → (j : ℕ) (u : View) → get_elem? views j ≡ some u → j ≢ 0 → f u ≡ 0
total_rest f [] v at is j u there apart = absurd (some-ne-none v (sym at))
total_rest f (x ∷ xs) v at is zero u there apart = absurd (apart refl)
total_rest f (x ∷ xs) v at is (suc j) u there apart = omega (arith, is, sum_by-cons f x xs, ap f (some-injective x v at), total_at f xs j u there)

-- ---- the lists of all views, one after the other

module _ {X : Type 0} where
  -- one view with more
  pub permuted_more : (f : View → List X) (views : List View) (id : ℕ) (v w : View) (es : List X) → get_elem? views id ≡ some v → f w ≡ f v ++ es
      → IsPermutation (es ++ flat_map f views) (flat_map f (set views id w))
  permuted_more f [] id v w es at is = absurd (some-ne-none v (sym at))
  permuted_more f (u ∷ us) zero v w es at is =
      let same : u ≡ v = some-injective u v at in
      let now : flat_map f (w ∷ us) ≡ (f u ++ es) ++ flat_map f us = ap (λ (xs : List X). xs ++ flat_map f us) (is ∙ ap (λ (x : View). f x ++ es) (sym same)) in
      subst (λ (xs : List X). IsPermutation (es ++ flat_map f (u ∷ us)) xs) (sym now)
      (subst (λ (xs : List X). IsPermutation xs ((f u ++ es) ++ flat_map f us)) (append_assoc es (f u) (flat_map f us))
      (IsPermutation-append_left (flat_map f us) (es ++ f u) (f u ++ es) (IsPermutation-append_comm es (f u))))
  permuted_more f (u ∷ us) (suc id) v w es at is =
      let swapped : IsPermutation (es ++ (f u ++ flat_map f us)) (f u ++ (es ++ flat_map f us)) =
      subst (λ (xs : List X). IsPermutation xs (f u ++ (es ++ flat_map f us))) (append_assoc es (f u) (flat_map f us))
      (subst (λ (xs : List X). IsPermutation ((es ++ f u) ++ flat_map f us) xs) (append_assoc (f u) es (flat_map f us))
      (IsPermutation-append_left (flat_map f us) (es ++ f u) (f u ++ es) (IsPermutation-append_comm es (f u)))) in
      IsPermutation-trans (es ++ (f u ++ flat_map f us)) (f u ++ (es ++ flat_map f us)) (f u ++ flat_map f (set us id w)) swapped
      (IsPermutation-append_right (f u) (es ++ flat_map f us) (flat_map f (set us id w)) (permuted_more f us id v w es at is))

  -- one view with the same
  pub flat_set_same : (f : View → List X) (views : List View) (id : ℕ) (v w : View) → get_elem? views id ≡ some v → f w ≡ f v → flat_map f (set views id w) ≡ flat_map f views
  flat_set_same f [] id v w at is = refl
  flat_set_same f (u ∷ us) zero v w at is = ap (λ (xs : List X). xs ++ flat_map f us) (is ∙ ap f (sym (some-injective u v at)))
  flat_set_same f (u ∷ us) (suc id) v w at is = ap (λ (xs : List X). f u ++ xs) (flat_set_same f us id v w at is)

  pub flat_none : (f : View → List X) (views : List View) → ((j : ℕ) (v : View) → get_elem? views j ≡ some v → f v ≡ []) → flat_map f views ≡ []
  flat_none f [] each = refl
  flat_none f (u ∷ us) each = ap (λ (xs : List X). xs ++ flat_map f us) (each 0 u refl) ∙ flat_none f us (λ j v at. each (suc j) v at)

  pub flat_first : (f : View → List X) (views : List View) (v : View) → get_elem? views 0 ≡ some v → ((j : ℕ) (u : View) → get_elem? views j ≡ some u → j ≢ 0 → f u ≡ []) → flat_map f views ≡ f v
  flat_first f [] v at each = absurd (some-ne-none v (sym at))
  flat_first f (u ∷ us) v at each = ap (λ (xs : List X). f u ++ xs) (flat_none f us (λ j x there. each (suc j) x there (λ no. omega (arith, no)))) ∙ append-nil (f u) ∙ ap f (some-injective u v at)

  -- the number of things in lists of which each has at most one
  pub few_in : {Y : Type 0} (count : X → ℕ) (f : Y → List X) (ls : List Y) → All (λ l. sum_by count (f l) ≤ 1) ls → sum_by count (flat_map f ls) ≤ length ls
  few_in count f [] each = omega arith
  few_in count f (l ∷ ls) each = omega (arith, sum_by-append count (f l) (flat_map f ls), all_head (λ x. sum_by count (f x) ≤ 1) l ls each, few_in count f ls (all_tail (λ x. sum_by count (f x) ≤ 1) l ls each))

-- how often a number stands in the lists of all elements
pub times_flat : {X : Type 0} (n : ℕ) (f : X → List ℕ) (xs : List X) → times n (flat_map f xs) ≡ sum_by (λ x. times n (f x)) xs
times_flat n f [] = refl
times_flat n f (u ∷ us) = times-append n (f u) (flat_map f us) ∙ ap (λ k. times n (f u) + k) (times_flat n f us) ∙ sym (sum_by-cons (λ v. times n (f v)) u us)

-- a property that follows from another holds of all elements too
pub all_pairs_map : {X : Type 0} (P Q : X → Type 0) (xs : List X) → ((x : X) → P x → Q x) → All P xs → All Q xs
all_pairs_map P Q xs f all k d within = f _ (all k d within)
