-- For plain sessions: the first element of a list that passes a test.
use Rattle.std.proofs.Common.{◌≡◌, ◌≢◌, ℕ, ◌<◌, ◌≤◌, Bool, true, false, List, [], ◌∷◌, ◌++◌, length, get_or, position, Option, Some, None, slice_get, slice_set, cond, ltb, nat_lt, refl, sym, ap, ◌∙◌, arith, ⊎_elim}
use Rattle.std.proofs.lemmas.Bool.{cases_eq, lt-ltb}
use Rattle.std.proofs.lemmas.Bool.Decides.{nat_tests}
use Rattle.std.proofs.lemmas.List.{get_or-set_other, get_or-set_same, get_or_append_left, get_or_push, length-set, length_push}
use Rattle.std.proofs.lemmas.List.Quantifiers.{position-Some}
use Rattle.std.proofs.lemmas.List.Sums.{fails_before_first, position_or_len_is}
use Rattle.std.proofs.lemmas.Option.{get_or_from_slice_get, slice_get-get_or, slice_get_within}
use Rattle.std.specs.List.{position_or_len}

-- the first place at which a test passes
position_is : {X : Type 0} (p : X → Bool) (xs : List X) (i : ℕ) (x : X) → slice_get xs i ≡ Some x → p x ≡ true → ((k : ℕ) → k < i → p (get_or xs k x) ≡ false)
    → position p xs ≡ Some i
position_is p xs i x there passes before =
    let within = slice_get_within xs i x there in
    let first = position_or_len_is p xs i x (omega arith) before (λ h. ap p (get_or_from_slice_get xs i x x there) ∙ passes) in
    ap (λ (k : ℕ). cond (ltb k (length xs)) (Some k) None) first ∙ ap (λ (b : Bool). cond b (Some i) None) (lt-ltb i (length xs) within)

-- there is none if no element passes
pub none_passes : {X : Type 0} (p : X → Bool) (xs : List X) → position p xs ≡ None → (k : ℕ) (d : X) → k < length xs → p (get_or xs k d) ≡ false
none_passes {X} p xs none = by (nat_lt (position_or_len p xs) (length xs)) refl none
  where
    by : (b : Bool) → nat_lt (position_or_len p xs) (length xs) ≡ b → ◌≡◌ {A = Option ℕ} (cond b (Some (position_or_len p xs)) None) None → (k : ℕ) (d : X) → k < length xs → p (get_or xs k d) ≡ false
    by true is none = absurd cc
    by false is none = λ k d inside. let long : length xs ≤ position_or_len p xs = grind (arith, nat_tests) in fails_before_first p xs k d (omega arith)

-- two elements at one place are one
at_one_place : {X : Type 0} (xs : List X) (i j : ℕ) (x y : X) → slice_get xs i ≡ Some x → slice_get xs j ≡ Some y → i ≡ j → x ≡ y
at_one_place xs i j x y there also same = cc

-- the first that passes a test stays it, if an element that fails the test becomes another one that fails it
pub record StaysFirst {X : Type 0} (p : X → Bool) (xs : List X) (i : ℕ) (x : X) : Type 0 where
  pub first : position p xs ≡ Some i
  pub there : slice_get xs i ≡ Some x

pub passes_first : {X : Type 0} (p : X → Bool) (xs : List X) (i : ℕ) (x : X) → StaysFirst p xs i x → p x ≡ true
passes_first p xs i x is = ap p (sym (get_or_from_slice_get xs i x x is.there)) ∙ (position-Some p xs i x is.first).1

pub first_after_set : {X : Type 0} (p : X → Bool) (xs : List X) (i j : ℕ) (x old new : X) → StaysFirst p xs i x → slice_get xs j ≡ Some old → p old ≡ false → p new ≡ false
    → StaysFirst p (slice_set xs j new) i x
first_after_set {X} p xs i j x old new is was fails still =
    let passes = passes_first p xs i x is in
    let apart : i ≢ j = λ same. let one = at_one_place xs i j x old is.there was same in let no : ⊥ = cc in no in
    let long = length-set xs j new in
    let within = slice_get_within xs i x is.there in
    let beyond = slice_get_within xs j old was in
    let there : slice_get (slice_set xs j new) i ≡ Some x =
    slice_get-get_or (slice_set xs j new) i x (omega arith) ∙ ap Some (get_or-set_other xs j i new x apart ∙ get_or_from_slice_get xs i x x is.there) in
    record {
      first = position_is p (slice_set xs j new) i x there passes (λ k less.
          ⊎_elim
          (λ (same : k ≡ j). ap (λ (n : ℕ). p (get_or (slice_set xs j new) n x)) same ∙ ap p (get_or-set_same xs j new x beyond) ∙ still)
          (λ (differ : k ≢ j). ap p (get_or-set_other xs j k new x differ) ∙ (position-Some p xs i x is.first).2 k less)
          (cases_eq k j));
      there = there;
    }

-- and if an element is added
pub first_after_push : {X : Type 0} (p : X → Bool) (xs : List X) (i : ℕ) (x new : X) → StaysFirst p xs i x → StaysFirst p (xs ++ new ∷ []) i x
first_after_push p xs i x new is =
    let within = slice_get_within xs i x is.there in
    let long = length_push xs new in
    let there : slice_get (xs ++ new ∷ []) i ≡ Some x =
    slice_get-get_or (xs ++ new ∷ []) i x (omega arith) ∙ ap Some (get_or_append_left xs (new ∷ []) x i within ∙ get_or_from_slice_get xs i x x is.there) in
    record {
      first = position_is p (xs ++ new ∷ []) i x there (passes_first p xs i x is)
          (λ k less. ap p (get_or_append_left xs (new ∷ []) x k (omega arith)) ∙ (position-Some p xs i x is.first).2 k less);
      there = there;
    }

-- the first element that passes a test is the one that is added
pub pushed_is_first : {X : Type 0} (p : X → Bool) (xs : List X) (new : X) → position p xs ≡ None → p new ≡ true → StaysFirst p (xs ++ new ∷ []) (length xs) new
pushed_is_first p xs new none passes =
    let long = length_push xs new in
    let there : slice_get (xs ++ new ∷ []) (length xs) ≡ Some new =
    slice_get-get_or (xs ++ new ∷ []) (length xs) new (omega arith) ∙ ap Some (get_or_push xs new new (length xs) refl) in
    record {
      first = position_is p (xs ++ new ∷ []) (length xs) new there passes
          (λ k less. ap p (get_or_append_left xs (new ∷ []) new k less) ∙ none_passes p xs none k new less);
      there = there;
    }
