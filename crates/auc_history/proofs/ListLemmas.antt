-- Lists of entries and of numbers: pairs, some element, filters, how often a number stands in a list.
use Rattle.std.proofs.Common.{◌≡◌, ℕ, zero, suc, ◌+◌, ◌<◌, ◌≤◌, ◌≢◌, ◌⊎◌, ◌==◌, Bool, true, false, cond, List, [], ◌∷◌, ◌++◌, length, get_or, arith, All, AllPairs, Any, Contains, filter, sum_by, IsPermutation, refl, sym, ap, ◌∙◌, subst, inl, inr, eq-eqb}
use Rattle.std.proofs.lemmas.Bool.{cond-true, cond-false}
use Rattle.std.proofs.lemmas.List.{get_or_append_left, get_or-append-add, length-append}
use Rattle.std.proofs.lemmas.List.Elements.{All-head, All-tail}
use Rattle.std.proofs.lemmas.List.Sorted.{IsPermutation-refl, IsPermutation-sym, IsPermutation-cons, IsPermutation-trans, IsPermutation-middle}
use Rattle.std.proofs.lemmas.List.Sums.{sum_by-cons, sum_by-append, get_or-le-sum_by}
use Rattle.auc_history.specs.Split.{times}

-- each pair of a list with a head: the head with each other, and each pair of the others
pub AllPairs-cons : {X : Type 0} (R : X → X → Type 0) (x : X) (xs : List X) → All (R x) xs → AllPairs R xs → AllPairs R (x ∷ xs)
AllPairs-cons R x xs first rest zero zero d i<j j<n = absurd (omega arith)
AllPairs-cons R x xs first rest zero (suc j) d i<j j<n = first j d (omega arith)
AllPairs-cons R x xs first rest (suc i) zero d i<j j<n = absurd (omega arith)
AllPairs-cons R x xs first rest (suc i) (suc j) d i<j j<n = rest i j d (omega arith) (omega arith)

-- the head of such a list with each other
pub AllPairs-head : {X : Type 0} (R : X → X → Type 0) (x : X) (xs : List X) → AllPairs R (x ∷ xs) → All (R x) xs
AllPairs-head R x xs all k d k<n = all zero (suc k) d (omega arith) (omega arith)

-- the pairs of the others
pub AllPairs-tail : {X : Type 0} (R : X → X → Type 0) (x : X) (xs : List X) → AllPairs R (x ∷ xs) → AllPairs R xs
AllPairs-tail R x xs all i j d i<j j<n = all (suc i) (suc j) d (omega arith) (omega arith)

-- some element of the others is some element of a list with a head
pub Any-cons : {X : Type 0} (P : X → Type 0) (x : X) (xs : List X) → Any P xs → Any P (x ∷ xs)
Any-cons P x xs (k, y, k<n, at, p) = (suc k, y, omega arith, at, p)

-- the head is some element
pub Any-head : {X : Type 0} (P : X → Type 0) (x : X) (xs : List X) → P x → Any P (x ∷ xs)
Any-head P x xs p = (zero, x, omega arith, refl, p)

-- some element of a list with a head is the head or some element of the others
pub Any-cases : {X : Type 0} (P : X → Type 0) (x : X) (xs : List X) → Any P (x ∷ xs) → P x ⊎ Any P xs
Any-cases P x xs (zero, y, k<n, at, p) = inl (subst P (sym at) p)
Any-cases P x xs (suc k, y, k<n, at, p) = inr (k, y, omega arith, at, p)

-- the pairs of a front
pub AllPairs-left : {X : Type 0} (R : X → X → Type 0) (xs ys : List X) → AllPairs R (xs ++ ys) → AllPairs R xs
AllPairs-left R xs ys all i j d i<j j<n =
    let more = length-append xs ys in
    let at_i = get_or_append_left xs ys d i (omega arith) in
    let at_j = get_or_append_left xs ys d j j<n in
    let pair : R (get_or (xs ++ ys) i d) (get_or (xs ++ ys) j d) = all i j d i<j (omega arith) in
    rw (← at_i, ← at_j) pair

-- the pairs of an end
pub AllPairs-right : {X : Type 0} (R : X → X → Type 0) (xs ys : List X) → AllPairs R (xs ++ ys) → AllPairs R ys
AllPairs-right R xs ys all i j d i<j j<n =
    let more = length-append xs ys in
    let at_i = get_or-append-add xs ys i d in
    let at_j = get_or-append-add xs ys j d in
    let pair : R (get_or (xs ++ ys) (length xs + i) d) (get_or (xs ++ ys) (length xs + j) d) = all (length xs + i) (length xs + j) d (omega arith) (omega arith) in
    rw (← at_i, ← at_j) pair

-- how often a number stands in a list with a head
pub times-cons : (n m : ℕ) (xs : List ℕ) → times n (m ∷ xs) ≡ cond (m == n) 1 0 + times n xs
times-cons n m xs = sum_by-cons (λ k. cond (k == n) 1 0) m xs

-- in a list and another behind it
pub times-append : (n : ℕ) (xs ys : List ℕ) → times n (xs ++ ys) ≡ times n xs + times n ys
times-append n xs ys = sum_by-append (λ k. cond (k == n) 1 0) xs ys

-- a number of a list stands in it
pub times_at : (xs : List ℕ) (k d : ℕ) → k < length xs → 1 ≤ times (get_or xs k d) xs
times_at xs k d k<n =
    let same = eq-eqb (get_or xs k d) (get_or xs k d) refl in
    let least = get_or-le-sum_by (λ m. cond (m == get_or xs k d) 1 0) xs k d k<n in
    let one : ◌≡◌ {A = ℕ} (cond (get_or xs k d == get_or xs k d) 1 0) 1 = rw same refl in
    omega (arith, least, one)

-- numbers of which none stands twice differ
pub differ_from_times : (xs : List ℕ) → ((n : ℕ) → times n xs ≤ 1) → AllPairs ◌≢◌ xs
differ_from_times [] once = λ i j d i<j j<n. absurd (omega arith)
differ_from_times (x ∷ xs) once =
    AllPairs-cons ◌≢◌ x xs
    (λ k d k<n same. first_again x xs k d k<n (once x) same)
    (differ_from_times xs (λ n. let all = once n in let cut = times-cons n x xs in omega (arith, all, cut)))
  where
    first_again : (x : ℕ) (xs : List ℕ) (k d : ℕ) → k < length xs → times x (x ∷ xs) ≤ 1 → x ≡ get_or xs k d → ⊥
    first_again x xs k d k<n once same =
        let self = eq-eqb x x refl in
        let cut = times-cons x x xs in
        let one : ◌≡◌ {A = ℕ} (cond (x == x) 1 0) 1 = rw self refl in
        let there : 1 ≤ times x xs = rw same (times_at xs k d k<n) in
        omega (arith, cut, one, there)

-- a filter that nothing passes
pub filter_none : {X : Type 0} (p : X → Bool) (xs : List X) → All (λ x. p x ≡ false) xs → filter p xs ≡ []
filter_none p [] none = refl
filter_none p (x ∷ xs) none =
    cond-false (p x) (x ∷ filter p xs) (filter p xs) (All-head (λ y. p y ≡ false) x xs none)
    ∙ filter_none p xs (All-tail (λ y. p y ≡ false) x xs none)

-- a filter that everything passes
pub filter_all : {X : Type 0} (p : X → Bool) (xs : List X) → All (λ x. p x ≡ true) xs → filter p xs ≡ xs
filter_all p [] all = refl
filter_all {X} p (x ∷ xs) all =
    cond-true (p x) (x ∷ filter p xs) (filter p xs) (All-head (λ y. p y ≡ true) x xs all)
    ∙ ap (λ (ys : List X). x ∷ ys) (filter_all p xs (All-tail (λ y. p y ≡ true) x xs all))

-- a head that passes a test passes one of two others
apart_head : {X : Type 0} (x : X) (us vs ws : List X) (b c d : Bool) → ◌≡◌ {A = ℕ} (cond b 1 0) (cond c 1 0 + cond d 1 0)
    → IsPermutation us (vs ++ ws) → IsPermutation (cond b (x ∷ us) us) (cond c (x ∷ vs) vs ++ cond d (x ∷ ws) ws)
apart_head x us vs ws true true true one rest = absurd (omega arith)
apart_head x us vs ws true true false one rest = IsPermutation-cons x us (vs ++ ws) rest
apart_head x us vs ws true false true one rest =
    IsPermutation-trans (x ∷ us) (x ∷ (vs ++ ws)) (vs ++ x ∷ ws) (IsPermutation-cons x us (vs ++ ws) rest)
    (IsPermutation-sym (vs ++ x ∷ ws) (x ∷ (vs ++ ws)) (IsPermutation-middle vs x ws))
apart_head x us vs ws true false false one rest = absurd (omega arith)
apart_head x us vs ws false true true one rest = absurd (omega arith)
apart_head x us vs ws false true false one rest = absurd (omega arith)
apart_head x us vs ws false false true one rest = absurd (omega arith)
apart_head x us vs ws false false false one rest = rest

-- what passes a test is what passes the one and what passes the other of two tests that divide it
pub filter_apart : {X : Type 0} (p q r : X → Bool) → ((x : X) → ◌≡◌ {A = ℕ} (cond (p x) 1 0) (cond (q x) 1 0 + cond (r x) 1 0))
    → (xs : List X) → IsPermutation (filter p xs) (filter q xs ++ filter r xs)
filter_apart p q r apart [] = IsPermutation-refl []
filter_apart p q r apart (x ∷ xs) =
    apart_head x (filter p xs) (filter q xs) (filter r xs) (p x) (q x) (r x) (apart x) (filter_apart p q r apart xs)

-- where a sum is at most one, the elements that add to it are one
pub alone : {X : Type 0} (f : X → ℕ) (xs : List X) (x y : X) → sum_by f xs ≤ 1 → Contains xs x → Contains xs y → 1 ≤ f x → 1 ≤ f y → x ≡ y
alone f [] x y few (i, i<n, at_i) (j, j<n, at_j) some_x some_y = absurd (omega arith)
alone f (z ∷ zs) x y few (zero, i<n, at_i) (zero, j<n, at_j) some_x some_y = sym at_i ∙ at_j
alone f (z ∷ zs) x y few (zero, i<n, at_i) (suc j, j<n, at_j) some_x some_y =
    let cut = sum_by-cons f z zs in
    let least = get_or-le-sum_by f zs j y (omega arith) in
    let first = ap f at_i in
    let second = ap f at_j in
    absurd (omega (arith, cut, least, first, second))
alone f (z ∷ zs) x y few (suc i, i<n, at_i) (zero, j<n, at_j) some_x some_y =
    let cut = sum_by-cons f z zs in
    let least = get_or-le-sum_by f zs i x (omega arith) in
    let first = ap f at_i in
    let second = ap f at_j in
    absurd (omega (arith, cut, least, first, second))
alone f (z ∷ zs) x y few (suc i, i<n, at_i) (suc j, j<n, at_j) some_x some_y =
    let cut = sum_by-cons f z zs in
    alone f zs x y (omega (arith, cut)) (i, omega arith, at_i) (j, omega arith, at_j) some_x some_y
