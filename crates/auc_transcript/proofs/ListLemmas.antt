-- For the laws of positions, of keys and of leases: what holds of a list's front and end, pairs of the two, and filters that nothing or everything passes.
use Rattle.std.proofs.Common.{◌≡◌, ◌+◌, Bool, true, false, List, [], ◌∷◌, ◌++◌, length, get_or, arith, All, AllPairs, Contains, filter, refl, ap, subst, ◌∙◌}
use Rattle.std.proofs.lemmas.Bool.{cond-true, cond-false}
use Rattle.std.proofs.lemmas.List.{get_or_append_left, get_or-append-add, length-append}
use Rattle.std.proofs.lemmas.List.Elements.{All-append, All-cons, All-head, All-nil, All-tail}
use Rattle.auc_history.proofs.Facts.{AllPairs-cons, AllPairs-head, AllPairs-tail}

-- the pairs of a front
pub AllPairs-left : {X : Type 0} (R : X → X → Type 0) (xs ys : List X) → AllPairs R (xs ++ ys) → AllPairs R xs
AllPairs-left R xs ys all i j d i<j j<n =
    let more = length-append xs ys in
    let at_i = get_or_append_left xs ys d i (omega arith) in
    let at_j = get_or_append_left xs ys d j j<n in
    let pair : R (get_or (xs ++ ys) i d) (get_or (xs ++ ys) j d) = all i j d i<j (omega arith) in
    rw (← at_i, ← at_j) pair

-- the pairs of an end
pub AllPairs-right : {X : Type 0} (R : X → X → Type 0) (xs ys : List X) → AllPairs R (xs ++ ys) → AllPairs R ys
AllPairs-right R xs ys all i j d i<j j<n =
    let more = length-append xs ys in
    let at_i = get_or-append-add xs ys i d in
    let at_j = get_or-append-add xs ys j d in
    let pair : R (get_or (xs ++ ys) (length xs + i) d) (get_or (xs ++ ys) (length xs + j) d) = all (length xs + i) (length xs + j) d (omega arith) (omega arith) in
    rw (← at_i, ← at_j) pair

-- a filter that nothing passes
pub filter_none : {X : Type 0} (p : X → Bool) (xs : List X) → All (λ x. p x ≡ false) xs → filter p xs ≡ []
filter_none p [] none = refl
filter_none p (x ∷ xs) none =
    cond-false (p x) (x ∷ filter p xs) (filter p xs) (All-head (λ y. p y ≡ false) x xs none)
    ∙ filter_none p xs (All-tail (λ y. p y ≡ false) x xs none)

-- a filter that everything passes
pub filter_all : {X : Type 0} (p : X → Bool) (xs : List X) → All (λ x. p x ≡ true) xs → filter p xs ≡ xs
filter_all p [] all = refl
filter_all {X} p (x ∷ xs) all =
    cond-true (p x) (x ∷ filter p xs) (filter p xs) (All-head (λ y. p y ≡ true) x xs all)
    ∙ ap (λ (ys : List X). x ∷ ys) (filter_all p xs (All-tail (λ y. p y ≡ true) x xs all))

-- what holds of all of two lists holds of all of each
pub all_left : {X : Type 0} (P : X → Type 0) (xs ys : List X) → All P (xs ++ ys) → All P xs
all_left P [] ys all = All-nil P
all_left P (x ∷ xs) ys all = All-cons P x xs (All-head P x (xs ++ ys) all) (all_left P xs ys (All-tail P x (xs ++ ys) all))

pub all_right : {X : Type 0} (P : X → Type 0) (xs ys : List X) → All P (xs ++ ys) → All P ys
all_right P [] ys all = all
all_right P (x ∷ xs) ys all = all_right P xs ys (All-tail P x (xs ++ ys) all)

-- if two lists are in order, each element of the second is after all of the first
pub pairs_across : {X : Type 0} (R : X → X → Type 0) (xs ys : List X) → AllPairs R (xs ++ ys) → All (λ y. All (λ x. R x y) xs) ys
pairs_across R [] ys pairs = λ k d inside. All-nil (λ x. R x (get_or ys k d))
pairs_across R (x ∷ xs) ys pairs =
    let first = all_right (R x) xs ys (AllPairs-head R x (xs ++ ys) pairs) in
    let rest = pairs_across R xs ys (AllPairs-tail R x (xs ++ ys) pairs) in
    λ k d inside. All-cons (λ z. R z (get_or ys k d)) x xs (first k d inside) (rest k d inside)

-- and the other way round
pub pairs_join : {X : Type 0} (R : X → X → Type 0) (xs ys : List X) → AllPairs R xs → AllPairs R ys → All (λ y. All (λ x. R x y) xs) ys → AllPairs R (xs ++ ys)
pairs_join R [] ys left right across = right
pairs_join R (x ∷ xs) ys left right across =
    AllPairs-cons R x (xs ++ ys)
    (All-append (R x) xs ys (AllPairs-head R x xs left) (λ k d inside. All-head (λ z. R z (get_or ys k d)) x xs (across k d inside)))
    (pairs_join R xs ys (AllPairs-tail R x xs left) right (λ k d inside. All-tail (λ z. R z (get_or ys k d)) x xs (across k d inside)))

-- what holds of all holds of each
pub all_of : {X : Type 0} (P : X → Type 0) (xs : List X) (x : X) → All P xs → Contains xs x → P x
all_of P xs x all (k, inside, is) = subst P is (all k x inside)
