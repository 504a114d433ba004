-- Entries that come after others, for the crates above.
use Rattle.std.proofs.Common.{◌≡◌, List, [], ◌∷◌, ◌++◌, All, AllPairs, get_or, arith, subst}
use Rattle.std.proofs.lemmas.List.Elements.{All-nil, All-cons, All-head, All-tail, All-append}
use Rattle.auc_history.specs.declared.entry.Entry.{Entry}
use Rattle.auc_history.specs.History.{IsBefore, IsInOrder}
use Rattle.auc_history.proofs.Facts.{AllPairs-cons, AllPairs-head, AllPairs-tail}

-- ---- lists of anything

-- what holds of all elements holds of the first ones
all_left : {X : Type 0} (P : X → Type 0) (xs ys : List X) → All P (xs ++ ys) → All P xs
all_left P [] ys all = All-nil P
all_left P (x ∷ xs) ys all = All-cons P x xs (All-head P x (xs ++ ys) all) (all_left P xs ys (All-tail P x (xs ++ ys) all))

-- and of the last ones
all_right : {X : Type 0} (P : X → Type 0) (xs ys : List X) → All P (xs ++ ys) → All P ys
all_right P [] ys all = all
all_right P (x ∷ xs) ys all = all_right P xs ys (All-tail P x (xs ++ ys) all)

-- the pairs of two lists, one after the other: those of each, and those across
pairs_both : {X : Type 0} (R : X → X → Type 0) (xs ys : List X) → AllPairs R xs → AllPairs R ys → All (λ x. All (R x) ys) xs → AllPairs R (xs ++ ys)
pairs_both R [] ys first second across = second
pairs_both R (x ∷ xs) ys first second across =
    AllPairs-cons R x (xs ++ ys)
    (All-append (R x) xs ys (AllPairs-head R x xs first) (All-head (λ z. All (R z) ys) x xs across))
    (pairs_both R xs ys (AllPairs-tail R x xs first) second (All-tail (λ z. All (R z) ys) x xs across))

-- the pairs across
pairs_across : {X : Type 0} (R : X → X → Type 0) (xs ys : List X) → AllPairs R (xs ++ ys) → All (λ x. All (R x) ys) xs
pairs_across R [] ys pairs = All-nil (λ x. All (R x) ys)
pairs_across R (x ∷ xs) ys pairs =
    All-cons (λ z. All (R z) ys) x xs (all_right (R x) xs ys (AllPairs-head R x (xs ++ ys) pairs))
    (pairs_across R xs ys (AllPairs-tail R x (xs ++ ys) pairs))

-- the pairs of the last ones
pairs_right : {X : Type 0} (R : X → X → Type 0) (xs ys : List X) → AllPairs R (xs ++ ys) → AllPairs R ys
pairs_right R [] ys pairs = pairs
pairs_right R (x ∷ xs) ys pairs = pairs_right R xs ys (AllPairs-tail R x (xs ++ ys) pairs)

-- ---- entries

-- no entries are in order
pub in_order_none : IsInOrder []
in_order_none i j d below within = absurd (omega arith)

-- and no entry fails to continue earlier ones
pub after_none : (before : List Entry) → All (λ d. All (IsBefore d) []) before
after_none before k d within = All-nil (IsBefore (get_or before k d))

-- the last of some entries that are in order are in order
pub in_order_last : (before es : List Entry) → IsInOrder (before ++ es) → IsInOrder es
in_order_last before es order = pairs_right IsBefore before es order

-- and they continue those before them
pub after_last : (before es : List Entry) → IsInOrder (before ++ es) → All (λ d. All (IsBefore d) es) before
after_last before es order = pairs_across IsBefore before es order

-- entries in order, and then further ones that continue all before them, are in order
pub in_order_both : (before mid es fs : List Entry) → mid ≡ before ++ es → IsInOrder es → IsInOrder fs → All (λ d. All (IsBefore d) fs) mid → IsInOrder (es ++ fs)
in_order_both before mid es fs is first second after =
    let each = subst (λ (xs : List Entry). All (λ d. All (IsBefore d) fs) xs) is after in
    pairs_both IsBefore es fs first second (all_right (λ d. All (IsBefore d) fs) before es each)

-- if both continue those before them, so do they together
pub after_both : (before mid es fs : List Entry) → mid ≡ before ++ es → All (λ d. All (IsBefore d) es) before → All (λ d. All (IsBefore d) fs) mid → All (λ d. All (IsBefore d) (es ++ fs)) before
after_both before mid es fs is first second =
    let each = subst (λ (xs : List Entry). All (λ d. All (IsBefore d) fs) xs) is second in
    λ k d within. All-append (IsBefore (get_or before k d)) es fs (first k d within) (all_left (λ d. All (IsBefore d) fs) before es each k d within)
