-- Lists: rising ones, some element, and a list with one element changed.
use Rattle.std.proofs.Common.{◌≡◌, ◌≢◌, ℕ, zero, suc, ◌+◌, ◌<◌, ◌≤◌, ◌⊎◌, inl, inr, List, [], ◌∷◌, ◌++◌, length, take, drop, get_or, slice_get, slice_set, replicate, All, AllPairs, Contains, Some, refl, sym, ap, subst, ◌∙◌, arith}
use Rattle.std.proofs.lemmas.Bool.{cases_lt}
use Rattle.std.proofs.lemmas.List.{get_or-drop, get_or_append_left, get_or-append-add, get_or_default, length-append, length-drop, take_more_set}
use Rattle.std.proofs.lemmas.List.Elements.{All-append}
use Rattle.std.proofs.lemmas.List.Quantifiers.{all_pairs_push}
use Rattle.std.proofs.lemmas.Option.{get_or_from_slice_get, slice_get_within}
use Rattle.auc_history.proofs.Facts.{AllPairs-cons, AllPairs-head, AllPairs-tail}
use Rattle.auc_sites.specs.Lease.{IsRising}

-- ---- rising lists

-- the empty list rises
pub no_pairs : IsRising []
no_pairs i j d i<j j<n = absurd (omega arith)

-- a rising list with a further number, which is above all
pub rising_push : (xs : List ℕ) (n : ℕ) → IsRising xs → All (λ m. m < n) xs → IsRising (xs ++ n ∷ [])
rising_push xs n rising above = all_pairs_push ◌<◌ xs n rising (λ k d k<n. above k d k<n)

-- a front of an array with a further number behind it
pub rising_more : (xs : List ℕ) (len n : ℕ) → len < length xs → IsRising (take len xs) → All (λ m. m < n) (take len xs)
    → IsRising (take (len + 1) (slice_set xs len n))
rising_more xs len n within rising above =
    subst IsRising (sym (take_more_set xs len n within)) (rising_push (take len xs) n rising above)

-- all numbers of a rising list are below a number if the last one is
pub all_below : (xs : List ℕ) (last n : ℕ) → last + 1 ≡ length xs → IsRising xs → get_or xs last 0 < n → All (λ m. m < n) xs
all_below xs last n ends rising below k d k<n = by_place (cases_lt k last)
  where
    by_place : (k < last) ⊎ (last ≤ k) → get_or xs k d < n
    by_place (inl before) =
        let pair = rising k last d before (omega (arith, ends)) in
        let same = get_or_default xs last d 0 (omega (arith, ends)) in
        omega (arith, pair, same, below)
    by_place (inr at_last) =
        let place : k ≡ last = omega (arith, at_last, ends, k<n) in
        let same = get_or_default xs last d 0 (omega (arith, ends)) in
        rw place (omega (arith, same, below))

-- the numbers behind a place of a rising list are above the one at the place
pub above_place : (xs : List ℕ) (place : ℕ) → IsRising xs → All (λ m. get_or xs place 0 < m) (drop (place + 1) xs)
above_place xs place rising k d k<n =
    let size = length-drop (place + 1) xs in
    let behind = get_or-drop (place + 1) xs k d in
    let pair = rising place (place + 1 + k) d (omega arith) (omega (arith, size, k<n)) in
    let same = get_or_default xs place d 0 (omega (arith, size, k<n)) in
    omega (arith, behind, pair, same)

-- the rest of a rising list rises
pub rising_rest : (xs : List ℕ) → IsRising xs → IsRising (drop 1 xs)
rising_rest [] rising = no_pairs
rising_rest (x ∷ xs) rising = λ i j d i<j j<n. rising (suc i) (suc j) d (omega arith) (omega arith)

-- the first number of a rising list doesn't stand in the rest
pub first_alone : (xs : List ℕ) (n : ℕ) → IsRising xs → slice_get xs 0 ≡ Some n → Contains (drop 1 xs) n → ⊥
first_alone [] n rising is at' = absurd (cc)
first_alone (x ∷ xs) n rising is (k, k<n, there) =
    let same : x ≡ n = get_or_from_slice_get (x ∷ xs) 0 n n is in
    let above : x < get_or xs k n = rising zero (suc k) n (omega arith) (omega arith) in
    omega (arith, same, above, there)

-- ---- elements

-- nothing stands in the empty list
pub none_stands : {X : Type 0} (x : X) → Contains [] x → ⊥
none_stands x (k, k<n, at') = omega arith

-- what a place has stands in the list
pub place_stands : {X : Type 0} (xs : List X) (k : ℕ) (x : X) → slice_get xs k ≡ Some x → Contains xs x
place_stands xs k x is = (k, slice_get_within xs k x is, get_or_from_slice_get xs k x x is)

-- and so does what any place within has
pub within_stands : {X : Type 0} (xs : List X) (k : ℕ) (d : X) → k < length xs → Contains xs (get_or xs k d)
within_stands xs k d within = (k, within, get_or_default xs k (get_or xs k d) d within)

-- an element of the rest is one of the list
pub rest_stands : {X : Type 0} (xs : List X) (x : X) → Contains (drop 1 xs) x → Contains xs x
rest_stands [] x at' = at'
rest_stands (y ∷ xs) x (k, k<n, there) = (suc k, omega arith, there)

-- ---- pairs

-- a pair of an element of a front and one behind it
pub AllPairs-across : {X : Type 0} (R : X → X → Type 0) (xs ys : List X) (x y : X) → AllPairs R (xs ++ ys) → Contains xs x → Contains ys y → R x y
AllPairs-across R xs ys x y all (i, i<n, at_i) (j, j<n, at_j) =
    let more = length-append xs ys in
    let left : get_or (xs ++ ys) i x ≡ x = get_or_append_left xs ys x i i<n ∙ at_i in
    let right : get_or (xs ++ ys) (length xs + j) x ≡ y = get_or-append-add xs ys j x ∙ get_or_default ys j x y j<n ∙ at_j in
    let pair : R (get_or (xs ++ ys) i x) (get_or (xs ++ ys) (length xs + j) x) = all i (length xs + j) x (omega arith) (omega arith) in
    subst (λ z. R z y) left (subst (R (get_or (xs ++ ys) i x)) right pair)

-- the pairs of two lists, and those across, are those of the lists together
pub AllPairs-join : {X : Type 0} (R : X → X → Type 0) (xs ys : List X) → AllPairs R xs → AllPairs R ys
    → ((x y : X) → Contains xs x → Contains ys y → R x y) → AllPairs R (xs ++ ys)
AllPairs-join R [] ys left right across = right
AllPairs-join {X = X} R (x ∷ xs) ys left right across =
    AllPairs-cons R x (xs ++ ys)
    (All-append (R x) xs ys (AllPairs-head R x xs left) (λ k d k<n. across x (get_or ys k d) (zero, omega arith, refl) (within_stands ys k d k<n)))
    (AllPairs-join R xs ys (AllPairs-tail R x xs left) right (λ y z y_in z_in. across y z (further y y_in) z_in))
  where
    further : (y : X) → Contains xs y → Contains (x ∷ xs) y
    further y (k, k<n, there) = (suc k, omega arith, there)

-- the pairs of a front are pairs of the list
pub AllPairs-front : {X : Type 0} (R : X → X → Type 0) (xs ys : List X) → AllPairs R (xs ++ ys) → AllPairs R xs
AllPairs-front R xs ys all i j d i<j j<n =
    let more = length-append xs ys in
    let at_i = get_or_append_left xs ys d i (omega arith) in
    let at_j = get_or_append_left xs ys d j j<n in
    let pair : R (get_or (xs ++ ys) i d) (get_or (xs ++ ys) j d) = all i j d i<j (omega arith) in
    rw (← at_i, ← at_j) pair

-- ---- a changed element

-- a place of a list with one element changed has the new one, or is another place
pub set_cases : {X : Type 0} (xs : List X) (i j : ℕ) (new x : X) → slice_get (slice_set xs i new) j ≡ Some x
    → ((j ≡ i) × (x ≡ new)) ⊎ ((j ≢ i) × (slice_get xs j ≡ Some x))
set_cases [] i j new x is = inr (absurd (cc), is)
set_cases (y ∷ ys) zero zero new x is = inl (refl, sym (get_or_from_slice_get (new ∷ ys) 0 x x is))
set_cases (y ∷ ys) zero (suc j) new x is = inr (λ same. omega (arith, same), is)
set_cases (y ∷ ys) (suc i) zero new x is = inr (λ same. omega (arith, same), is)
set_cases (y ∷ ys) (suc i) (suc j) new x is = one_further i j (set_cases ys i j new x is)
  where
    one_further : {A B : Type 0} (i j : ℕ) → ((j ≡ i) × A) ⊎ ((j ≢ i) × B) → ((suc j ≡ suc i) × A) ⊎ ((suc j ≢ suc i) × B)
    one_further i j (inl (same, a)) = inl (ap suc same, a)
    one_further i j (inr (other, b)) = inr (λ same. other (omega (arith, same)), b)

-- one element more of a list is filled with a value
fill_next : {X : Type 0} (y : X) (xs : List X) (i : ℕ) → i < length xs
    → slice_set (replicate i y ++ drop i xs) i y ≡ replicate (suc i) y ++ drop (suc i) xs
fill_next y [] i within = absurd (omega arith)
fill_next y (x ∷ xs) zero within = refl
fill_next {X = X} y (x ∷ xs) (suc i) within = ap (λ (ys : List X). y ∷ ys) (fill_next y xs i (omega arith))

pub fill_more : {X : Type 0} (y : X) (xs items : List X) (i : ℕ) → i < length xs → items ≡ replicate i y ++ drop i xs
    → slice_set items i y ≡ replicate (i + 1) y ++ drop (i + 1) xs
fill_more {X = X} y xs items i within front =
    let step : suc i ≡ i + 1 = omega arith in
    ap (λ (ys : List X). slice_set ys i y) front ∙ fill_next y xs i within ∙ ap (λ (k : ℕ). replicate k y ++ drop k xs) step
