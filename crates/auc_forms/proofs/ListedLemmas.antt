-- For the lines of `reserved`: limits in another order reserve the same, and those of different identities are strictly ordered.
use Rattle.std.proofs.Common.{◌≡◌, ℕ, zero, suc, ◌+◌, ◌*◌, ◌<◌, ◌≤◌, ◌⊎◌, max, Bool, true, false, List, [], ◌∷◌, ◌++◌, length, take, get_or, Some, All, refl, sym, ◌∙◌, ap, subst, arith, inl, inr}
use Rattle.std.specs.Prelude.{if◌then◌else◌, slice_get, sum_by}
use Rattle.std.specs.List.Sorted.{IsPermutation, IsNonDecreasingBy}
use Rattle.std.proofs.lemmas.Bool.Decides.{nat_tests}
use Rattle.std.proofs.lemmas.List.{take_more}
use Rattle.std.proofs.lemmas.Option.{get_or_from_slice_get}
use Rattle.std.proofs.lemmas.List.Elements.{All-nil, All-cons, All-head, All-tail, All-weaker}
use Rattle.std.proofs.lemmas.List.Sorted.{All-permutation, IsPermutation-sym, sum_by-IsPermutation}
use Rattle.std.proofs.lemmas.List.Sums.{sum_by-append}
use Rattle.auc_memory.specs.Identity.{Identity}
use Rattle.auc_journal.specs.Image.{Frame, reserved_in, same_identity}
use Rattle.auc_journal.specs.Limits.{AreSingle}
use Rattle.auc_forms.specs.Reserved.{AreListed, ComesBefore}

-- ---- what limits reserve in another order

-- a frame of this identity has a limit of at most a number
abbrev pub Below : Identity → ℕ → Frame → Type 0
Below imsi bound frame = same_identity frame.imsi imsi ≡ true → frame.limit ≤ bound

-- so then is what all of them reserve
reserved_below : (frames : List Frame) (imsi : Identity) (bound : ℕ) → All (Below imsi bound) frames → reserved_in frames imsi ≤ bound
reserved_below [] imsi bound all = omega arith
reserved_below (frame ∷ frames) imsi bound all =
    cases (same_identity frame.imsi imsi) refl (reserved_below frames imsi bound (All-tail (Below imsi bound) frame frames all))
  where
    cases : (same : Bool) → same_identity frame.imsi imsi ≡ same → reserved_in frames imsi ≤ bound
        → (if same then max frame.limit (reserved_in frames imsi) else reserved_in frames imsi) ≤ bound
    cases true is rest = let first = All-head (Below imsi bound) frame frames all is in omega (arith, first, rest)
    cases false is rest = rest

-- each is below what all reserve
each_below : (frames : List Frame) (imsi : Identity) → All (Below imsi (reserved_in frames imsi)) frames
each_below [] imsi = All-nil (Below imsi 0)
each_below (frame ∷ frames) imsi = cases (same_identity frame.imsi imsi) refl (each_below frames imsi)
  where
    apart : same_identity frame.imsi imsi ≡ false → same_identity frame.imsi imsi ≡ true → ⊥
    apart is same = cc

    cases : (same : Bool) → same_identity frame.imsi imsi ≡ same → All (Below imsi (reserved_in frames imsi)) frames
        → All (Below imsi (if same then max frame.limit (reserved_in frames imsi) else reserved_in frames imsi)) (frame ∷ frames)
    cases true is rest =
        All-cons (Below imsi (max frame.limit (reserved_in frames imsi))) frame frames (λ same. omega arith)
        (All-weaker (Below imsi (reserved_in frames imsi)) (Below imsi (max frame.limit (reserved_in frames imsi))) (λ f below same. let low = below same in omega (arith, low)) frames rest)
    cases false is rest =
        All-cons (Below imsi (reserved_in frames imsi)) frame frames (λ same. absurd (apart is same)) rest

reserved_order : (xs ys : List Frame) (imsi : Identity) → IsPermutation xs ys → reserved_in ys imsi ≤ reserved_in xs imsi
reserved_order xs ys imsi moved =
    reserved_below ys imsi (reserved_in xs imsi) (All-permutation (Below imsi (reserved_in xs imsi)) xs ys moved (each_below xs imsi))

reserved_moved : (xs ys : List Frame) (imsi : Identity) → IsPermutation xs ys → reserved_in ys imsi ≡ reserved_in xs imsi
reserved_moved xs ys imsi moved =
    let one = reserved_order xs ys imsi moved in
    let other = reserved_order ys xs imsi (IsPermutation-sym xs ys moved) in
    omega (arith, one, other)

-- ---- no identity comes twice

-- one for a frame of this identity
abbrev pub one_of : Identity → Frame → ℕ
one_of imsi frame = if same_identity frame.imsi imsi then 1 else 0

-- what a list with one more in front counts
counts_more : (f : Frame → ℕ) (frame : Frame) (frames : List Frame) → sum_by f (frame ∷ frames) ≡ f frame + sum_by f frames
counts_more f frame frames =
    let cut : sum_by f (frame ∷ frames) ≡ (0 + f frame) + sum_by f frames = sum_by-append f (frame ∷ []) frames in omega (arith, cut)

-- a frame of this identity is one, another is none
counts_one : (imsi : Identity) (frame : Frame) → same_identity frame.imsi imsi ≡ true → one_of imsi frame ≡ 1
counts_one imsi frame same = rw same refl

counts_none : (imsi : Identity) (frame : Frame) → same_identity frame.imsi imsi ≡ false → one_of imsi frame ≡ 0
counts_none imsi frame same = rw same refl

-- limits that reserve nothing for an identity have none of it
none_of : (limits : List Frame) (imsi : Identity) → AreSingle limits → reserved_in limits imsi ≡ 0 → sum_by (one_of imsi) limits ≡ 0
none_of [] imsi single none = refl
none_of (limit ∷ limits) imsi (least, other, rest) none =
    let all = counts_more (one_of imsi) limit limits in
    let zero : one_of imsi limit + sum_by (one_of imsi) limits ≡ 0 = cases (same_identity limit.imsi imsi) none (λ zero. none_of limits imsi rest zero) in
    omega (arith, all, zero)
  where
    cases : (same : Bool) → (if same then max limit.limit (reserved_in limits imsi) else reserved_in limits imsi) ≡ 0
        → (reserved_in limits imsi ≡ 0 → sum_by (one_of imsi) limits ≡ 0) → (if same then 1 else 0) + sum_by (one_of imsi) limits ≡ 0
    cases true none further = absurd (omega (arith, none, least))
    cases false none further = let zero = further none in omega (arith, zero)

-- the same identity
same_of : (a b : Identity) → same_identity a b ≡ true → a ≡ b
same_of a b same =
    let digits : a.digits ≡ b.digits = grind (arith, nat_tests) in
    let number : a.number ≡ b.number = grind (arith, nat_tests) in
    ap (λ d. record { digits = d; number = a.number }) digits ∙ ap (λ n. record { digits = b.digits; number = n }) number

-- each identity has one limit at most
single_of : (limits : List Frame) (imsi : Identity) → AreSingle limits → sum_by (one_of imsi) limits ≤ 1
single_of [] imsi single = omega arith
single_of (limit ∷ limits) imsi (least, other, rest) =
    let all = counts_more (one_of imsi) limit limits in
    let few = cases (same_identity limit.imsi imsi) refl (single_of limits imsi rest) in
    omega (arith, all, few)
  where
    cases : (same : Bool) → same_identity limit.imsi imsi ≡ same → sum_by (one_of imsi) limits ≤ 1 → one_of imsi limit + sum_by (one_of imsi) limits ≤ 1
    cases true is more =
        let one = same_of limit.imsi imsi is in
        let none = none_of limits imsi rest (subst (λ (i : Identity). reserved_in limits i ≡ 0) one other) in
        let here = counts_one imsi limit is in
        omega (arith, none, here)
    cases false is more = let here = counts_none imsi limit is in omega (arith, more, here)

-- an element counts, and two do
one_at : (f : Frame → ℕ) (frames : List Frame) (k : ℕ) (d : Frame) → k < length frames → f (get_or frames k d) ≤ sum_by f frames
one_at f [] k d inside = absurd (omega arith)
one_at f (frame ∷ frames) zero d inside =
    let at : f (get_or (frame ∷ frames) 0 d) ≡ f frame = refl in
    let all = counts_more f frame frames in omega (arith, at, all)
one_at f (frame ∷ frames) (suc k) d inside =
    let at : f (get_or (frame ∷ frames) (suc k) d) ≡ f (get_or frames k d) = refl in
    let all = counts_more f frame frames in
    let rest = one_at f frames k d (omega arith) in omega (arith, at, all, rest)

two_at : (f : Frame → ℕ) (frames : List Frame) (i j : ℕ) (d : Frame) → i < j → j < length frames → f (get_or frames i d) + f (get_or frames j d) ≤ sum_by f frames
two_at f [] i j d less inside = absurd (omega arith)
two_at f (frame ∷ frames) i zero d less inside = absurd (omega arith)
two_at f (frame ∷ frames) zero (suc j) d less inside =
    let first : f (get_or (frame ∷ frames) 0 d) ≡ f frame = refl in
    let second : f (get_or (frame ∷ frames) (suc j) d) ≡ f (get_or frames j d) = refl in
    let all = counts_more f frame frames in
    let rest = one_at f frames j d (omega arith) in omega (arith, first, second, all, rest)
two_at f (frame ∷ frames) (suc i) (suc j) d less inside =
    let first : f (get_or (frame ∷ frames) (suc i) d) ≡ f (get_or frames i d) = refl in
    let second : f (get_or (frame ∷ frames) (suc j) d) ≡ f (get_or frames j d) = refl in
    let all = counts_more f frame frames in
    let rest = two_at f frames i j d (omega arith) (omega arith) in omega (arith, first, second, all, rest)

-- ---- the order

-- how an identity ranks
abbrev pub rank_of : Frame → ℕ
rank_of frame = 16 * frame.imsi.number + frame.imsi.digits

-- an identity is the same as itself
itself : (a b : Identity) → a.number ≡ b.number → a.digits ≡ b.digits → same_identity a b ≡ true
itself a b numbers digits = grind (arith, nat_tests)

-- two numbers are in one of three orders
trichotomy : (m n : ℕ) → (m < n) ⊎ ((m ≡ n) ⊎ (n < m))
trichotomy zero zero = inr (inl refl)
trichotomy zero (suc n) = inl (omega arith)
trichotomy (suc m) zero = inr (inr (omega arith))
trichotomy (suc m) (suc n) = elim (trichotomy m n) [
  | inl less ↦ inl (omega (arith, less))
  | inr other ↦ elim other [
    | inl same ↦ inr (inl (ap suc same))
    | inr more ↦ inr (inr (omega (arith, more)))
  ]
]

-- of two identities that differ, the lower rank comes before
before : (a b : Frame) → rank_of a ≤ rank_of b → a.imsi.digits ≤ 15 → b.imsi.digits ≤ 15 → (a.imsi.number ≡ b.imsi.number → a.imsi.digits ≡ b.imsi.digits → ⊥) → ComesBefore a.imsi b.imsi
before a b low first second differ = cases (trichotomy a.imsi.number b.imsi.number) (trichotomy a.imsi.digits b.imsi.digits)
  where
    cases : (a.imsi.number < b.imsi.number) ⊎ ((a.imsi.number ≡ b.imsi.number) ⊎ (b.imsi.number < a.imsi.number))
        → (a.imsi.digits < b.imsi.digits) ⊎ ((a.imsi.digits ≡ b.imsi.digits) ⊎ (b.imsi.digits < a.imsi.digits)) → ComesBefore a.imsi b.imsi
    cases (inl less) digits = inl less
    cases (inr (inl same)) (inl less) = inr (same, less)
    cases (inr (inl same)) (inr (inl equal)) = absurd (differ same equal)
    cases (inr (inl same)) (inr (inr more)) = absurd (omega (arith, low, same, more))
    cases (inr (inr more)) digits = absurd (omega (arith, low, more, first, second))

-- limits of different identities, sorted by their ranks
pub are_listed : (frames limits : List Frame) → AreSingle frames → All (λ limit. limit.imsi.digits ≤ 15) frames → IsPermutation frames limits → IsNonDecreasingBy rank_of limits → AreListed frames limits
are_listed frames limits single digits moved sorted =
    let small = All-permutation (λ (limit : Frame). limit.imsi.digits ≤ 15) frames limits moved digits in
    record {
      ordered = λ i j d less inside.
          before (get_or limits i d) (get_or limits j d) (sorted i j d (omega arith) inside) (small i d (omega arith)) (small j d inside)
          (λ numbers equal.
          let imsi = (get_or limits j d).imsi in
          let one = counts_one imsi (get_or limits i d) (itself (get_or limits i d).imsi imsi numbers equal) in
          let two = counts_one imsi (get_or limits j d) (itself imsi imsi refl refl) in
          let both = two_at (one_of imsi) limits i j d less inside in
          let most = single_of frames imsi single in
          let same = sum_by-IsPermutation (one_of imsi) frames limits moved in
          omega (arith, one, two, both, most, same));
      each = All-permutation (λ (limit : Frame). 1 ≤ limit.limit) frames limits moved (least frames single);
      same = λ imsi. reserved_moved frames limits imsi moved;
    }
  where
    least : (xs : List Frame) → AreSingle xs → All (λ limit. 1 ≤ limit.limit) xs
    least [] single = All-nil (λ (limit : Frame). 1 ≤ limit.limit)
    least (x ∷ xs) (first, other, rest) = All-cons (λ (limit : Frame). 1 ≤ limit.limit) x xs first (least xs rest)

-- the limits so far and one more
pub take_push : (limits front : List Frame) (place : ℕ) (limit : Frame) → front ≡ take place limits → slice_get limits place ≡ Some limit → place < length limits
    → front ++ limit ∷ [] ≡ take (place + 1) limits
take_push limits front place limit is here inside =
    ap (λ (xs : List Frame). xs ++ limit ∷ []) is
    ∙ sym (take_more limits place limit inside ∙ ap (λ (x : Frame). take place limits ++ x ∷ []) (get_or_from_slice_get limits place limit limit here))
