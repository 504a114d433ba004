-- What the entries of a split cover, in any order: each number once, and who covers it as its last.
use Rattle.std.proofs.Common.{◌≡◌, ℕ, ◌+◌, ◌-◌, ◌<◌, ◌≤◌, ◌&&◌, ◌==◌, nat_lt, nat_le, Bool, true, false, cond, if◌then◌else◌, List, [], ◌∷◌, length, get_or, Some, arith, ap, sym, subst, ◌∙◌, refl, inl, inr, All, Contains, filter, sum_by, count_by, IsPermutation, eqb-true, eq-eqb}
use Rattle.std.proofs.lemmas.Bool.{cases_lt, false≢true, false_from_ne_true}
use Rattle.std.proofs.lemmas.Bool.Decides.{nat_tests}
use Rattle.std.proofs.lemmas.List.Elements.{All-head, All-tail, All-contains}
use Rattle.std.proofs.lemmas.List.Sorted.{sum_by-IsPermutation}
use Rattle.std.proofs.lemmas.List.Sums.{sum_by-cons, get_or-le-sum_by, length-filter}
use Rattle.auc_history.specs.declared.entry.Entry.{Entry}
use Rattle.auc_history.specs.declared.entry.Entry.TheVariants.{Drawn, Moved, Look}
use Rattle.auc_history.specs.History.{numbers_after, covers, covered, last_of, IsMove, IsFound, reach_of}
use Rattle.auc_history.specs.Split.{times}
use Rattle.auc_history.specs.Merge.{is_last, is_look_at}
use Rattle.auc_history.proofs.ListLemmas.{times-cons, times-append, times_at, alone}
use Rattle.auc_history.proofs.SplitLemmas.{CoversOnce, between, at_most_once, times-numbers_after}
use Rattle.auc_history.proofs.Walk.{Stands}

-- how often an entry covers a number
abbrev pub covering : ℕ → Entry → ℕ
covering n e = times n (covers e)

-- the entries cover a number as often as each of them together
pub times-covered : (n : ℕ) (entries : List Entry) → times n (covered entries) ≡ sum_by (covering n) entries
times-covered n [] = refl
times-covered n (e ∷ entries) =
    times-append n (covers e) (covered entries) ∙ ap (λ t. covering n e + t) (times-covered n entries) ∙ sym (sum_by-cons (covering n) e entries)

-- in another order they cover the same numbers
pub once-permutation : (opening closing : ℕ) (xs ys : List Entry) → IsPermutation xs ys → CoversOnce opening closing xs → CoversOnce opening closing ys
once-permutation opening closing xs ys same once n =
    times-covered n ys ∙ sum_by-IsPermutation (covering n) xs ys same ∙ sym (times-covered n xs) ∙ once n

-- the number that passes the test of a draw
drawn_is : (n m : ℕ) → 1 ≤ cond (n == m) 1 0 → n ≡ m
drawn_is n m = grind (arith, nat_tests)

-- a draw covers one number
pub covers_drawn : (n m : ℕ) → 1 ≤ times m (n ∷ []) → n ≡ m
covers_drawn n m some = let cut = times-cons m n [] in drawn_is n m (omega (arith, cut))

-- what a move covers is above its first and at most its last
pub covers_moved : (from to m : ℕ) → 1 ≤ times m (numbers_after from (to - from)) → (from < m) × (m ≤ to)
covers_moved from to m some =
    let cut = times-numbers_after m (to - from) from in
    let (above, within) = between m from (from + (to - from)) (omega (arith, cut)) in
    (above, omega arith)

-- a number of a range is in it
pub inside : (n from to : ℕ) → from < n → n ≤ to → ◌≡◌ {A = ℕ} (if nat_lt from n && nat_le n to then 1 else 0) 1
inside n from to above within = grind (arith, nat_tests)

-- a number at or below a range is not in it
pub below : (n from to : ℕ) → n ≤ from → ◌≡◌ {A = ℕ} (if nat_lt from n && nat_le n to then 1 else 0) 0
below n from to low = grind (arith, nat_tests)

-- a move covers each number above its first, up to its last, once
moved_covers : (from to m : ℕ) → from < m → m ≤ to → times m (numbers_after from (to - from)) ≡ 1
moved_covers from to m above within =
    times-numbers_after m (to - from) from ∙ inside m from (from + (to - from)) above (omega arith)

-- an entry covers its last number
covers_last : (top n : ℕ) (e : Entry) → IsMove top e → last_of e ≡ Some n → 1 ≤ covering n e
covers_last top n (Drawn m) move last =
    let same : m ≡ n = cc in
    let there = times_at (m ∷ []) 0 0 (omega arith) in
    let P : ℕ → Type 0 = λ k. 1 ≤ times k (m ∷ []) in subst P same there
covers_last top n (Moved from to) (up, within) last =
    let same : to ≡ n = cc in
    let there = moved_covers from to n (omega arith) (omega arith) in omega (arith, there)
covers_last top n (Look seen) move last = absurd (let no : ⊥ = cc in no)

-- no entry covers a number beyond its reach
covers_reach : (m : ℕ) (e : Entry) → 1 ≤ covering m e → m ≤ reach_of e
covers_reach m (Drawn n) some = let same = covers_drawn n m some in omega arith
covers_reach m (Moved from to) some = let (above, within) = covers_moved from to m some in within
covers_reach m (Look seen) some = absurd (omega arith)

-- so beyond its reach it covers none
pub none_past : (m : ℕ) (e : Entry) → reach_of e < m → covering m e ≡ 0
none_past m e past = elim (cases_lt 0 (covering m e)) [
  | inl some ↦ absurd (let within = covers_reach m e some in omega arith)
  | inr none ↦ omega arith
]

-- the entries of a split, in any order
pub record IsCovering (top opening closing : ℕ) (entries : List Entry) : Type 0 where
  pub forward : opening ≤ closing
  pub once : CoversOnce opening closing entries
  pub moves : All (IsMove top) entries
  pub looks : All (IsFound opening entries) entries

-- they cover each number once at most
covers_few : (top opening closing : ℕ) (entries : List Entry) → IsCovering top opening closing entries → (n : ℕ) → sum_by (covering n) entries ≤ 1
covers_few top opening closing entries split n =
    let whole = times-covered n entries in
    let one = split.once n in
    let most = at_most_once n opening closing in
    omega (arith, whole, one, most)

-- what one of them covers is above the opening and at most the closing
covers_between : (top opening closing : ℕ) (entries : List Entry) → IsCovering top opening closing entries
    → (n : ℕ) (e : Entry) → Contains entries e → 1 ≤ covering n e → (opening < n) × (n ≤ closing)
covers_between top opening closing entries split n e (k, k<n, at) some =
    let least = get_or-le-sum_by (covering n) entries k e k<n in
    let same = ap (covering n) at in
    let whole = times-covered n entries in
    let one = split.once n in
    between n opening closing (omega (arith, least, same, whole, one))

-- so is the last number of one of them
last_between : (top opening closing : ℕ) (entries : List Entry) → IsCovering top opening closing entries
    → (n : ℕ) (e : Entry) → Contains entries e → last_of e ≡ Some n → (opening < n) × (n ≤ closing)
last_between top opening closing entries split n e there last =
    covers_between top opening closing entries split n e there
    (covers_last top n e (All-contains (IsMove top) entries e split.moves there) last)

-- each gets from the opening to the closing at most
pub reach_between : (top opening closing : ℕ) (entries : List Entry) → IsCovering top opening closing entries
    → (e : Entry) → Contains entries e → (opening ≤ reach_of e) × (reach_of e ≤ closing)
reach_between top opening closing entries split (Drawn n) there =
    let (above, within) = last_between top opening closing entries split n (Drawn n) there refl in (omega arith, within)
reach_between top opening closing entries split (Moved from to) there =
    let (above, within) = last_between top opening closing entries split to (Moved from to) there refl in (omega arith, within)
reach_between top opening closing entries split (Look seen) there =
    let forward = split.forward in
    elim (All-contains (IsFound opening entries) entries (Look seen) split.looks there) [
      | inl here ↦ (omega arith, omega arith)
      | inr some ↦ (let (k, e, k<n, at, last) = some in
          let (above, within) = last_between top opening closing entries split seen e (k, k<n, at) last in (omega arith, within))
    ]

-- an entry that covers a number where the history stands ends there
ends_there : (top opening closing word : ℕ) (entries : List Entry) → IsCovering top opening closing entries → Stands opening entries word
    → (e : Entry) → Contains entries e → 1 ≤ covering word e → last_of e ≡ Some word
ends_there top opening closing word entries split stands e there some =
    elim stands [
      | inl here ↦ absurd (let (above, within) = covers_between top opening closing entries split word e there some in omega arith)
      | inr other ↦ (let (k, before, k<n, at, last) = other in
          let move = All-contains (IsMove top) entries before split.moves (k, k<n, at) in
          let one = alone (covering word) entries before e (covers_few top opening closing entries split word) (k, k<n, at) there (covers_last top word before move last) some in
          let P : Entry → Type 0 = λ x. last_of x ≡ Some word in subst P one last)
    ]

-- no move passes over a number where the history stands
pub not_passed_over : (top opening closing word from to : ℕ) (entries : List Entry) → IsCovering top opening closing entries
    → Stands opening entries word → Contains entries (Moved from to) → word < to → word ≤ from
not_passed_over top opening closing word from to entries split stands there low = elim (cases_lt from word) [
  | inl over ↦ absurd (let covered_once = moved_covers from to word over (omega arith) in
      let last = ends_there top opening closing word entries split stands (Moved from to) there (omega (arith, covered_once)) in
      let same : to ≡ word = cc in omega arith)
  | inr above ↦ above
]

-- the test of the last number means what it says
pub last_is : (n : ℕ) (e : Entry) → is_last n e ≡ true → last_of e ≡ Some n
last_is n (Drawn m) passes = ap Some (eqb-true m n passes)
last_is n (Moved from to) passes = ap Some (eqb-true to n passes)
last_is n (Look seen) passes = absurd (false≢true passes)

-- and the other way round
pub is_last-from : (n : ℕ) (e : Entry) → last_of e ≡ Some n → is_last n e ≡ true
is_last-from n (Drawn m) last = let same : m ≡ n = cc in eq-eqb m n same
is_last-from n (Moved from to) last = let same : to ≡ n = cc in eq-eqb to n same
is_last-from n (Look seen) last = absurd (let no : ⊥ = cc in no)

-- an entry covers its last number once at least
last_counts : (top n : ℕ) (e : Entry) (b : Bool) → IsMove top e → is_last n e ≡ b → cond b 1 0 ≤ covering n e
last_counts top n e true move passes = covers_last top n e move (last_is n e passes)
last_counts top n e false move fails = omega arith

-- as many entries end at a number as cover it at most
count_last : (top n : ℕ) (entries : List Entry) → All (IsMove top) entries → count_by (is_last n) entries ≤ sum_by (covering n) entries
count_last top n [] moves = omega arith
count_last top n (e ∷ entries) moves =
    let rest = count_last top n entries (All-tail (IsMove top) e entries moves) in
    let first = last_counts top n e (is_last n e) (All-head (IsMove top) e entries moves) refl in
    let these = sum_by-cons (λ x. cond (is_last n x) 1 0) e entries in
    let those = sum_by-cons (covering n) e entries in
    omega (arith, rest, first, these, those)

-- so one entry at most
pub one_last : (top opening closing n : ℕ) (entries : List Entry) → IsCovering top opening closing entries → length (filter (is_last n) entries) ≤ 1
one_last top opening closing n entries split =
    let long = length-filter (is_last n) entries in
    let counted = count_last top n entries split.moves in
    let few = covers_few top opening closing entries split n in
    omega (arith, long, counted, few)

-- an entry that covers a number as its last stands where the filter finds it
some_last : (n : ℕ) (entries : List Entry) (e : Entry) → Contains entries e → last_of e ≡ Some n → 1 ≤ length (filter (is_last n) entries)
some_last n entries e (k, k<n, at) last =
    let long = length-filter (is_last n) entries in
    let least = get_or-le-sum_by (λ x. cond (is_last n x) 1 0) entries k e k<n in
    let same : is_last n (get_or entries k e) ≡ true = ap (is_last n) at ∙ is_last-from n e last in
    let one : ◌≡◌ {A = ℕ} (cond (is_last n (get_or entries k e)) 1 0) 1 = rw same refl in
    omega (arith, long, least, one)

-- no entry is a look at a number above the opening where none ends
pub no_look : (top opening closing n : ℕ) (entries : List Entry) → IsCovering top opening closing entries → opening < n
    → filter (is_last n) entries ≡ [] → (e : Entry) → Contains entries e → is_look_at n e ≡ false
no_look top opening closing n entries split up none (Drawn m) there = refl
no_look top opening closing n entries split up none (Moved from to) there = refl
no_look top opening closing n entries split up none (Look seen) there = false_from_ne_true (seen == n) (λ passes.
    let same = eqb-true seen n passes in
    let empty = ap length none in
    elim (All-contains (IsFound opening entries) entries (Look seen) split.looks there) [
      | inl here ↦ omega arith
      | inr some ↦ (let (k, e, k<n, at, last) = some in
          let long = some_last n entries e (k, k<n, at) (last ∙ ap Some same) in omega (arith, empty, long))
    ])

-- no entry ends at the opening
pub none_at_opening : (top opening closing : ℕ) (entries : List Entry) → IsCovering top opening closing entries
    → (e : Entry) → Contains entries e → is_last opening e ≡ false
none_at_opening top opening closing entries split e there = false_from_ne_true (is_last opening e) (λ passes.
    let (above, within) = last_between top opening closing entries split opening e there (last_is opening e passes) in omega arith)
