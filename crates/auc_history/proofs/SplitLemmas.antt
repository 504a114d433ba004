-- Laws of splits: a cut history is one, no number is drawn twice, and the numbers are counted.
use Rattle.std.proofs.Common.{◌≡◌, ℕ, zero, suc, ◌+◌, ◌-◌, ◌<◌, ◌≤◌, ◌&&◌, ◌==◌, nat_lt, nat_le, Bool, true, false, cond, if◌then◌else◌, not, List, [], ◌∷◌, ◌++◌, length, get_or, arith, ap, sym, ◌∙◌, refl, All, filter}
use Rattle.std.proofs.lemmas.Bool.Decides.{nat_tests}
use Rattle.std.proofs.lemmas.List.{length-append}
use Rattle.std.proofs.lemmas.List.Elements.{All-nil, All-cons}
use Rattle.std.proofs.lemmas.Bool.{eqb-true}
use Rattle.std.proofs.lemmas.List.Sorted.{IsPermutation-filter_both, length_permutation}
use Rattle.std.proofs.lemmas.List.Sums.{sum_by-cons, length-filter}
use Rattle.auc_history.specs.declared.entry.Entry.{Entry}
use Rattle.auc_history.specs.declared.entry.Entry.TheVariants.{Drawn, Moved, Look}
use Rattle.auc_history.specs.History.{IsLegal, numbers_after, covered, IsBefore, IsInOrder, drawn, skipped, skipped_by}
use Rattle.auc_history.specs.Split.{DrawsEachOnce, all_entries, times, CutHistoryIsASplit, SplitDrawsNoNumberTwice, SplitCountsItsNumbers}
use Rattle.auc_history.proofs.ListLemmas.{AllPairs-left, AllPairs-right, times-cons, times-append, times_at, differ_from_times}
use Rattle.auc_history.proofs.Walk.{length-numbers_after}

-- one number more
one_more : (n from count : ℕ) → cond (from + 1 == n) 1 0 + (if nat_lt (from + 1) n && nat_le n (from + 1 + count) then 1 else 0)
    ≡ (if nat_lt from n && nat_le n (from + suc count) then 1 else 0)
one_more n from count = grind (arith, nat_tests)

-- none
none_between : (n from : ℕ) → ◌≡◌ {A = ℕ} 0 (if nat_lt from n && nat_le n (from + 0) then 1 else 0)
none_between n from = grind (arith, nat_tests)

-- a number stands once among rising numbers, if it is one of them
pub times-numbers_after : (n count from : ℕ) → times n (numbers_after from count) ≡ (if nat_lt from n && nat_le n (from + count) then 1 else 0)
times-numbers_after n zero from = none_between n from
times-numbers_after n (suc count) from =
    times-cons n (from + 1) (numbers_after (from + 1) count) ∙ ap (λ t. cond (from + 1 == n) 1 0 + t) (times-numbers_after n count (from + 1)) ∙ one_more n from count

-- each list of a cut one is in order
cut_in_order : (lists : List (List Entry)) → IsInOrder (all_entries lists) → All IsInOrder lists
cut_in_order [] ordered = All-nil IsInOrder
cut_in_order (entries ∷ lists) ordered =
    All-cons IsInOrder entries lists (AllPairs-left IsBefore entries (all_entries lists) ordered)
    (cut_in_order lists (AllPairs-right IsBefore entries (all_entries lists) ordered))

-- a drawn number is covered
pub times-drawn : (n : ℕ) (entries : List Entry) → times n (drawn entries) ≤ times n (covered entries)
times-drawn n [] = omega arith
times-drawn n (Drawn m ∷ entries) =
    let rest = times-drawn n entries in
    let these = times-cons n m (drawn entries) in
    let those = times-cons n m (covered entries) in
    omega (arith, rest, these, those)
times-drawn n (Moved from to ∷ entries) =
    let rest = times-drawn n entries in
    let those = times-append n (numbers_after from (to - from)) (covered entries) in
    omega (arith, rest, those)
times-drawn n (Look seen ∷ entries) = times-drawn n entries

-- what is counted at all is between the two
pub between : (n opening closing : ℕ) → 1 ≤ (if nat_lt opening n && nat_le n closing then 1 else 0) → (opening < n) × (n ≤ closing)
between n opening closing = grind (arith, nat_tests)

-- nothing is counted twice
pub at_most_once : (n opening closing : ℕ) → (if nat_lt opening n && nat_le n closing then 1 else 0) ≤ 1
at_most_once n opening closing = grind (arith, nat_tests)

-- entries cover each number of a range once, and no other
abbrev pub CoversOnce : ℕ → ℕ → List Entry → Type 0
CoversOnce opening closing entries = (n : ℕ) → times n (covered entries) ≡ (if nat_lt opening n && nat_le n closing then 1 else 0)

-- what a legal history covers
pub legal_covers_once : (top opening closing : ℕ) (entries : List Entry) → IsLegal top opening closing entries → CoversOnce opening closing entries
legal_covers_once top opening closing entries legal n =
    let forward = legal.forward in
    let end : opening + (closing - opening) ≡ closing = omega arith in
    rw legal.rising (rw end at (times-numbers_after n (closing - opening) opening))

-- a legal history that is cut into lists is split by them
pub cut_history_is_a_split : CutHistoryIsASplit
cut_history_is_a_split top opening closing lists legal = record {
  forward = legal.forward;
  once = legal_covers_once top opening closing (all_entries lists) legal;
  ordered = cut_in_order lists legal.ordered;
  moves = legal.moves;
  looks = legal.looks;
}

-- a drawn number is between the opening and the closing
drawn_between : (opening closing : ℕ) (entries : List Entry) → CoversOnce opening closing entries
    → (k d : ℕ) → k < length (drawn entries) → (opening < get_or (drawn entries) k d) × (get_or (drawn entries) k d ≤ closing)
drawn_between opening closing entries once k d k<n =
    let n = get_or (drawn entries) k d in
    let there = times_at (drawn entries) k d k<n in
    let covered_too = times-drawn n entries in
    let one = once n in
    between n opening closing (omega (arith, there, covered_too, one))

-- no number is drawn twice in a legal history, in counts
pub legal_draws_once : (top opening closing : ℕ) (entries : List Entry) → IsLegal top opening closing entries
    → (n : ℕ) → times n (drawn entries) ≤ 1
legal_draws_once top opening closing entries legal n =
    let covered_too = times-drawn n entries in
    let one = legal_covers_once top opening closing entries legal n in
    let most = at_most_once n opening closing in
    omega (arith, covered_too, one, most)

-- no number is drawn twice by entries that cover none twice
pub draws_each_once : (opening closing : ℕ) (entries : List Entry) → CoversOnce opening closing entries → DrawsEachOnce opening closing (drawn entries)
draws_each_once opening closing entries once = record {
  differ = differ_from_times (drawn entries)
      (λ n. let covered_too = times-drawn n entries in let one = once n in
      let most = at_most_once n opening closing in omega (arith, covered_too, one, most));
  above = λ k d k<n. (drawn_between opening closing entries once k d k<n).0;
  within = λ k d k<n. (drawn_between opening closing entries once k d k<n).1;
}

-- no number is drawn twice in a split, and each drawn one is above the opening and at most the closing
pub split_draws_no_number_twice : SplitDrawsNoNumberTwice
split_draws_no_number_twice top opening closing lists splits = draws_each_once opening closing (all_entries lists) splits.once

-- nor in a legal history
pub legal_draws_no_number_twice : (top opening closing : ℕ) (entries : List Entry) → IsLegal top opening closing entries
    → DrawsEachOnce opening closing (drawn entries)
legal_draws_no_number_twice top opening closing entries legal =
    draws_each_once opening closing entries (legal_covers_once top opening closing entries legal)

-- a head that is the one goes
head_gone : (n last m t u : ℕ) → m ≡ last → u ≡ (if n == last then 0 else t) → u ≡ (if n == last then 0 else (cond (m == n) 1 0 + t))
head_gone n last m t u = grind (arith, nat_tests)

-- another stays
head_stays : (n last m t u : ℕ) → (m == last) ≡ false → u ≡ (if n == last then 0 else t)
    → cond (m == n) 1 0 + u ≡ (if n == last then 0 else (cond (m == n) 1 0 + t))
head_stays n last m t u = grind (arith, nat_tests)

-- no number is left of none
nothing_without : (b : Bool) → ◌≡◌ {A = ℕ} 0 (if b then 0 else 0)
nothing_without true = refl
nothing_without false = refl

-- the last of a range is in it
last_of_range : (from count : ℕ) → ◌≡◌ {A = ℕ} (if nat_lt from (from + suc count) && nat_le (from + suc count) (from + suc count) then 1 else 0) 1
last_of_range from count = grind (arith, nat_tests)

-- a range without its last is the range that is one shorter
all_but_last : (n from count : ℕ) → ◌≡◌ {A = ℕ} (if n == from + suc count then 0 else (if nat_lt from n && nat_le n (from + suc count) then 1 else 0))
    (if nat_lt from n && nat_le n (from + count) then 1 else 0)
all_but_last n from count = grind (arith, nat_tests)

-- a list without one of its numbers
abbrev without : ℕ → List ℕ → List ℕ
without last numbers = filter (λ m. not (m == last)) numbers

-- each number of a list is the one, or stays without it
length-without : (last : ℕ) (numbers : List ℕ) → length numbers ≡ times last numbers + length (without last numbers)
length-without last numbers =
    let both = IsPermutation-filter_both (λ m. m == last) (λ m. not (m == last)) (λ m. refl) numbers in
    let whole = length_permutation numbers (filter (λ m. m == last) numbers ++ without last numbers) both in
    let parts = length-append (filter (λ m. m == last) numbers) (without last numbers) in
    let counted = length-filter (λ m. m == last) numbers in
    omega (arith, whole, parts, counted)

-- how often a head stands without the one
head_without : (b : Bool) (n last m : ℕ) (numbers : List ℕ) → (m == last) ≡ b
    → times n (without last numbers) ≡ (if n == last then 0 else times n numbers)
    → times n (cond (not b) (m ∷ without last numbers) (without last numbers)) ≡ (if n == last then 0 else (cond (m == n) 1 0 + times n numbers))
head_without true n last m numbers is rest = let same = eqb-true m last is in head_gone n last m (times n numbers) (times n (without last numbers)) same rest
head_without false n last m numbers is rest =
    times-cons n m (without last numbers) ∙ head_stays n last m (times n numbers) (times n (without last numbers)) is rest

-- and all of it
times-without : (n last : ℕ) (numbers : List ℕ) → times n (without last numbers) ≡ (if n == last then 0 else times n numbers)
times-without n last [] = nothing_without (n == last)
times-without n last (m ∷ numbers) =
    head_without (m == last) n last m numbers refl (times-without n last numbers)
    ∙ ap (λ (t : ℕ). if n == last then 0 else t) (sym (times-cons n m numbers))

-- so many numbers stand in a list that has each number of a range once, and no other
length_of_range : (count from : ℕ) (numbers : List ℕ)
    → ((n : ℕ) → times n numbers ≡ (if nat_lt from n && nat_le n (from + count) then 1 else 0)) → length numbers ≡ count
length_of_range zero from [] once = refl
length_of_range zero from (m ∷ numbers) once =
    let there = times_at (m ∷ numbers) 0 0 (omega arith) in
    let none = once m in let empty = none_between m from in absurd (omega (arith, there, none, empty))
length_of_range (suc count) from numbers once =
    let last = from + suc count in
    let whole = length-without last numbers in
    let there = once last ∙ last_of_range from count in
    let rest = length_of_range count from (without last numbers)
    (λ n. times-without n last numbers ∙ ap (λ (t : ℕ). if n == last then 0 else t) (once n) ∙ all_but_last n from count) in
    omega (arith, whole, there, rest)

-- entries cover the numbers that they draw and those that they skip
pub length-covered : (entries : List Entry) → length (covered entries) ≡ length (drawn entries) + skipped entries
length-covered [] = refl
length-covered (Drawn n ∷ entries) =
    let rest = length-covered entries in
    let none = sum_by-cons skipped_by (Drawn n) entries in omega (arith, rest, none)
length-covered (Moved from to ∷ entries) =
    let rest = length-covered entries in
    let these = length-append (numbers_after from (to - from)) (covered entries) in
    let many = length-numbers_after (to - from) from in
    let over = sum_by-cons skipped_by (Moved from to) entries in omega (arith, rest, these, many, over)
length-covered (Look seen ∷ entries) =
    let rest = length-covered entries in
    let none = sum_by-cons skipped_by (Look seen) entries in omega (arith, rest, none)

-- the closing is the opening, the drawn numbers and the skipped ones together
closing_is : (opening closing : ℕ) (entries : List Entry) → opening ≤ closing → CoversOnce opening closing entries
    → closing ≡ opening + length (drawn entries) + skipped entries
closing_is opening closing entries forward once =
    let end : opening + (closing - opening) ≡ closing = omega arith in
    let whole = length_of_range (closing - opening) opening (covered entries) (λ n. rw end (once n)) in
    let parts = length-covered entries in
    omega (arith, whole, parts)

-- in a split
pub split_counts_its_numbers : SplitCountsItsNumbers
split_counts_its_numbers top opening closing lists splits = closing_is opening closing (all_entries lists) splits.forward splits.once

-- and in a legal history
pub legal_counts_its_numbers : (top opening closing : ℕ) (entries : List Entry) → IsLegal top opening closing entries
    → closing ≡ opening + length (drawn entries) + skipped entries
legal_counts_its_numbers top opening closing entries legal =
    closing_is opening closing entries legal.forward (legal_covers_once top opening closing entries legal)
