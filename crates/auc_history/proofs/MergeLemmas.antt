-- The merge of a split has each entry as often as the lists, and is a legal history.
use Rattle.std.proofs.Common.{◌≡◌, ℕ, zero, suc, ◌+◌, ◌-◌, ◌≤◌, ◌==◌, nat_le, Bool, false, cond, List, [], ◌∷◌, ◌++◌, get_or, arith, sym, subst, All, filter, flat_map, IsPermutation, le-leb}
use Rattle.std.proofs.lemmas.Bool.Decides.{nat_tests}
use Rattle.std.proofs.lemmas.List.Elements.{Contains-get_or}
use Rattle.std.proofs.lemmas.List.Sorted.{IsPermutation-refl, IsPermutation-trans, IsPermutation-append_left, IsPermutation-append_right}
use Rattle.auc_history.specs.declared.entry.Entry.{Entry}
use Rattle.auc_history.specs.declared.entry.Entry.TheVariants.{Drawn, Moved, Look}
use Rattle.auc_history.specs.History.{numbers_after, reach_of}
use Rattle.auc_history.specs.Split.{all_entries}
use Rattle.auc_history.specs.Merge.{is_last, is_look_at, entries_at, merged, SplitIsMerged}
use Rattle.auc_history.proofs.ListLemmas.{filter_none, filter_all, filter_apart}
use Rattle.auc_history.proofs.Walk.{IsLegal-from_goes}
use Rattle.auc_history.proofs.CoverLemmas.{once-permutation, IsCovering, reach_between}
use Rattle.auc_history.proofs.ClimbLemmas.{goes-from_climbs, climbs-merged}

-- whether an entry gets as far as a number
abbrev gets_to : ℕ → Entry → Bool
gets_to n e = nat_le n (reach_of e)

-- whether it gets to a number and no further
abbrev ends_at : ℕ → Entry → Bool
ends_at n e = reach_of e == n

-- it gets no further or one further
no_further_or_on : (n reach : ℕ) → ◌≡◌ {A = ℕ} (cond (nat_le n reach) 1 0) (cond (reach == n) 1 0 + cond (nat_le (n + 1) reach) 1 0)
no_further_or_on n reach = grind (arith, nat_tests)

-- where it ends, it covers its last number or looks
last_or_look : (n : ℕ) (e : Entry) → ◌≡◌ {A = ℕ} (cond (ends_at n e) 1 0) (cond (is_last n e) 1 0 + cond (is_look_at n e) 1 0)
last_or_look n (Drawn m) = omega arith
last_or_look n (Moved from to) = omega arith
last_or_look n (Look seen) = omega arith

-- the entries that get as far as a number are those at it and those that get further
same_at : (n : ℕ) (entries : List Entry) → IsPermutation (filter (gets_to n) entries) (entries_at entries n ++ filter (gets_to (n + 1)) entries)
same_at n entries =
    IsPermutation-trans (filter (gets_to n) entries) (filter (ends_at n) entries ++ filter (gets_to (n + 1)) entries) (entries_at entries n ++ filter (gets_to (n + 1)) entries)
    (filter_apart (gets_to n) (ends_at n) (gets_to (n + 1)) (λ e. no_further_or_on n (reach_of e)) entries)
    (IsPermutation-append_left (filter (gets_to (n + 1)) entries) (filter (ends_at n) entries) (entries_at entries n)
    (filter_apart (ends_at n) (is_last n) (is_look_at n) (last_or_look n) entries))

-- a number that is not reached
not_reached : (n reach : ℕ) → reach ≤ n → nat_le (n + 1) reach ≡ false
not_reached n reach low = grind (arith, nat_tests)

-- the entries that get further than a number are those at the numbers after it
same_after : (count n : ℕ) (entries : List Entry) → All (λ e. reach_of e ≤ n + count) entries
    → IsPermutation (filter (gets_to (n + 1)) entries) (flat_map (entries_at entries) (numbers_after n count))
same_after zero n entries low =
    let none = filter_none (gets_to (n + 1)) entries (λ k d k<n. let ends = low k d k<n in not_reached n (reach_of (get_or entries k d)) (omega arith)) in
    let P : List Entry → Type 0 = λ es. IsPermutation es [] in subst P (sym none) (IsPermutation-refl [])
same_after (suc count) n entries low =
    let here = entries_at entries (n + 1) in
    let further = filter (gets_to (n + 1 + 1)) entries in
    let after = flat_map (entries_at entries) (numbers_after (n + 1) count) in
    IsPermutation-trans (filter (gets_to (n + 1)) entries) (here ++ further) (here ++ after) (same_at (n + 1) entries)
    (IsPermutation-append_right here further after (same_after count (n + 1) entries (λ k d k<n. let ends = low k d k<n in omega arith)))

-- entries that get from the opening to the closing at most are those at the numbers from the one to the other
same_entries : (opening count : ℕ) (entries : List Entry) → All (λ e. opening ≤ reach_of e) entries → All (λ e. reach_of e ≤ opening + count) entries
    → IsPermutation entries (flat_map (entries_at entries) (opening ∷ numbers_after opening count))
same_entries opening count entries high low =
    let all = filter_all (gets_to opening) entries (λ k d k<n. le-leb opening (reach_of (get_or entries k d)) (high k d k<n)) in
    let here = entries_at entries opening in
    let further = filter (gets_to (opening + 1)) entries in
    let after = flat_map (entries_at entries) (numbers_after opening count) in
    let P : List Entry → Type 0 = λ es. IsPermutation es (here ++ after) in
    subst P all (IsPermutation-trans (filter (gets_to opening) entries) (here ++ further) (here ++ after) (same_at opening entries)
    (IsPermutation-append_right here further after (same_after count opening entries low)))

-- the same entries, number by number
merged_same : (top opening closing : ℕ) (entries : List Entry) → IsCovering top opening closing entries
    → IsPermutation entries (flat_map (entries_at entries) (opening ∷ numbers_after opening (closing - opening)))
merged_same top opening closing entries split =
    let forward = split.forward in
    same_entries opening (closing - opening) entries
    (λ k d k<n. (reach_between top opening closing entries split (get_or entries k d) (Contains-get_or entries k d k<n)).0)
    (λ k d k<n. let (above, within) = reach_between top opening closing entries split (get_or entries k d) (Contains-get_or entries k d k<n) in omega arith)

-- the merge of a split is a legal history of its entries
pub split_is_merged : SplitIsMerged
split_is_merged top opening closing lists splits =
    let entries = all_entries lists in
    let split : IsCovering top opening closing entries = record {
      forward = splits.forward;
      once = splits.once;
      moves = splits.moves;
      looks = splits.looks;
    } in
    let same = merged_same top opening closing entries split in record {
      legal = IsLegal-from_goes top opening closing (merged opening closing lists)
          (goes-from_climbs top opening closing (merged opening closing lists)
          (once-permutation opening closing entries (merged opening closing lists) same splits.once)
          (climbs-merged top opening closing entries split));
      same = same;
    }
