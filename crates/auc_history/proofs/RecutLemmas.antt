-- For Recut: a split stays one without some of its looks, and in another cut.
use Rattle.std.proofs.Common.{◌≡◌, ℕ, true, List, [], ◌∷◌, ◌++◌, Some, All, Any, IsPermutation, arith, refl, sym, ap, ◌∙◌, subst, inl, inr, ⊎_elim}
use Rattle.std.proofs.lemmas.List.Elements.{All-nil, All-cons, All-head, All-tail}
use Rattle.std.proofs.lemmas.List.Folds.{Any-from_list_any, list_any-from_Any}
use Rattle.std.proofs.lemmas.List.Sorted.{All-permutation, list_any-IsPermutation}
use Rattle.auc_history.specs.declared.entry.Entry.{Entry}
use Rattle.auc_history.specs.declared.entry.Entry.TheVariants.{Drawn, Moved, Look}
use Rattle.auc_history.specs.History.{covers, covered, last_of, IsMove, IsFound, IsBefore, IsInOrder}
use Rattle.auc_history.specs.Split.{all_entries, times}
use Rattle.auc_history.specs.Merge.{is_last}
use Rattle.auc_history.specs.Recut.{IsLook, LeavesOutLooks, EachLeavesOutLooks, SplitWithoutLooksIsASplit, RecutSplitIsASplit}
use Rattle.auc_history.proofs.CoverLemmas.{last_is, is_last-from, once-permutation}
use Rattle.auc_history.proofs.ListLemmas.{AllPairs-cons, AllPairs-head, AllPairs-tail, Any-cons, Any-head, Any-cases}

-- ---- one list

-- a list leaves out none of its own looks
pub leaves_out_none : (entries : List Entry) → LeavesOutLooks entries entries
leaves_out_none [] = refl
leaves_out_none (e ∷ entries) = inl (entries, refl, leaves_out_none entries)

-- looks are left out of two lists, one after the other
pub leaves_out-append : (xs ys more others : List Entry) → LeavesOutLooks xs ys → LeavesOutLooks more others → LeavesOutLooks (xs ++ more) (ys ++ others)
leaves_out-append [] ys more others none rest = subst (λ (zs : List Entry). LeavesOutLooks more (zs ++ others)) (sym none) rest
leaves_out-append (x ∷ xs) ys more others (inl (zs, is, out)) rest =
    inl (zs ++ others, ap (λ (es : List Entry). es ++ others) is, leaves_out-append xs zs more others out rest)
leaves_out-append (x ∷ xs) ys more others (inr (look, out)) rest = inr (look, leaves_out-append xs ys more others out rest)

-- what holds of all entries holds of those that stay
all_stay : (P : Entry → Type 0) (xs ys : List Entry) → LeavesOutLooks xs ys → All P xs → All P ys
all_stay P [] ys none all = subst (All P) (sym none) (All-nil P)
all_stay P (x ∷ xs) ys (inl (zs, is, out)) all =
    subst (All P) (sym is) (All-cons P x zs (All-head P x xs all) (all_stay P xs zs out (All-tail P x xs all)))
all_stay P (x ∷ xs) ys (inr (look, out)) all = all_stay P xs ys out (All-tail P x xs all)

-- those that stay are in order
order_stays : (xs ys : List Entry) → LeavesOutLooks xs ys → IsInOrder xs → IsInOrder ys
order_stays [] ys none order = subst IsInOrder (sym none) order
order_stays (x ∷ xs) ys (inl (zs, is, out)) order =
    subst IsInOrder (sym is) (AllPairs-cons IsBefore x zs (all_stay (IsBefore x) xs zs out (AllPairs-head IsBefore x xs order)) (order_stays xs zs out (AllPairs-tail IsBefore x xs order)))
order_stays (x ∷ xs) ys (inr (look, out)) order = order_stays xs ys out (AllPairs-tail IsBefore x xs order)

-- a look covers no number
look_covers : (e : Entry) → IsLook e → covers e ≡ []
look_covers (Drawn n) look = absurd look
look_covers (Moved from to) look = absurd look
look_covers (Look seen) look = refl

-- those that stay cover the same numbers
covered_stays : (xs ys : List Entry) → LeavesOutLooks xs ys → covered ys ≡ covered xs
covered_stays [] ys none = ap covered none
covered_stays (x ∷ xs) ys (inl (zs, is, out)) = ap covered is ∙ ap (λ (ns : List ℕ). covers x ++ ns) (covered_stays xs zs out)
covered_stays (x ∷ xs) ys (inr (look, out)) = covered_stays xs ys out ∙ ap (λ (ns : List ℕ). ns ++ covered xs) (sym (look_covers x look))

-- a look has no last number
look_ends : (e : Entry) (n : ℕ) → IsLook e → last_of e ≡ Some n → ⊥
look_ends (Drawn m) n look is = look
look_ends (Moved from to) n look is = look
look_ends (Look seen) n look is = let no : ⊥ = cc in no

-- an entry with a last number stays
end_stays : (n : ℕ) (xs ys : List Entry) → LeavesOutLooks xs ys → Any (λ e. last_of e ≡ Some n) xs → Any (λ e. last_of e ≡ Some n) ys
end_stays n [] ys none (k, y, within, at, is) = absurd (omega (arith, within))
end_stays n (x ∷ xs) ys (inl (zs, is, out)) any = subst (Any (λ e. last_of e ≡ Some n)) (sym is) (⊎_elim
    (λ (here : last_of x ≡ Some n). Any-head (λ e. last_of e ≡ Some n) x zs here)
    (λ (there : Any (λ e. last_of e ≡ Some n) xs). Any-cons (λ e. last_of e ≡ Some n) x zs (end_stays n xs zs out there))
    (Any-cases (λ e. last_of e ≡ Some n) x xs any))
end_stays n (x ∷ xs) ys (inr (look, out)) any = ⊎_elim
    (λ (here : last_of x ≡ Some n). absurd (look_ends x n look here))
    (λ (there : Any (λ e. last_of e ≡ Some n) xs). end_stays n xs ys out there)
    (Any-cases (λ e. last_of e ≡ Some n) x xs any)

-- a look's number stands in one list if it stands in the other: each number that is some entry's last in the first
-- list is one in the second
found_still : (opening : ℕ) (xs ys : List Entry) (e : Entry) → ((n : ℕ) → Any (λ e. last_of e ≡ Some n) xs → Any (λ e. last_of e ≡ Some n) ys)
    → IsFound opening xs e → IsFound opening ys e
found_still opening xs ys (Drawn n) ends found = tt
found_still opening xs ys (Moved from to) ends found = tt
found_still opening xs ys (Look seen) ends (inl is) = inl is
found_still opening xs ys (Look seen) ends (inr any) = inr (ends seen any)

-- ---- lists of lists

-- the entries of all lists, without some of the looks
all_leave_out : (lists others : List (List Entry)) → EachLeavesOutLooks lists others → LeavesOutLooks (all_entries lists) (all_entries others)
all_leave_out [] others none = ap all_entries none
all_leave_out (xs ∷ lists) others (ys, rest, is, out, more) =
    subst (λ (ls : List (List Entry)). LeavesOutLooks (all_entries (xs ∷ lists)) (all_entries ls)) (sym is) (leaves_out-append xs ys (all_entries lists) (all_entries rest) out (all_leave_out lists rest more))

-- each list is still in order
orders_stay : (lists others : List (List Entry)) → EachLeavesOutLooks lists others → All IsInOrder lists → All IsInOrder others
orders_stay [] others none all = subst (All IsInOrder) (sym none) (All-nil IsInOrder)
orders_stay (xs ∷ lists) others (ys, rest, is, out, more) all =
    subst (All IsInOrder) (sym is) (All-cons IsInOrder ys rest (order_stays xs ys out (All-head IsInOrder xs lists all)) (orders_stay lists rest more (All-tail IsInOrder xs lists all)))

-- a split without some of its looks is a split
pub split_without_looks_is_a_split : SplitWithoutLooksIsASplit
split_without_looks_is_a_split top opening closing lists others splits each =
    let out = all_leave_out lists others each in record {
      forward = splits.forward;
      once = λ n. ap (times n) (covered_stays (all_entries lists) (all_entries others) out) ∙ splits.once n;
      ordered = orders_stay lists others each splits.ordered;
      moves = all_stay (IsMove top) (all_entries lists) (all_entries others) out splits.moves;
      looks = λ k d within. found_still opening (all_entries lists) (all_entries others) _ (λ n any. end_stays n (all_entries lists) (all_entries others) out any)
          (all_stay (IsFound opening (all_entries lists)) (all_entries lists) (all_entries others) out splits.looks k d within);
    }

-- ---- another cut

-- what holds of some element, of a weaker fact
any_weaker : {X : Type 0} (P Q : X → Type 0) (xs : List X) → ((x : X) → P x → Q x) → Any P xs → Any Q xs
any_weaker P Q xs f (k, y, within, at, p) = (k, y, within, at, f y p)

-- an entry with a last number stands in any order
end_permuted : (n : ℕ) (xs ys : List Entry) → IsPermutation xs ys → Any (λ e. last_of e ≡ Some n) xs → Any (λ e. last_of e ≡ Some n) ys
end_permuted n xs ys same any =
    any_weaker (λ e. is_last n e ≡ true) (λ e. last_of e ≡ Some n) ys (λ e is. last_is n e is)
    (Any-from_list_any (is_last n) ys (sym (list_any-IsPermutation (is_last n) xs ys same)
    ∙ list_any-from_Any (is_last n) xs (any_weaker (λ e. last_of e ≡ Some n) (λ e. is_last n e ≡ true) xs (λ e is. is_last-from n e is) any)))

-- the entries of a split in other lists, each in order, are a split
pub recut_split_is_a_split : RecutSplitIsASplit
recut_split_is_a_split top opening closing lists others splits same order = record {
  forward = splits.forward;
  once = once-permutation opening closing (all_entries lists) (all_entries others) same splits.once;
  ordered = order;
  moves = All-permutation (IsMove top) (all_entries lists) (all_entries others) same splits.moves;
  looks = λ k d within. found_still opening (all_entries lists) (all_entries others) _ (λ n any. end_permuted n (all_entries lists) (all_entries others) same any)
      (All-permutation (IsFound opening (all_entries lists)) (all_entries lists) (all_entries others) same splits.looks k d within);
}
