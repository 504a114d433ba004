-- A legal history merges to itself: what the merge finds at each number of a walk.
use Rattle.std.proofs.Common.{◌≡◌, ℕ, zero, suc, ◌+◌, ◌-◌, ◌<◌, ◌≤◌, Bool, true, false, List, [], ◌∷◌, ◌++◌, get_or, Some, arith, ap, sym, ◌∙◌, refl, filter, flat_map, eq-eqb, ne_eqb}
use Rattle.std.proofs.lemmas.Bool.{cond-true, cond-false}
use Rattle.std.proofs.lemmas.List.Concat.{flat_map-append}
use Rattle.auc_history.specs.declared.entry.Entry.{Entry}
use Rattle.auc_history.specs.declared.entry.Entry.TheVariants.{Drawn, Moved, Look}
use Rattle.auc_history.specs.History.{numbers_after, last_of, IsMove, IsBefore}
use Rattle.auc_history.specs.Split.{all_entries}
use Rattle.auc_history.specs.Merge.{is_last, is_look_at, entries_at, CutHistoryMergesToItself}
use Rattle.auc_history.proofs.ListLemmas.{filter_none}
use Rattle.auc_history.proofs.CoverLemmas.{is_last-from}
use Rattle.auc_history.proofs.Walk.{Goes, goes-forward, goes-after, goes-moves, goes-from_legal, numbers_after-append}

-- a filter goes past a head
filter_skips : {X : Type 0} (p : X → Bool) (x : X) (xs : List X) → p x ≡ false → filter p (x ∷ xs) ≡ filter p xs
filter_skips p x xs fails = cond-false (p x) (x ∷ filter p xs) (filter p xs) fails

-- or takes it
filter_takes : {X : Type 0} (p : X → Bool) (x : X) (xs : List X) → p x ≡ true → filter p (x ∷ xs) ≡ x ∷ filter p xs
filter_takes p x xs passes = cond-true (p x) (x ∷ filter p xs) (filter p xs) passes

-- what goes on from a number ends at no number up to it
no_end_up_to : (top word n : ℕ) (e : Entry) → n ≤ word → IsBefore (Look word) e → IsMove top e → is_last n e ≡ false
no_end_up_to top word n (Drawn m) low after move = ne_eqb m n (λ same. omega arith)
no_end_up_to top word n (Moved from to) low after (up, within) = ne_eqb to n (λ same. omega arith)
no_end_up_to top word n (Look seen) low after move = refl

-- and looks at none below it
no_look_below : (word n : ℕ) (e : Entry) → n < word → IsBefore (Look word) e → is_look_at n e ≡ false
no_look_below word n (Drawn m) low after = refl
no_look_below word n (Moved from to) low after = refl
no_look_below word n (Look seen) low after = ne_eqb seen n (λ same. omega arith)

-- a walk ends nowhere up to where it begins
none_ends : (top word closing n : ℕ) (entries : List Entry) → Goes top word entries closing → n ≤ word → filter (is_last n) entries ≡ []
none_ends top word closing n entries goes low =
    let after = goes-after (Look word) top word closing entries (omega arith) goes in
    let moves = goes-moves top word closing entries goes in
    filter_none (is_last n) entries (λ k d k<n. no_end_up_to top word n (get_or entries k d) low (after k d k<n) (moves k d k<n))

-- and looks nowhere below
none_looks : (top word closing n : ℕ) (entries : List Entry) → Goes top word entries closing → n < word → filter (is_look_at n) entries ≡ []
none_looks top word closing n entries goes low =
    let after = goes-after (Look word) top word closing entries (omega arith) goes in
    filter_none (is_look_at n) entries (λ k d k<n. no_look_below word n (get_or entries k d) low (after k d k<n))

-- two functions of the numbers after one that agree there
same_at_numbers : (f g : ℕ → List Entry) (count from : ℕ) → ((n : ℕ) → from < n → f n ≡ g n)
    → flat_map f (numbers_after from count) ≡ flat_map g (numbers_after from count)
same_at_numbers f g zero from same = refl
same_at_numbers f g (suc count) from same =
    ap (λ (es : List Entry). es ++ flat_map f (numbers_after (from + 1) count)) (same (from + 1) (omega arith))
    ∙ ap (λ (es : List Entry). g (from + 1) ++ es) (same_at_numbers f g count (from + 1) (λ n above. same n (omega arith)))

-- a function that finds nothing at the numbers after one
none_at_numbers : (f : ℕ → List Entry) (count from : ℕ) → ((n : ℕ) → from < n → n ≤ from + count → f n ≡ [])
    → flat_map f (numbers_after from count) ≡ []
none_at_numbers f zero from none = refl
none_at_numbers f (suc count) from none =
    ap (λ (es : List Entry). es ++ flat_map f (numbers_after (from + 1) count)) (none (from + 1) (omega arith) (omega arith))
    ∙ none_at_numbers f count (from + 1) (λ n above within. none n (omega arith) (omega arith))

-- an entry has one last number
ends_only : (n m : ℕ) (e : Entry) → last_of e ≡ Some n → (m ≡ n → ⊥) → is_last m e ≡ false
ends_only n m (Drawn k) last other = let same : k ≡ n = cc in ne_eqb k m (λ here. other (sym here ∙ same))
ends_only n m (Moved from to) last other = let same : to ≡ n = cc in ne_eqb to m (λ here. other (sym here ∙ same))
ends_only n m (Look seen) last other = refl

-- an entry that covers numbers is no look
looks_nowhere : (n m : ℕ) (e : Entry) → last_of e ≡ Some n → is_look_at m e ≡ false
looks_nowhere n m (Drawn k) last = refl
looks_nowhere n m (Moved from to) last = refl
looks_nowhere n m (Look seen) last = absurd (let no : ⊥ = cc in no)

-- it stands at its last number alone
elsewhere : (n m : ℕ) (e : Entry) (entries : List Entry) → last_of e ≡ Some n → (m ≡ n → ⊥) → entries_at (e ∷ entries) m ≡ entries_at entries m
elsewhere n m e entries last other =
    ap (λ (es : List Entry). es ++ filter (is_look_at m) (e ∷ entries)) (filter_skips (is_last m) e entries (ends_only n m e last other))
    ∙ ap (λ (es : List Entry). filter (is_last m) entries ++ es) (filter_skips (is_look_at m) e entries (looks_nowhere n m e last))

-- a look stands at its number alone
look_elsewhere : (n seen : ℕ) (entries : List Entry) → seen < n → entries_at (Look seen ∷ entries) n ≡ entries_at entries n
look_elsewhere n seen entries past =
    ap (λ (es : List Entry). filter (is_last n) entries ++ es) (filter_skips (is_look_at n) (Look seen) entries (ne_eqb seen n (λ same. omega arith)))

-- the numbers up to one, that one and the numbers after it
numbers_around : (word before next closing : ℕ) → word ≤ before → next ≡ before + 1 → next ≤ closing
    → numbers_after word (closing - word) ≡ numbers_after word (before - word) ++ next ∷ numbers_after next (closing - next)
numbers_around word before next closing low is within =
    sym (numbers_after-append (before - word) word (suc (closing - next)) before (closing - word) (omega arith) (omega arith))
    ∙ ap (λ m. numbers_after word (before - word) ++ m ∷ numbers_after m (closing - next)) (sym is)

-- a walk merges to itself where it begins with an entry that covers numbers, and what follows does
entry_merged : (top word before next closing : ℕ) (e : Entry) (entries : List Entry) → word ≤ before → next ≡ before + 1 → last_of e ≡ Some next
    → Goes top next entries closing
    → filter (is_look_at next) entries ++ flat_map (entries_at entries) (numbers_after next (closing - next)) ≡ entries
    → filter (is_look_at word) (e ∷ entries) ++ flat_map (entries_at (e ∷ entries)) (numbers_after word (closing - word)) ≡ e ∷ entries
entry_merged top word before next closing e entries low is last goes rest =
    let found = entries_at (e ∷ entries) in
    let ahead = flat_map found (numbers_after word (closing - word)) in
    let looks = filter (is_look_at next) entries in
    let forward = goes-forward top next closing entries goes in
    let no_looks : filter (is_look_at word) (e ∷ entries) ≡ [] =
    filter_skips (is_look_at word) e entries (looks_nowhere next word e last) ∙ none_looks top next closing word entries goes (omega arith) in
    let nothing_between : flat_map found (numbers_after word (before - word)) ≡ [] = none_at_numbers found (before - word) word (λ n above within.
    elsewhere next n e entries last (λ same. omega arith)
    ∙ ap (λ (es : List Entry). es ++ filter (is_look_at n) entries) (none_ends top next closing n entries goes (omega arith))
    ∙ none_looks top next closing n entries goes (omega arith)) in
    let here : found next ≡ e ∷ looks =
    ap (λ (es : List Entry). es ++ filter (is_look_at next) (e ∷ entries)) (filter_takes (is_last next) e entries (is_last-from next e last))
    ∙ ap (λ (es : List Entry). e ∷ (es ++ filter (is_look_at next) (e ∷ entries))) (none_ends top next closing next entries goes (omega arith))
    ∙ ap (λ (es : List Entry). e ∷ es) (filter_skips (is_look_at next) e entries (looks_nowhere next next e last)) in
    let after : flat_map found (numbers_after next (closing - next)) ≡ flat_map (entries_at entries) (numbers_after next (closing - next)) =
    same_at_numbers found (entries_at entries) (closing - next) next (λ n above. elsewhere next n e entries last (λ same. omega arith)) in
    ap (λ (es : List Entry). es ++ ahead) no_looks
    ∙ ap (flat_map found) (numbers_around word before next closing low is forward)
    ∙ flat_map-append found (numbers_after word (before - word)) (next ∷ numbers_after next (closing - next))
    ∙ ap (λ (es : List Entry). es ++ (found next ++ flat_map found (numbers_after next (closing - next)))) nothing_between
    ∙ ap (λ (es : List Entry). es ++ flat_map found (numbers_after next (closing - next))) here
    ∙ ap (λ (es : List Entry). e ∷ (looks ++ es)) after
    ∙ ap (λ (es : List Entry). e ∷ es) rest

-- a walk merges to itself
walk_merged : (top word closing : ℕ) (entries : List Entry) → Goes top word entries closing
    → filter (is_look_at word) entries ++ flat_map (entries_at entries) (numbers_after word (closing - word)) ≡ entries
walk_merged top word closing [] here = let none : closing - word ≡ 0 = omega arith in rw none refl
walk_merged top word closing (Drawn n ∷ entries) (next, more) =
    entry_merged top word word n closing (Drawn n) entries (omega arith) next refl more (walk_merged top n closing entries more)
walk_merged top word closing (Moved from to ∷ entries) (here, up, within, more) =
    entry_merged top word (to - 1) to closing (Moved from to) entries (omega arith) (omega arith) refl more (walk_merged top to closing entries more)
walk_merged top word closing (Look seen ∷ entries) (here, more) =
    let looks = filter (is_look_at word) entries in
    let ahead = flat_map (entries_at (Look seen ∷ entries)) (numbers_after word (closing - word)) in
    ap (λ (es : List Entry). es ++ ahead) (filter_takes (is_look_at word) (Look seen) entries (eq-eqb seen word here))
    ∙ ap (λ (es : List Entry). Look seen ∷ (looks ++ es)) (same_at_numbers (entries_at (Look seen ∷ entries)) (entries_at entries) (closing - word) word (λ n above. look_elsewhere n seen entries (omega arith)))
    ∙ ap (λ (es : List Entry). Look seen ∷ es) (walk_merged top word closing entries more)

-- a legal history that is cut into lists is their merge
pub cut_history_merges_to_itself : CutHistoryMergesToItself
cut_history_merges_to_itself top opening closing lists legal =
    let entries = all_entries lists in
    let goes = goes-from_legal top opening closing entries legal in
    let after = flat_map (entries_at entries) (numbers_after opening (closing - opening)) in
    ap (λ (es : List Entry). (es ++ filter (is_look_at opening) entries) ++ after) (none_ends top opening closing opening entries goes (omega arith))
    ∙ walk_merged top opening closing entries goes
