-- The merge of a split walked from number to number: it climbs, and what climbs and covers each number once is a walk.
use Rattle.std.proofs.Common.{◌≡◌, ℕ, zero, suc, ◌+◌, ◌-◌, ◌<◌, ◌≤◌, ◌&&◌, ◌==◌, nat_lt, nat_le, Bool, true, false, cond, if◌then◌else◌, List, [], ◌∷◌, ◌++◌, length, get_or, Some, arith, ap, sym, subst, ◌∙◌, refl, inl, inr, All, Contains, filter, flat_map, eqb-true}
use Rattle.std.proofs.lemmas.Bool.{cases_lt, false≢true}
use Rattle.std.proofs.lemmas.Bool.Decides.{nat_tests}
use Rattle.std.proofs.lemmas.List.Elements.{All-head, All-contains, All-filter, All-contains_itself, Contains-get_or, filter_passes}
use Rattle.auc_history.specs.declared.entry.Entry.{Entry}
use Rattle.auc_history.specs.declared.entry.Entry.TheVariants.{Drawn, Moved, Look}
use Rattle.auc_history.specs.History.{numbers_after, covers, covered, last_of, IsMove, reach_of}
use Rattle.auc_history.specs.Split.{times}
use Rattle.auc_history.specs.Merge.{is_last, is_look_at, entries_at}
use Rattle.auc_history.proofs.ListLemmas.{times-cons, times-append, filter_none}
use Rattle.auc_history.proofs.SplitLemmas.{CoversOnce, times-numbers_after}
use Rattle.auc_history.proofs.Walk.{Goes, Stands}
use Rattle.auc_history.proofs.CoverLemmas.{covering, covers_drawn, covers_moved, inside, below, none_past, IsCovering, not_passed_over, last_is, one_last, no_look, none_at_opening}

-- as a walk, but a covering entry may begin above the number where the walk stands
abbrev pub Climbs : ℕ → ℕ → List Entry → ℕ → Type 0
Climbs top word [] closing = word ≤ closing
Climbs top word (Drawn n ∷ entries) closing = (word < n) × Climbs top n entries closing
Climbs top word (Moved from to ∷ entries) closing = (word ≤ from) × (from < to) × (to ≤ top) × Climbs top to entries closing
Climbs top word (Look seen ∷ entries) closing = (seen ≡ word) × Climbs top word entries closing

-- it ends no lower than it began
climbs-forward : (top word closing : ℕ) (entries : List Entry) → Climbs top word entries closing → word ≤ closing
climbs-forward top word closing [] here = here
climbs-forward top word closing (Drawn n ∷ entries) (up, more) = let on = climbs-forward top n closing entries more in omega arith
climbs-forward top word closing (Moved from to ∷ entries) (low, up, within, more) =
    let on = climbs-forward top to closing entries more in omega arith
climbs-forward top word closing (Look seen ∷ entries) (here, more) = climbs-forward top word closing entries more

-- a lower number is not the drawn one
not_drawn : (n m : ℕ) → m < n → ◌≡◌ {A = ℕ} (cond (n == m) 1 0) 0
not_drawn n m less = grind (arith, nat_tests)

-- it covers no number up to where it begins
climbs-past : (top word closing m : ℕ) (entries : List Entry) → Climbs top word entries closing → m ≤ word → times m (covered entries) ≡ 0
climbs-past top word closing m [] here low = refl
climbs-past top word closing m (Drawn n ∷ entries) (up, more) low =
    let rest = climbs-past top n closing m entries more (omega arith) in
    let cut = times-cons m n (covered entries) in
    let other = not_drawn n m (omega arith) in
    omega (arith, rest, cut, other)
climbs-past top word closing m (Moved from to ∷ entries) (high, up, within, more) low =
    let rest = climbs-past top to closing m entries more (omega arith) in
    let cut = times-append m (numbers_after from (to - from)) (covered entries) in
    let these = times-numbers_after m (to - from) from in
    let none = below m from (from + (to - from)) (omega arith) in
    omega (arith, rest, cut, these, none)
climbs-past top word closing m (Look seen ∷ entries) (here, more) low = climbs-past top word closing m entries more low

-- above where an entry ends, the rest of a range is the range
rest_of_range : (word next closing m t : ℕ) → word ≤ next → next < m → t ≡ (if nat_lt word m && nat_le m closing then 1 else 0)
    → t ≡ (if nat_lt next m && nat_le m closing then 1 else 0)
rest_of_range word next closing m t up past = grind (arith, nat_tests)

-- what the entries after one cover, where it covers nothing beyond its end and they nothing up to there
rest_once : (word next closing m u t : ℕ) → word ≤ next → u + t ≡ (if nat_lt word m && nat_le m closing then 1 else 0)
    → (next < m → u ≡ 0) → (m ≤ next → t ≡ 0) → t ≡ (if nat_lt next m && nat_le m closing then 1 else 0)
rest_once word next closing m u t up whole beyond until = elim (cases_lt next m) [
  | inl past ↦ (let none = beyond past in rest_of_range word next closing m t up past (omega (arith, whole, none)))
  | inr before ↦ until before ∙ sym (below m next closing before)
]

-- the first of some entries that cover a range, if it covers numbers, covers the first number of the range
covers_first : (top word next closing : ℕ) (e : Entry) (entries : List Entry) → CoversOnce word closing (e ∷ entries)
    → Climbs top next entries closing → word < next → 1 ≤ covering (word + 1) e
covers_first top word next closing e entries once more up =
    let on = climbs-forward top next closing entries more in
    let cut = times-append (word + 1) (covers e) (covered entries) in
    let one = once (word + 1) in
    let range = inside (word + 1) word closing (omega arith) (omega arith) in
    let none = climbs-past top next closing (word + 1) entries more (omega arith) in
    omega (arith, cut, one, range, none)

-- what follows it covers the rest of the range
covers_rest : (top word next closing : ℕ) (e : Entry) (entries : List Entry) → CoversOnce word closing (e ∷ entries)
    → Climbs top next entries closing → word ≤ next → reach_of e ≡ next → CoversOnce next closing entries
covers_rest top word next closing e entries once more up ends m =
    rest_once word next closing m (covering m e) (times m (covered entries)) up (sym (times-append m (covers e) (covered entries)) ∙ once m)
    (λ past. none_past m e (omega arith)) (climbs-past top next closing m entries more)

-- entries that climb and cover each number once are a walk
pub goes-from_climbs : (top word closing : ℕ) (entries : List Entry) → CoversOnce word closing entries → Climbs top word entries closing
    → Goes top word entries closing
goes-from_climbs top word closing [] once here = elim (cases_lt word closing) [
  | inl left ↦ absurd (let one = once (word + 1) in let range = inside (word + 1) word closing (omega arith) (omega arith) in omega (arith, one, range))
  | inr none ↦ omega arith
]
goes-from_climbs top word closing (Drawn n ∷ entries) once (up, more) = (
  covers_drawn n (word + 1) (covers_first top word n closing (Drawn n) entries once more up),
  goes-from_climbs top n closing entries (covers_rest top word n closing (Drawn n) entries once more (omega arith) refl) more,
)
goes-from_climbs top word closing (Moved from to ∷ entries) once (high, up, within, more) =
    let (first, last) = covers_moved from to (word + 1) (covers_first top word to closing (Moved from to) entries once more (omega arith)) in (
      omega arith,
      up,
      within,
      goes-from_climbs top to closing entries (covers_rest top word to closing (Moved from to) entries once more (omega arith) refl) more,
    )
goes-from_climbs top word closing (Look seen ∷ entries) once (here, more) = (here, goes-from_climbs top word closing entries once more)

-- a look, if it is at the number where the walk stands
one_look : (b : Bool) (top word closing seen : ℕ) (looks rest : List Entry) → (seen == word) ≡ b → Climbs top word (looks ++ rest) closing
    → Climbs top word (cond b (Look seen ∷ looks) looks ++ rest) closing
one_look true top word closing seen looks rest is more = (eqb-true seen word is, more)
one_look false top word closing seen looks rest is more = more

-- the looks at the number where it stands
climbs-looks : (top word closing : ℕ) (entries rest : List Entry) → Climbs top word rest closing
    → Climbs top word (filter (is_look_at word) entries ++ rest) closing
climbs-looks top word closing [] rest more = more
climbs-looks top word closing (Drawn n ∷ entries) rest more = climbs-looks top word closing entries rest more
climbs-looks top word closing (Moved from to ∷ entries) rest more = climbs-looks top word closing entries rest more
climbs-looks top word closing (Look seen ∷ entries) rest more =
    one_look (seen == word) top word closing seen (filter (is_look_at word) entries) rest refl (climbs-looks top word closing entries rest more)

-- the history stands where an entry ends
stands_at : (opening n : ℕ) (entries : List Entry) (e : Entry) → Contains entries e → last_of e ≡ Some n → Stands opening entries n
stands_at opening n entries e (k, k<n, at) last = inr (k, e, k<n, at, last)

-- the entry that ends at a number, and the looks at it
climbs-entry : (top opening closing word n : ℕ) (entries rest : List Entry) (e : Entry) → IsCovering top opening closing entries
    → Stands opening entries word → word < n → Contains entries e → is_last n e ≡ true → Climbs top n rest closing
    → Climbs top word (e ∷ (filter (is_look_at n) entries ++ rest)) closing
climbs-entry top opening closing word n entries rest (Drawn m) split stands up there passes more =
    let same = eqb-true m n passes in
    let P : ℕ → Type 0 = λ w. Climbs top w (filter (is_look_at n) entries ++ rest) closing in
    (omega arith, subst P (sym same) (climbs-looks top n closing entries rest more))
climbs-entry top opening closing word n entries rest (Moved from to) split stands up there passes more =
    let same = eqb-true to n passes in
    let (rises, within) = All-contains (IsMove top) entries (Moved from to) split.moves there in
    let P : ℕ → Type 0 = λ w. Climbs top w (filter (is_look_at n) entries ++ rest) closing in (
      not_passed_over top opening closing word from to entries split stands there (omega arith),
      rises,
      within,
      subst P (sym same) (climbs-looks top n closing entries rest more),
    )
climbs-entry top opening closing word n entries rest (Look seen) split stands up there passes more = absurd (false≢true passes)

-- the entries at a number, if there are any
climbs-at : (top opening closing word n : ℕ) (entries rest here : List Entry) → IsCovering top opening closing entries
    → Stands opening entries word → opening ≤ word → word < n → filter (is_last n) entries ≡ here
    → ((next : ℕ) → Stands opening entries next → opening ≤ next → next ≤ n → Climbs top next rest closing)
    → Climbs top word ((here ++ filter (is_look_at n) entries) ++ rest) closing
climbs-at top opening closing word n entries rest [] split stands low up here more =
    let none = filter_none (is_look_at n) entries (λ k d k<n. no_look top opening closing n entries split (omega arith) here (get_or entries k d) (Contains-get_or entries k d k<n)) in
    let P : List Entry → Type 0 = λ looks. Climbs top word (looks ++ rest) closing in
    subst P (sym none) (more word stands low (omega arith))
climbs-at top opening closing word n entries rest (e ∷ []) split stands low up here more =
    let P : List Entry → Type 0 = λ es. All (Contains entries) es in
    let Q : List Entry → Type 0 = λ es. All (λ x. is_last n x ≡ true) es in
    let there = All-head (Contains entries) e [] (subst P here (All-filter (is_last n) (Contains entries) entries (All-contains_itself entries))) in
    let passes = All-head (λ x. is_last n x ≡ true) e [] (subst Q here (filter_passes (is_last n) entries)) in
    climbs-entry top opening closing word n entries rest e split stands up there passes
    (more n (stands_at opening n entries e there (last_is n e passes)) (omega arith) (omega arith))
climbs-at top opening closing word n entries rest (e ∷ f ∷ es) split stands low up here more =
    let long = ap length here in
    let few = one_last top opening closing n entries split in
    absurd (omega (arith, long, few))

-- the entries at the numbers after one
climbs-after : (count top opening closing word n : ℕ) (entries : List Entry) → IsCovering top opening closing entries → n + count ≡ closing
    → Stands opening entries word → opening ≤ word → word ≤ n → Climbs top word (flat_map (entries_at entries) (numbers_after n count)) closing
climbs-after zero top opening closing word n entries split ends stands low up = omega arith
climbs-after (suc count) top opening closing word n entries split ends stands low up =
    climbs-at top opening closing word (n + 1) entries (flat_map (entries_at entries) (numbers_after (n + 1) count)) (filter (is_last (n + 1)) entries)
    split stands low (omega arith) refl
    (λ next stands_there opens at_most. climbs-after count top opening closing next (n + 1) entries split (omega arith) stands_there opens at_most)

-- the entries at the numbers from the opening to the closing
pub climbs-merged : (top opening closing : ℕ) (entries : List Entry) → IsCovering top opening closing entries
    → Climbs top opening (flat_map (entries_at entries) (opening ∷ numbers_after opening (closing - opening))) closing
climbs-merged top opening closing entries split =
    let forward = split.forward in
    let after = flat_map (entries_at entries) (numbers_after opening (closing - opening)) in
    let none = filter_none (is_last opening) entries (λ k d k<n. none_at_opening top opening closing entries split (get_or entries k d) (Contains-get_or entries k d k<n)) in
    let P : List Entry → Type 0 = λ here. Climbs top opening ((here ++ filter (is_look_at opening) entries) ++ after) closing in
    subst P (sym none) (climbs-looks top opening closing entries after
    (climbs-after (closing - opening) top opening closing opening opening entries split (omega arith) (inl refl) (omega arith) (omega arith)))
