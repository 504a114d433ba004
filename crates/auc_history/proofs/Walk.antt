-- Histories walked from number to number: the form in which they are built and taken apart.
use Rattle.std.proofs.Common.{◌≡◌, ℕ, zero, suc, ◌+◌, ◌-◌, ◌<◌, ◌≤◌, ◌⊎◌, List, [], ◌∷◌, ◌++◌, length, get_or, drop, Some, None, arith, ap, sym, subst, refl, inl, inr, ◌↔◌, All, Any}
use Rattle.std.proofs.lemmas.List.{drop_more, drop_all}
use Rattle.std.proofs.lemmas.List.Elements.{All-nil, All-cons, All-head, All-tail, All-weaker}
use Rattle.auc_history.specs.declared.entry.Entry.{Entry}
use Rattle.auc_history.specs.declared.entry.Entry.TheVariants.{Drawn, Moved, Look}
use Rattle.auc_history.specs.History.{numbers_after, covers, covered, last_of, IsMove, IsFound, reach_of, IsBefore, IsInOrder, IsLegal}
use Rattle.auc_history.specs.Inner.{next_number}
use Rattle.std.proofs.lemmas.Bool.Decides.{nat_tests}
use Rattle.auc_history.proofs.ListLemmas.{AllPairs-cons, AllPairs-head, AllPairs-tail, Any-cons, Any-head, Any-cases}

-- each entry begins where the one before it ended, each look finds what stands, and the end is the closing
abbrev pub Goes : ℕ → ℕ → List Entry → ℕ → Type 0
Goes top word [] closing = word ≡ closing
Goes top word (Drawn n ∷ entries) closing = (n ≡ word + 1) × Goes top n entries closing
Goes top word (Moved from to ∷ entries) closing = (from ≡ word) × (from < to) × (to ≤ top) × Goes top to entries closing
Goes top word (Look seen ∷ entries) closing = (seen ≡ word) × Goes top word entries closing

-- two walks one after the other are one
pub goes-append : (top opening middle closing : ℕ) (xs ys : List Entry)
    → Goes top opening xs middle → Goes top middle ys closing → Goes top opening (xs ++ ys) closing
goes-append top opening middle closing [] ys here rest = let P : ℕ → Type 0 = λ word. Goes top word ys closing in subst P (sym here) rest
goes-append top opening middle closing (Drawn n ∷ xs) ys (next, more) rest = (next, goes-append top n middle closing xs ys more rest)
goes-append top opening middle closing (Moved from to ∷ xs) ys (here, up, within, more) rest =
    (here, up, within, goes-append top to middle closing xs ys more rest)
goes-append top opening middle closing (Look seen ∷ xs) ys (here, more) rest = (here, goes-append top opening middle closing xs ys more rest)

-- a walk ends no lower than it began
pub goes-forward : (top opening closing : ℕ) (entries : List Entry) → Goes top opening entries closing → opening ≤ closing
goes-forward top opening closing [] here = omega arith
goes-forward top opening closing (Drawn n ∷ entries) (next, more) = let up = goes-forward top n closing entries more in omega arith
goes-forward top opening closing (Moved from to ∷ entries) (here, up, within, more) =
    let on = goes-forward top to closing entries more in omega arith
goes-forward top opening closing (Look seen ∷ entries) (here, more) = goes-forward top opening closing entries more

-- rising numbers and those that follow them
pub numbers_after-append : (count from more middle total : ℕ) → middle ≡ from + count → total ≡ count + more
    → numbers_after from count ++ numbers_after middle more ≡ numbers_after from total
numbers_after-append zero from more middle total here whole =
    let p : middle ≡ from = omega arith in let q : total ≡ more = omega arith in rw (p, q) refl
numbers_after-append (suc count) from more middle total here whole =
    let q : total ≡ suc (count + more) = omega arith in
    rw q (ap (λ (xs : List ℕ). (from + 1) ∷ xs) (numbers_after-append count (from + 1) more middle (count + more) (omega arith) refl))

-- what a walk covers
pub goes-rising : (top opening closing : ℕ) (entries : List Entry) → Goes top opening entries closing
    → covered entries ≡ numbers_after opening (closing - opening)
goes-rising top opening closing [] here = let none : closing - opening ≡ 0 = omega arith in rw none refl
goes-rising top opening closing (Drawn n ∷ entries) (next, more) =
    let on = goes-forward top n closing entries more in
    let one : closing - opening ≡ suc (closing - n) = omega arith in
    let rest = goes-rising top n closing entries more in
    rw (one, rest, next) refl
goes-rising top opening closing (Moved from to ∷ entries) (here, up, within, more) =
    let on = goes-forward top to closing entries more in
    let rest = goes-rising top to closing entries more in
    rw (rest, here) (numbers_after-append (to - opening) opening (closing - to) to (closing - opening) (omega arith) (omega arith))
goes-rising top opening closing (Look seen ∷ entries) (here, more) = goes-rising top opening closing entries more

-- what got no further than where a walk begins is before each of its entries
pub goes-after : (e : Entry) (top opening closing : ℕ) (entries : List Entry) → reach_of e ≤ opening
    → Goes top opening entries closing → All (IsBefore e) entries
goes-after e top opening closing [] low here = All-nil (IsBefore e)
goes-after e top opening closing (Drawn n ∷ entries) low (next, more) =
    All-cons (IsBefore e) (Drawn n) entries (omega arith) (goes-after e top n closing entries (omega arith) more)
goes-after e top opening closing (Moved from to ∷ entries) low (here, up, within, more) =
    All-cons (IsBefore e) (Moved from to) entries (omega arith) (goes-after e top to closing entries (omega arith) more)
goes-after e top opening closing (Look seen ∷ entries) low (here, more) =
    All-cons (IsBefore e) (Look seen) entries (omega arith) (goes-after e top opening closing entries low more)

-- the entries of a walk are in order
pub goes-ordered : (top opening closing : ℕ) (entries : List Entry) → Goes top opening entries closing → IsInOrder entries
goes-ordered top opening closing [] here = λ i j d i<j j<n. absurd (omega arith)
goes-ordered top opening closing (Drawn n ∷ entries) (next, more) =
    AllPairs-cons IsBefore (Drawn n) entries (goes-after (Drawn n) top n closing entries (omega arith) more) (goes-ordered top n closing entries more)
goes-ordered top opening closing (Moved from to ∷ entries) (here, up, within, more) =
    AllPairs-cons IsBefore (Moved from to) entries (goes-after (Moved from to) top to closing entries (omega arith) more) (goes-ordered top to closing entries more)
goes-ordered top opening closing (Look seen ∷ entries) (here, more) =
    AllPairs-cons IsBefore (Look seen) entries (goes-after (Look seen) top opening closing entries (omega arith) more) (goes-ordered top opening closing entries more)

-- the moves of a walk
pub goes-moves : (top opening closing : ℕ) (entries : List Entry) → Goes top opening entries closing → All (IsMove top) entries
goes-moves top opening closing [] here = All-nil (IsMove top)
goes-moves top opening closing (Drawn n ∷ entries) (next, more) = All-cons (IsMove top) (Drawn n) entries tt (goes-moves top n closing entries more)
goes-moves top opening closing (Moved from to ∷ entries) (here, up, within, more) =
    All-cons (IsMove top) (Moved from to) entries (up, within) (goes-moves top to closing entries more)
goes-moves top opening closing (Look seen ∷ entries) (here, more) = All-cons (IsMove top) (Look seen) entries tt (goes-moves top opening closing entries more)

-- where the rest of a history opens is the opening, or the last number that some entry covers
abbrev pub Stands : ℕ → List Entry → ℕ → Type 0
Stands opening entries word = (word ≡ opening) ⊎ Any (λ e. last_of e ≡ Some word) entries

-- what the rest of a history finds, the whole finds
found_in_whole : (opening word : ℕ) (first : Entry) (entries : List Entry) → Stands opening (first ∷ entries) word
    → (e : Entry) → IsFound word entries e → IsFound opening (first ∷ entries) e
found_in_whole opening word first entries stands (Drawn n) found = tt
found_in_whole opening word first entries stands (Moved from to) found = tt
found_in_whole opening word first entries stands (Look seen) found =
    elim found [
      | inl here ↦ let P : ℕ → Type 0 = λ w. Stands opening (first ∷ entries) w in subst P (sym here) stands
      | inr some ↦ inr (Any-cons (λ e. last_of e ≡ Some seen) first entries some)
    ]

-- the looks of a walk
pub goes-looks : (top opening closing : ℕ) (entries : List Entry) → Goes top opening entries closing → All (IsFound opening entries) entries
goes-looks top opening closing [] here = All-nil (IsFound opening [])
goes-looks top opening closing (Drawn n ∷ entries) (next, more) =
    All-cons (IsFound opening (Drawn n ∷ entries)) (Drawn n) entries tt
    (All-weaker (IsFound n entries) (IsFound opening (Drawn n ∷ entries))
    (found_in_whole opening n (Drawn n) entries (inr (Any-head (λ e. last_of e ≡ Some n) (Drawn n) entries refl))) entries (goes-looks top n closing entries more))
goes-looks top opening closing (Moved from to ∷ entries) (here, up, within, more) =
    All-cons (IsFound opening (Moved from to ∷ entries)) (Moved from to) entries tt
    (All-weaker (IsFound to entries) (IsFound opening (Moved from to ∷ entries))
    (found_in_whole opening to (Moved from to) entries (inr (Any-head (λ e. last_of e ≡ Some to) (Moved from to) entries refl))) entries (goes-looks top to closing entries more))
goes-looks top opening closing (Look seen ∷ entries) (here, more) =
    All-cons (IsFound opening (Look seen ∷ entries)) (Look seen) entries (inl here)
    (All-weaker (IsFound opening entries) (IsFound opening (Look seen ∷ entries))
    (found_in_whole opening opening (Look seen) entries (inl refl)) entries (goes-looks top opening closing entries more))

-- a walk is a legal history
pub IsLegal-from_goes : (top opening closing : ℕ) (entries : List Entry) → Goes top opening entries closing → IsLegal top opening closing entries
IsLegal-from_goes top opening closing entries goes = record {
  forward = goes-forward top opening closing entries goes;
  rising = goes-rising top opening closing entries goes;
  ordered = goes-ordered top opening closing entries goes;
  moves = goes-moves top opening closing entries goes;
  looks = goes-looks top opening closing entries goes;
}

-- how many numbers there are
pub length-numbers_after : (count from : ℕ) → length (numbers_after from count) ≡ count
length-numbers_after zero from = refl
length-numbers_after (suc count) from = ap suc (length-numbers_after count (from + 1))

-- the first of rising numbers, and those that follow it
pub first_of_numbers : (count from n : ℕ) (rest : List ℕ) → n ∷ rest ≡ numbers_after from count
    → (n ≡ from + 1) × (0 < count) × (rest ≡ numbers_after n (count - 1))
first_of_numbers zero from n rest same = absurd (let no : ⊥ = cc in no)
first_of_numbers (suc count) from n rest same =
    let head : n ≡ from + 1 = cc in let tail : rest ≡ numbers_after (from + 1) count = cc in
    let one : suc count - 1 ≡ count = omega arith in
    (head, omega arith, rw (head, one) tail)

-- the front of rising numbers, and those that follow it
pub front_of_numbers : (more count from n : ℕ) (rest : List ℕ) → numbers_after n (suc more) ++ rest ≡ numbers_after from count
    → (n ≡ from) × (more < count) × (rest ≡ numbers_after (n + suc more) (count - suc more))
front_of_numbers zero count from n rest same =
    let (first, some, tail) = first_of_numbers count from (n + 1) rest same in
    (omega arith, omega arith, tail)
front_of_numbers (suc more) count from n rest same =
    let (first, some, tail) = first_of_numbers count from (n + 1) (numbers_after (n + 1) (suc more) ++ rest) same in
    let (again, enough, left) = front_of_numbers more (count - 1) (n + 1) (n + 1) rest tail in
    let p : n + suc (suc more) ≡ n + 1 + suc more = omega arith in
    let q : count - suc (suc more) ≡ count - 1 - suc more = omega arith in
    (omega arith, omega arith, rw (p, q) left)

-- what the whole of a history finds, its rest finds after an entry that ends where the rest begins
found_in_rest : (opening word : ℕ) (first : Entry) (entries : List Entry) → opening < word → reach_of first ≡ word
    → last_of first ≡ Some word → (e : Entry) → IsBefore first e → IsFound opening (first ∷ entries) e → IsFound word entries e
found_in_rest opening word first entries up ends covers (Drawn n) before found = tt
found_in_rest opening word first entries up ends covers (Moved from to) before found = tt
found_in_rest opening word first entries up ends covers (Look seen) before found =
    elim found [
      | inl here ↦ absurd (omega arith)
      | inr some ↦ elim (Any-cases (λ e. last_of e ≡ Some seen) first entries some) [
        | inl last ↦ inl (let same : seen ≡ word = cc in same)
        | inr other ↦ inr other
      ]
    ]

-- and after a look
found_past_look : (opening word : ℕ) (entries : List Entry) (e : Entry) → IsFound opening (Look word ∷ entries) e → IsFound opening entries e
found_past_look opening word entries (Drawn n) found = tt
found_past_look opening word entries (Moved from to) found = tt
found_past_look opening word entries (Look seen) found =
    elim found [
      | inl here ↦ inl here
      | inr some ↦ elim (Any-cases (λ e. last_of e ≡ Some seen) (Look word) entries some) [
        | inl last ↦ absurd (let no : ⊥ = cc in no)
        | inr other ↦ inr other
      ]
    ]

-- no entry behind a look ends at what it found
ends_higher : (seen top : ℕ) (e : Entry) → IsBefore (Look seen) e → IsMove top e → last_of e ≡ Some seen → ⊥
ends_higher seen top (Drawn n) before move last = let same : n ≡ seen = cc in omega arith
ends_higher seen top (Moved from to) before move last = let same : to ≡ seen = cc in omega arith
ends_higher seen top (Look other) before move last = cc

-- a look that comes first found the opening
first_look : (top opening seen : ℕ) (entries : List Entry) → All (IsBefore (Look seen)) entries → All (IsMove top) entries
    → IsFound opening (Look seen ∷ entries) (Look seen) → seen ≡ opening
first_look top opening seen entries before moves found =
    elim found [
      | inl here ↦ here
      | inr some ↦ elim (Any-cases (λ e. last_of e ≡ Some seen) (Look seen) entries some) [
        | inl last ↦ absurd (let no : ⊥ = cc in no)
        | inr other ↦ absurd (let (k, e, k<n, at, last) = other in
            ends_higher seen top e (subst (IsBefore (Look seen)) at (before k e k<n)) (subst (IsMove top) at (moves k e k<n)) last)
      ]
    ]

-- a legal history is a walk
pub goes-from_legal : (top opening closing : ℕ) (entries : List Entry) → IsLegal top opening closing entries → Goes top opening entries closing
goes-from_legal top opening closing [] legal =
    let none = ap length legal.rising in
    let some = length-numbers_after (closing - opening) opening in
    let forward = legal.forward in
    omega (arith, none, some)
goes-from_legal top opening closing (Drawn n ∷ entries) legal =
    let (first, some, rest) = first_of_numbers (closing - opening) opening n (covered entries) legal.rising in
    let after = AllPairs-head IsBefore (Drawn n) entries legal.ordered in
    let looks = All-tail (IsFound opening (Drawn n ∷ entries)) (Drawn n) entries legal.looks in
    let one : closing - n ≡ closing - opening - 1 = omega arith in (
      first,
      goes-from_legal top n closing entries (record {
        forward = omega arith;
        rising = rw one rest;
        ordered = AllPairs-tail IsBefore (Drawn n) entries legal.ordered;
        moves = All-tail (IsMove top) (Drawn n) entries legal.moves;
        looks = λ k d k<n. found_in_rest opening n (Drawn n) entries (omega arith) refl refl (get_or entries k d) (after k d k<n) (looks k d k<n);
      }),
    )
goes-from_legal top opening closing (Moved from to ∷ entries) legal =
    let (up, within) = All-head (IsMove top) (Moved from to) entries legal.moves in
    let many : to - from ≡ suc (to - from - 1) = omega arith in
    let covers_these : numbers_after from (suc (to - from - 1)) ++ covered entries ≡ numbers_after opening (closing - opening) = rw many at legal.rising in
    let (first, enough, rest) = front_of_numbers (to - from - 1) (closing - opening) opening from (covered entries) covers_these in
    let after = AllPairs-head IsBefore (Moved from to) entries legal.ordered in
    let looks = All-tail (IsFound opening (Moved from to ∷ entries)) (Moved from to) entries legal.looks in
    let begins : to ≡ from + suc (to - from - 1) = omega arith in
    let left : closing - to ≡ closing - opening - suc (to - from - 1) = omega arith in
    let rest_of : covered entries ≡ numbers_after to (closing - to) = rw left (let P : ℕ → Type 0 = λ w. covered entries ≡ numbers_after w (closing - opening - suc (to - from - 1)) in subst P (sym begins) rest) in (
      first,
      up,
      within,
      goes-from_legal top to closing entries (record {
        forward = omega arith;
        rising = rest_of;
        ordered = AllPairs-tail IsBefore (Moved from to) entries legal.ordered;
        moves = All-tail (IsMove top) (Moved from to) entries legal.moves;
        looks = λ k d k<n. found_in_rest opening to (Moved from to) entries (omega arith) refl refl (get_or entries k d) (after k d k<n) (looks k d k<n);
      }),
    )
goes-from_legal top opening closing (Look seen ∷ entries) legal =
    let after = AllPairs-head IsBefore (Look seen) entries legal.ordered in
    let moves = All-tail (IsMove top) (Look seen) entries legal.moves in
    let looks = All-tail (IsFound opening (Look seen ∷ entries)) (Look seen) entries legal.looks in
    let here = first_look top opening seen entries after moves (All-head (IsFound opening (Look seen ∷ entries)) (Look seen) entries legal.looks) in (
      here,
      goes-from_legal top opening closing entries (record {
        forward = legal.forward;
        rising = legal.rising;
        ordered = AllPairs-tail IsBefore (Look seen) entries legal.ordered;
        moves = moves;
        looks = λ k d k<n. found_past_look opening seen entries (get_or entries k d) (looks k d k<n);
      }),
    )

-- two legal stretches one after the other are one
pub IsLegal-append : (top opening middle closing : ℕ) (xs ys : List Entry)
    → IsLegal top opening middle xs → IsLegal top middle closing ys → IsLegal top opening closing (xs ++ ys)
IsLegal-append top opening middle closing xs ys first second =
    IsLegal-from_goes top opening closing (xs ++ ys)
    (goes-append top opening middle closing xs ys (goes-from_legal top opening middle xs first) (goes-from_legal top middle closing ys second))

-- no entries are a legal history from a number to itself
pub IsLegal-nil : (top opening : ℕ) → IsLegal top opening opening []
IsLegal-nil top opening = IsLegal-from_goes top opening opening [] refl

-- a legal history goes on by a draw of the next number
pub IsLegal-draw : (top opening closing : ℕ) (entries : List Entry)
    → IsLegal top opening closing entries → IsLegal top opening (closing + 1) (entries ++ Drawn (closing + 1) ∷ [])
IsLegal-draw top opening closing entries legal =
    IsLegal-append top opening closing (closing + 1) entries (Drawn (closing + 1) ∷ []) legal
    (IsLegal-from_goes top closing (closing + 1) (Drawn (closing + 1) ∷ []) (refl, refl))

-- by a move to a greater number
pub IsLegal-move : (top opening closing to : ℕ) (entries : List Entry) → closing < to → to ≤ top
    → IsLegal top opening closing entries → IsLegal top opening to (entries ++ Moved closing to ∷ [])
IsLegal-move top opening closing to entries up within legal =
    IsLegal-append top opening closing to entries (Moved closing to ∷ []) legal
    (IsLegal-from_goes top closing to (Moved closing to ∷ []) (refl, up, within, refl))

-- and by a look at what stands
pub IsLegal-look : (top opening closing : ℕ) (entries : List Entry)
    → IsLegal top opening closing entries → IsLegal top opening closing (entries ++ Look closing ∷ [])
IsLegal-look top opening closing entries legal =
    IsLegal-append top opening closing closing entries (Look closing ∷ []) legal
    (IsLegal-from_goes top closing closing (Look closing ∷ []) (refl, refl))

-- which draw can't come
no_draw : (top word n : ℕ) → next_number top word (Drawn n) ≡ None → n ≡ word + 1 → ⊥
no_draw top word n = grind (arith, nat_tests)

-- which move
no_move : (top word from to : ℕ) → next_number top word (Moved from to) ≡ None → from ≡ word → from < to → to ≤ top → ⊥
no_move top word from to = grind (arith, nat_tests)

-- which look
no_look : (top word seen : ℕ) → next_number top word (Look seen) ≡ None → seen ≡ word → ⊥
no_look top word seen = grind (arith, nat_tests)

-- an entry that can't come ends each walk
goes-stops : (top word closing : ℕ) (e : Entry) (entries : List Entry) → next_number top word e ≡ None → Goes top word (e ∷ entries) closing → ⊥
goes-stops top word closing (Drawn n) entries none (next, more) = no_draw top word n none next
goes-stops top word closing (Moved from to) entries none (here, up, within, more) = no_move top word from to none here up within
goes-stops top word closing (Look seen) entries none (here, more) = no_look top word seen none here

-- where the rest of a list begins with an entry that can't come, the list is no legal history
pub no_history : (top opening word closing i : ℕ) (d : Entry) (entries : List Entry) → i < length entries
    → next_number top word (get_or entries i d) ≡ None
    → ((c : ℕ) → Goes top word (drop i entries) c ↔ Goes top opening entries c)
    → IsLegal top opening closing entries → ⊥
no_history top opening word closing i d entries i<n none same legal =
    goes-stops top word closing (get_or entries i d) (drop (i + 1) entries) none
    (let P : List Entry → Type 0 = λ es. Goes top word es closing in
    subst P (drop_more entries i d i<n) ((same closing).1 (goes-from_legal top opening closing entries legal)))

-- the whole is a legal history to where it ends, and to nowhere else
pub legal_where_it_ends : (top opening word closing i : ℕ) (entries : List Entry) → length entries ≤ i
    → ((c : ℕ) → Goes top word (drop i entries) c ↔ Goes top opening entries c)
    → (word ≡ closing) ↔ IsLegal top opening closing entries
legal_where_it_ends top opening word closing i entries n≤i same =
    let P : List Entry → Type 0 = λ es. Goes top word es closing in
    let past = drop_all i entries n≤i in (
      λ here. IsLegal-from_goes top opening closing entries ((same closing).0 (subst P (sym past) here)),
      λ legal. subst P past ((same closing).1 (goes-from_legal top opening closing entries legal)),
    )
