-- The laws of positions: what lies between two numbers of a history stands between their draws.
use Rattle.std.proofs.Common.{◌≡◌, ℕ, ◌<◌, ◌≤◌, ◌&&◌, ◌||◌, not, nat_lt, nat_le, Bool, true, false, List, [], ◌∷◌, ◌++◌, length, get_or, filter, All, refl, sym, ◌∙◌, ap, subst, arith, inl, inr}
use Rattle.std.specs.List.{list_any}
use Rattle.std.proofs.lemmas.Bool.{cond-true, or_from, or_left, or_right, and_from, and_left, and_right, le-leb, lt-leb, lt-ltb, le-ltb}
use Rattle.std.proofs.lemmas.Bool.Decides.{nat_tests}
use Rattle.std.proofs.lemmas.List.{length-append}
use Rattle.std.proofs.lemmas.List.Concat.{flat_map-append}
use Rattle.std.proofs.lemmas.List.Elements.{All-nil, All-cons, All-head, All-tail, All-weaker, filter-append}
use Rattle.std.proofs.lemmas.List.Folds.{list_any-append}
use Rattle.auc_history.specs.declared.entry.Entry.{Entry}
use Rattle.auc_history.specs.declared.entry.Entry.TheVariants.{Drawn, Moved, Look}
use Rattle.auc_history.specs.History.{IsMove, IsBefore, IsInOrder, drawn, drawn_by}
use Rattle.auc_history.proofs.Facts.{AllPairs-head, AllPairs-tail}
use Rattle.auc_transcript.specs.Headline.{moves_between, is_moved}
use Rattle.auc_transcript.specs.Position.{is_move, EachMoveStandsBetween, EndsPeriod, EachPlaceIsAPosition}
use Rattle.auc_transcript.proofs.ListLemmas.{AllPairs-left, AllPairs-right, all_left, all_right, filter_none, filter_all, pairs_across}
use Rattle.auc_transcript.proofs.PlaceLemmas.{not_moved_down}

-- ---- moves before, between and after two draws

-- no move before the first draw is between the numbers
moved_front : (top m n : ℕ) (front : List Entry) → All (λ e. IsBefore e (Drawn m)) front → All (IsMove top) front → is_moved front m n ≡ false
moved_front top m n [] before moves = refl
moved_front top m n (Drawn k ∷ front) before moves =
    moved_front top m n front (All-tail (λ e. IsBefore e (Drawn m)) (Drawn k) front before) (All-tail (IsMove top) (Drawn k) front moves)
moved_front top m n (Moved from to ∷ front) before moves =
    let low = All-head (λ e. IsBefore e (Drawn m)) (Moved from to) front before in
    let (up, within) = All-head (IsMove top) (Moved from to) front moves in
    or_from (nat_le m from && nat_lt from n) (is_moved front m n) (and_left (nat_le m from) (nat_lt from n) (lt-leb m from (omega (arith, low, up))))
    (moved_front top m n front (All-tail (λ e. IsBefore e (Drawn m)) (Moved from to) front before) (All-tail (IsMove top) (Moved from to) front moves))
moved_front top m n (Look seen ∷ front) before moves =
    moved_front top m n front (All-tail (λ e. IsBefore e (Drawn m)) (Look seen) front before) (All-tail (IsMove top) (Look seen) front moves)

-- each move between the draws is
moved_between : (top m n : ℕ) (between : List Entry) → All (IsBefore (Drawn m)) between → All (λ e. IsBefore e (Drawn n)) between → All (IsMove top) between
    → is_moved between m n ≡ list_any is_move between
moved_between top m n [] after before moves = refl
moved_between top m n (Drawn k ∷ between) after before moves =
    moved_between top m n between (All-tail (IsBefore (Drawn m)) (Drawn k) between after) (All-tail (λ e. IsBefore e (Drawn n)) (Drawn k) between before)
    (All-tail (IsMove top) (Drawn k) between moves)
moved_between top m n (Moved from to ∷ between) after before moves =
    let low = All-head (IsBefore (Drawn m)) (Moved from to) between after in
    let high = All-head (λ e. IsBefore e (Drawn n)) (Moved from to) between before in
    let (up, within) = All-head (IsMove top) (Moved from to) between moves in
    or_left (nat_le m from && nat_lt from n) (is_moved between m n)
    (and_from (nat_le m from) (nat_lt from n) (le-leb m from low) (lt-ltb from n (omega (arith, high, up))))
moved_between top m n (Look seen ∷ between) after before moves =
    moved_between top m n between (All-tail (IsBefore (Drawn m)) (Look seen) between after) (All-tail (λ e. IsBefore e (Drawn n)) (Look seen) between before)
    (All-tail (IsMove top) (Look seen) between moves)

-- no move after the second draw is
moved_back : (m n : ℕ) (back : List Entry) → All (IsBefore (Drawn n)) back → is_moved back m n ≡ false
moved_back m n [] after = refl
moved_back m n (Drawn k ∷ back) after = moved_back m n back (All-tail (IsBefore (Drawn n)) (Drawn k) back after)
moved_back m n (Moved from to ∷ back) after =
    let low = All-head (IsBefore (Drawn n)) (Moved from to) back after in
    or_from (nat_le m from && nat_lt from n) (is_moved back m n) (and_right (nat_le m from) (nat_lt from n) (le-ltb from n low))
    (moved_back m n back (All-tail (IsBefore (Drawn n)) (Moved from to) back after))
moved_back m n (Look seen ∷ back) after = moved_back m n back (All-tail (IsBefore (Drawn n)) (Look seen) back after)

-- the moves of two lists
moved_append : (m n : ℕ) (xs ys : List Entry) → is_moved (xs ++ ys) m n ≡ (is_moved xs m n || is_moved ys m n)
moved_append m n xs ys = list_any-append (moves_between m n) xs ys

all_three : (a b c x y : Bool) → x ≡ (a || y) → y ≡ (b || c) → a ≡ false → c ≡ false → x ≡ b
all_three a b c x y = grind (arith, nat_tests)

-- a move is between two numbers of a history if and only if it stands between their draws
pub each_move_stands_between : EachMoveStandsBetween
each_move_stands_between top m n front between back ordered moves =
    let rest = Drawn m ∷ (between ++ Drawn n ∷ back) in
    let after = AllPairs-right IsBefore front rest ordered in
    let later = AllPairs-tail IsBefore (Drawn m) (between ++ Drawn n ∷ back) after in
    let before_m = All-head (λ y. All (λ x. IsBefore x y) front) (Drawn m) (between ++ Drawn n ∷ back) (pairs_across IsBefore front rest ordered) in
    let after_m = all_left (IsBefore (Drawn m)) between (Drawn n ∷ back) (AllPairs-head IsBefore (Drawn m) (between ++ Drawn n ∷ back) after) in
    let before_n = All-head (λ y. All (λ x. IsBefore x y) between) (Drawn n) back (pairs_across IsBefore between (Drawn n ∷ back) later) in
    let after_n = AllPairs-head IsBefore (Drawn n) back (AllPairs-right IsBefore between (Drawn n ∷ back) later) in
    let moves_front = all_left (IsMove top) front rest moves in
    let moves_between_them = all_left (IsMove top) between (Drawn n ∷ back) (All-tail (IsMove top) (Drawn m) (between ++ Drawn n ∷ back) (all_right (IsMove top) front rest moves)) in
    all_three (is_moved front m n) (is_moved between m n) (is_moved back m n) (is_moved (front ++ rest) m n) (is_moved (between ++ Drawn n ∷ back) m n)
    (moved_append m n front rest) (moved_append m n between (Drawn n ∷ back))
    (moved_front top m n front before_m moves_front) (moved_back m n back after_n)
    ∙ moved_between top m n between after_m before_n moves_between_them

-- ---- places

-- what holds of the number of each draw
abbrev OfDraw : (ℕ → Type 0) → Entry → Type 0
OfDraw P (Drawn n) = P n
OfDraw P (Moved from to) = Unit {0}
OfDraw P (Look seen) = Unit {0}

-- if it holds of each draw, it holds of all drawn numbers
all_drawn : (P : ℕ → Type 0) (xs : List Entry) → All (OfDraw P) xs → All P (drawn xs)
all_drawn P [] all = All-nil P
all_drawn P (Drawn n ∷ xs) all = All-cons P n (drawn xs) (All-head (OfDraw P) (Drawn n) xs all) (all_drawn P xs (All-tail (OfDraw P) (Drawn n) xs all))
all_drawn P (Moved from to ∷ xs) all = all_drawn P xs (All-tail (OfDraw P) (Moved from to) xs all)
all_drawn P (Look seen ∷ xs) all = all_drawn P xs (All-tail (OfDraw P) (Look seen) xs all)

-- if no entry is a move, no move is between two numbers
not_moved : (m n : ℕ) (xs : List Entry) → list_any is_move xs ≡ false → is_moved xs m n ≡ false
not_moved m n [] none = refl
not_moved m n (Drawn k ∷ xs) none = not_moved m n xs none
not_moved m n (Moved from to ∷ xs) none = absurd (let no : ⊥ = cc in no)
not_moved m n (Look seen ∷ xs) none = not_moved m n xs none

-- whether a drawn number counts for the place of a number
abbrev counts : List Entry → ℕ → ℕ → Bool
counts history n m = nat_le m n && not (is_moved history m n)

-- a number that isn't above does, if no move is between
counts_from : (history : List Entry) (n m : ℕ) → m ≤ n → is_moved history m n ≡ false → counts history n m ≡ true
counts_from history n m low none = and_from (nat_le m n) (not (is_moved history m n)) (le-leb m n low) (ap not none)

-- a number with a move between doesn't
moved_apart : (history : List Entry) (n m : ℕ) → is_moved history m n ≡ true → counts history n m ≡ false
moved_apart history n m some = and_right (nat_le m n) (not (is_moved history m n)) (ap not some)

-- a number that is drawn later doesn't
back_apart : (history : List Entry) (n : ℕ) (e : Entry) → IsBefore (Drawn n) e → OfDraw (λ m. counts history n m ≡ false) e
back_apart history n (Drawn m) after = and_left (nat_le m n) (not (is_moved history m n)) (lt-leb m n after)
back_apart history n (Moved from to) after = tt
back_apart history n (Look seen) after = tt

-- the draws before a move at the end are of another period
before_move : (n from to m : ℕ) (rest tail : List Entry) → m ≤ from → from < n → is_moved ((rest ++ Moved from to ∷ []) ++ tail) m n ≡ true
before_move n from to m rest tail low high =
    moved_append m n (rest ++ Moved from to ∷ []) tail
    ∙ or_left (is_moved (rest ++ Moved from to ∷ []) m n) (is_moved tail m n)
    (moved_append m n rest (Moved from to ∷ [])
    ∙ or_right (is_moved rest m n) (is_moved (Moved from to ∷ []) m n)
    (or_left (nat_le m from && nat_lt from n) false (and_from (nat_le m from) (nat_lt from n) (le-leb m from low) (lt-ltb from n high))))

front_of : (n from to : ℕ) (rest tail : List Entry) → from < n → (e : Entry) → IsBefore e (Moved from to)
    → OfDraw (λ m. counts ((rest ++ Moved from to ∷ []) ++ tail) n m ≡ false) e
front_of n from to rest tail high (Drawn m) before =
    moved_apart ((rest ++ Moved from to ∷ []) ++ tail) n m (before_move n from to m rest tail before high)
front_of n from to rest tail high (Moved other last) before = tt
front_of n from to rest tail high (Look seen) before = tt

-- two lists of which all is such
all_append : {X : Type 0} (P : X → Type 0) (xs ys : List X) → All P xs → All P ys → All P (xs ++ ys)
all_append P [] ys these those = those
all_append P (x ∷ xs) ys these those = All-cons P x (xs ++ ys) (All-head P x xs these) (all_append P xs ys (All-tail P x xs these) those)

-- no draw before the period does
front_apart : (top n : ℕ) (front tail : List Entry) → All (λ e. IsBefore e (Drawn n)) front → All (IsMove top) front → IsInOrder front → EndsPeriod front
    → All (OfDraw (λ m. counts (front ++ tail) n m ≡ false)) front
front_apart top n front tail before moves ordered (inl none) =
    subst (λ (xs : List Entry). All (OfDraw (λ m. counts (xs ++ tail) n m ≡ false)) xs) (sym none) (All-nil (OfDraw (λ m. counts tail n m ≡ false)))
front_apart top n front tail before moves ordered (inr (rest, from, to, is)) =
    let last = Moved from to ∷ [] in
    let before_n = All-head (λ e. IsBefore e (Drawn n)) (Moved from to) [] (all_right (λ e. IsBefore e (Drawn n)) rest last (subst (λ (xs : List Entry). All (λ e. IsBefore e (Drawn n)) xs) is before)) in
    let (up, within) = All-head (IsMove top) (Moved from to) [] (all_right (IsMove top) rest last (subst (λ (xs : List Entry). All (IsMove top) xs) is moves)) in
    let pairs = All-head (λ y. All (λ x. IsBefore x y) rest) (Moved from to) [] (pairs_across IsBefore rest last (subst IsInOrder is ordered)) in
    let these = All-weaker (λ e. IsBefore e (Moved from to)) (OfDraw (λ m. counts ((rest ++ last) ++ tail) n m ≡ false))
    (λ e before. front_of n from to rest tail (omega (arith, before_n, up)) e before) rest pairs in
    let whole = all_append (OfDraw (λ m. counts ((rest ++ last) ++ tail) n m ≡ false)) rest last these
    (All-cons (OfDraw (λ m. counts ((rest ++ last) ++ tail) n m ≡ false)) (Moved from to) [] tt (All-nil (OfDraw (λ m. counts ((rest ++ last) ++ tail) n m ≡ false)))) in
    subst (λ (xs : List Entry). All (OfDraw (λ m. counts (xs ++ tail) n m ≡ false)) xs) (sym is) whole

-- each draw since the period began does
since_of : (top n : ℕ) (front since back : List Entry) → All (IsMove top) front → list_any is_move since ≡ false → All (IsBefore (Drawn n)) back
    → (e : Entry) → All (λ x. IsBefore x e) front → IsBefore e (Drawn n) → OfDraw (λ m. counts (front ++ (since ++ Drawn n ∷ back)) n m ≡ true) e
since_of top n front since back moves none past (Drawn m) after before =
    counts_from (front ++ (since ++ Drawn n ∷ back)) n m (omega (arith, before))
    (all_three (is_moved front m n) (is_moved since m n) (is_moved back m n) (is_moved (front ++ (since ++ Drawn n ∷ back)) m n) (is_moved (since ++ Drawn n ∷ back) m n)
    (moved_append m n front (since ++ Drawn n ∷ back)) (moved_append m n since (Drawn n ∷ back)) (moved_front top m n front after moves) (moved_back m n back past)
    ∙ not_moved m n since none)
since_of top n front since back moves none past (Moved from to) after before = tt
since_of top n front since back moves none past (Look seen) after before = tt

-- the place of a number of a history is its position among the draws since its period began
pub each_place_is_a_position : EachPlaceIsAPosition
each_place_is_a_position top n front since back ordered moves ends none =
    let tail = since ++ Drawn n ∷ back in
    let history = front ++ tail in
    let p : ℕ → Bool = counts history n in
    let after = AllPairs-right IsBefore front tail ordered in
    let back_after = AllPairs-head IsBefore (Drawn n) back (AllPairs-right IsBefore since (Drawn n ∷ back) after) in
    let across = pairs_across IsBefore front tail ordered in
    let front_since = all_left (λ y. All (λ x. IsBefore x y) front) since (Drawn n ∷ back) across in
    let front_n = All-head (λ y. All (λ x. IsBefore x y) front) (Drawn n) back (all_right (λ y. All (λ x. IsBefore x y) front) since (Drawn n ∷ back) across) in
    let since_n = All-head (λ y. All (λ x. IsBefore x y) since) (Drawn n) back (pairs_across IsBefore since (Drawn n ∷ back) after) in
    let moves_front = all_left (IsMove top) front tail moves in
    let no_front = filter_none p (drawn front) (all_drawn (λ m. p m ≡ false) front (front_apart top n front tail front_n moves_front (AllPairs-left IsBefore front tail ordered) ends)) in
    let all_since = filter_all p (drawn since) (all_drawn (λ m. p m ≡ true) since
    (λ k d inside. since_of top n front since back moves_front none back_after (get_or since k d) (front_since k d inside) (since_n k d inside))) in
    let no_back = filter_none p (drawn back) (all_drawn (λ m. p m ≡ false) back (All-weaker (IsBefore (Drawn n)) (OfDraw (λ m. p m ≡ false)) (back_apart history n) back back_after)) in
    let itself = counts_from history n n (omega arith) (not_moved_down history n n (omega arith)) in
    let here = cond-true (p n) (n ∷ filter p (drawn back)) (filter p (drawn back)) itself in
    let cut = ap (filter p) (flat_map-append drawn_by front tail ∙ ap (λ (ns : List ℕ). drawn front ++ ns) (flat_map-append drawn_by since (Drawn n ∷ back))) in
    let outer = filter-append p (drawn front) (drawn since ++ n ∷ drawn back) in
    let inner = filter-append p (drawn since) (n ∷ drawn back) in
    let whole = ap length (cut ∙ outer) ∙ length-append (filter p (drawn front)) (filter p (drawn since ++ n ∷ drawn back)) in
    let parts = ap length inner ∙ length-append (filter p (drawn since)) (filter p (n ∷ drawn back)) in
    let a = ap length no_front in let b = ap length all_since in let c = ap length here in let d = ap length no_back in
    omega (arith, whole, parts, a, b, c, d)
