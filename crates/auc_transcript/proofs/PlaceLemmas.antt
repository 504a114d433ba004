-- For the laws: the places of a subscriber's numbers, if two of them are of one period.
use Rattle.std.proofs.Common.{◌≡◌, ℕ, zero, suc, ◌+◌, ◌-◌, ◌<◌, ◌≤◌, ◌==◌, ◌&&◌, ◌||◌, not, nat_lt, nat_le, Bool, true, false, cond, List, [], ◌∷◌, refl, sym, ◌∙◌, ap, arith, add-zero}
use Rattle.std.specs.Prelude.{if◌then◌else◌, count_by}
use Rattle.std.proofs.lemmas.Bool.{cond-true, cond-false}
use Rattle.std.proofs.lemmas.Bool.Decides.{nat_tests}
use Rattle.std.proofs.lemmas.List.Sums.{sum_by-cons, length-filter}
use Rattle.auc_history.specs.declared.entry.Entry.{Entry}
use Rattle.auc_history.specs.declared.entry.Entry.TheVariants.{Drawn, Moved, Look}
use Rattle.auc_history.specs.History.{numbers_after, covered, drawn}
use Rattle.auc_history.specs.Split.{all_entries, times}
use Rattle.auc_history.proofs.Facts.{times-cons, times-append, times-drawn, times-numbers_after}
use Rattle.auc_record.specs.Lines.{is_in}
use Rattle.auc_transcript.specs.Headline.{is_moved, is_later, place_in, place_of}
use Rattle.auc_transcript.proofs.LineLemmas.{times-from_is_in, is_in-from_times}
use Rattle.auc_transcript.proofs.RoundLemmas.{CoversRange, times-drawn-append}
use Rattle.auc_transcript.proofs.StretchLemmas.{AreAbove, AreStretches}

-- ---- moves between two numbers of a stretch

-- one move, before the others
moved_within_step : (from m a b n : ℕ) (rest inner : Bool) → m ≤ a → b ≤ n → ((nat_le m from && nat_lt from n) || rest) ≡ false → (rest ≡ false → inner ≡ false)
    → ((nat_le a from && nat_lt from b) || inner) ≡ false
moved_within_step from m a b n rest inner = grind (arith, nat_tests)

-- if no move is between two numbers, none is between two numbers within them
moved_within : (entries : List Entry) (m a b n : ℕ) → m ≤ a → b ≤ n → is_moved entries m n ≡ false → is_moved entries a b ≡ false
moved_within [] m a b n low high none = refl
moved_within (Drawn k ∷ entries) m a b n low high none = moved_within entries m a b n low high none
moved_within (Moved from to ∷ entries) m a b n low high none =
    moved_within_step from m a b n (is_moved entries m n) (is_moved entries a b) low high none (moved_within entries m a b n low high)
moved_within (Look seen ∷ entries) m a b n low high none = moved_within entries m a b n low high none

-- no move lies between a number and one that isn't above it
not_moved_step : (from m n : ℕ) (rest : Bool) → n ≤ m → rest ≡ false → ((nat_le m from && nat_lt from n) || rest) ≡ false
not_moved_step from m n rest = grind (arith, nat_tests)

pub not_moved_down : (entries : List Entry) (m n : ℕ) → n ≤ m → is_moved entries m n ≡ false
not_moved_down [] m n down = refl
not_moved_down (Drawn k ∷ entries) m n down = not_moved_down entries m n down
not_moved_down (Moved from to ∷ entries) m n down = not_moved_step from m n (is_moved entries m n) down (not_moved_down entries m n down)
not_moved_down (Look seen ∷ entries) m n down = not_moved_down entries m n down

-- if no move begins at a number, the moves that begin below it are those that begin below the next
moved_same_step : (from j k : ℕ) (rest more less : Bool) → j ≤ k → ((nat_le k from && nat_lt from (k + 1)) || rest) ≡ false → (rest ≡ false → more ≡ less)
    → ((nat_le j from && nat_lt from (k + 1)) || more) ≡ ((nat_le j from && nat_lt from k) || less)
moved_same_step from j k rest more less = grind (arith, nat_tests)

moved_same : (entries : List Entry) (j k : ℕ) → j ≤ k → is_moved entries k (k + 1) ≡ false → is_moved entries j (k + 1) ≡ is_moved entries j k
moved_same [] j k low none = refl
moved_same (Drawn n ∷ entries) j k low none = moved_same entries j k low none
moved_same (Moved from to ∷ entries) j k low none =
    moved_same_step from j k (is_moved entries k (k + 1)) (is_moved entries j (k + 1)) (is_moved entries j k) low none (moved_same entries j k low)
moved_same (Look seen ∷ entries) j k low none = moved_same entries j k low none

-- ---- places in a stretch

-- whether one number counts for the next, by whether it counts for the one before
counted_step : (x k : ℕ) (up up_before : Bool) → (x ≤ k → up ≡ up_before) → (k + 1 ≤ x → up ≡ false)
    → ◌≡◌ {A = ℕ} (cond (nat_le x (k + 1) && not up) 1 0) (cond (nat_le x k && not up_before) 1 0 + cond (x == k + 1) 1 0)
counted_step x k up up_before = grind (arith, nat_tests)

-- how many of some numbers are at most a number, with no move between
abbrev counted : List Entry → ℕ → List ℕ → ℕ
counted entries n numbers = count_by (λ m. nat_le m n && not (is_moved entries m n)) numbers

-- if no move is between a number and the next, the same numbers count for the next, and the next itself
counted_next : (entries : List Entry) (k : ℕ) (numbers : List ℕ) → is_moved entries k (k + 1) ≡ false
    → counted entries (k + 1) numbers ≡ counted entries k numbers + times (k + 1) numbers
counted_next entries k [] none = refl
counted_next entries k (x ∷ numbers) none =
    let rest = counted_next entries k numbers none in
    let these = sum_by-cons (λ (m : ℕ). cond (nat_le m (k + 1) && not (is_moved entries m (k + 1))) 1 0) x numbers in
    let those = sum_by-cons (λ (m : ℕ). cond (nat_le m k && not (is_moved entries m k)) 1 0) x numbers in
    let itself = times-cons (k + 1) x numbers in
    let here = counted_step x k (is_moved entries x (k + 1)) (is_moved entries x k)
    (λ low. moved_same entries x k low none) (λ high. not_moved_down entries x (k + 1) high) in
    omega (arith, rest, these, those, itself, here)

-- if the next number is drawn once, it has the next place
place_next : (entries : List Entry) (k : ℕ) → is_moved entries k (k + 1) ≡ false → times (k + 1) (drawn entries) ≡ 1 → place_in entries (k + 1) ≡ place_in entries k + 1
place_next entries k none once =
    let these = length-filter (λ (m : ℕ). nat_le m (k + 1) && not (is_moved entries m (k + 1))) (drawn entries) in
    let those = length-filter (λ (m : ℕ). nat_le m k && not (is_moved entries m k)) (drawn entries) in
    let next = counted_next entries k (drawn entries) none in
    omega (arith, these, those, next, once)

-- a number that is further by some numbers is further by as many places
place_rises : (entries : List Entry) (m gap : ℕ) → is_moved entries m (m + gap) ≡ false → ((k : ℕ) → m < k → k ≤ m + gap → times k (drawn entries) ≡ 1)
    → place_in entries (m + gap) ≡ place_in entries m + gap
place_rises entries m zero none once = ap (place_in entries) (add-zero m) ∙ sym (add-zero (place_in entries m))
place_rises entries m (suc gap) none once =
    let before = place_rises entries m gap (moved_within entries m m (m + gap) (m + suc gap) (omega arith) (omega arith) none) (λ k low high. once k low (omega arith)) in
    let up : m + suc gap ≡ m + gap + 1 = omega arith in
    let next = place_next entries (m + gap) (moved_within entries m (m + gap) (m + gap + 1) (m + suc gap) (omega arith) (omega arith) none)
    (once (m + gap + 1) (omega arith) (omega arith)) in
    ap (place_in entries) up ∙ (let whole : place_in entries (m + gap + 1) ≡ place_in entries m + suc gap = omega (arith, before, next) in whole)

-- ---- drawn numbers of a stretch

-- a move over a second number that doesn't begin between the first and the second passes over the first too
moved_over : (from many m k n : ℕ) (rest : Bool) → m < k → k ≤ n → ((nat_le m from && nat_lt from n) || rest) ≡ false
    → (if nat_lt from k && nat_le k (from + many) then 1 else 0) ≤ (if nat_lt from m && nat_le m (from + many) then 1 else 0)
moved_over from many m k n rest = grind (arith, nat_tests)

-- if no move is between two numbers, none of the further ones is
moved_rest : (a rest : Bool) → (a || rest) ≡ false → rest ≡ false
moved_rest true rest none = absurd (let no : ⊥ = cc in no)
moved_rest false rest none = none

-- entries that move over a number move over a lesser one too, if no move begins between the two
covers_both : (entries : List Entry) (m k n : ℕ) → m < k → k ≤ n → is_moved entries m n ≡ false
    → times k (covered entries) + times m (drawn entries) ≤ times k (drawn entries) + times m (covered entries)
covers_both [] m k n low high none = omega arith
covers_both (Drawn j ∷ entries) m k n low high none =
    let rest = covers_both entries m k n low high none in
    let a = times-cons k j (covered entries) in let b = times-cons m j (drawn entries) in
    let c = times-cons k j (drawn entries) in let d = times-cons m j (covered entries) in
    omega (arith, rest, a, b, c, d)
covers_both (Moved from to ∷ entries) m k n low high none =
    let rest = covers_both entries m k n low high (moved_rest (nat_le m from && nat_lt from n) (is_moved entries m n) none) in
    let a = times-append k (numbers_after from (to - from)) (covered entries) in
    let b = times-append m (numbers_after from (to - from)) (covered entries) in
    let c = times-numbers_after k (to - from) from in
    let d = times-numbers_after m (to - from) from in
    let over = moved_over from (to - from) m k n (is_moved entries m n) low high none in
    omega (arith, rest, a, b, c, d, over)
covers_both (Look seen ∷ entries) m k n low high none = covers_both entries m k n low high none

-- a number that is counted at all is in the range
in_range : (n low high : ℕ) → 1 ≤ (if nat_lt low n && nat_le n high then 1 else 0) → (low < n) × (n ≤ high)
in_range n low high = grind (arith, nat_tests)

-- each number of the range is counted once
range_counts : (n low high : ℕ) → low < n → n ≤ high → ◌≡◌ {A = ℕ} (if nat_lt low n && nat_le n high then 1 else 0) 1
range_counts n low high = grind (arith, nat_tests)

-- a drawn number is in the range
drawn_in_range : (top low high : ℕ) (entries : List Entry) (n : ℕ) → CoversRange top low high entries → n ≤ top → 1 ≤ times n (drawn entries) → (low < n) × (n ≤ high)
drawn_in_range top low high entries n covers within there =
    let more = times-drawn n entries in let once = covers.once n within in in_range n low high (omega (arith, there, more, once))

-- between two drawn numbers with no move between each is drawn once
drawn_between : (top low high : ℕ) (entries : List Entry) (m k n : ℕ) → CoversRange top low high entries → n ≤ top → 1 ≤ times m (drawn entries) → 1 ≤ times n (drawn entries)
    → is_moved entries m n ≡ false → m < k → k ≤ n → times k (drawn entries) ≡ 1
drawn_between top low high entries m k n covers within first last none above below =
    let (m_low, m_high) = drawn_in_range top low high entries m covers (omega arith) first in
    let (n_low, n_high) = drawn_in_range top low high entries n covers within last in
    let m_once = covers.once m (omega arith) ∙ range_counts m low high m_low m_high in
    let k_once = covers.once k (omega arith) ∙ range_counts k low high (omega arith) (omega arith) in
    let both = covers_both entries m k n above below none in
    let most = times-drawn k entries in
    omega (arith, m_once, k_once, both, most, first)

-- two drawn numbers of a stretch with no move between are as far apart as their places
place_apart : (top low high : ℕ) (entries : List Entry) (m n : ℕ) → CoversRange top low high entries → m ≤ n → n ≤ top
    → 1 ≤ times m (drawn entries) → 1 ≤ times n (drawn entries) → is_moved entries m n ≡ false → place_in entries n ≡ place_in entries m + (n - m)
place_apart top low high entries m n covers up within first last none =
    let to : m + (n - m) ≡ n = omega arith in
    let rises = place_rises entries m (n - m) (rw to none) (λ k above below. drawn_between top low high entries m k n covers within first last none above (omega arith)) in
    ap (place_in entries) (sym to) ∙ rises

-- ---- stretches

-- a test of two numbers, if no move is between them and no later stretch draws the second
not_later_step : (first later here moved rest : Bool) → (first ≡ true → later ≡ true → ⊥) → moved ≡ false → rest ≡ false
    → ((first && (later || (here && moved))) || rest) ≡ false
not_later_step true true here moved rest apart none more = absurd (apart refl refl)
not_later_step true false true moved rest apart none more = cc
not_later_step true false false moved rest apart none more = more
not_later_step false later here moved rest apart none more = more

-- no number is of a later period than one that it isn't above
pub not_later_down : (top : ℕ) (stretches : List (List Entry)) (m n : ℕ) → AreStretches top stretches → m ≤ top → n ≤ m → is_later stretches m n ≡ false
not_later_down top [] m n are within down = refl
not_later_down top (entries ∷ more) m n (covers, apart, are) within down =
    not_later_step (is_in m (drawn entries)) (is_in n (drawn (all_entries more))) (is_in n (drawn entries)) (is_moved entries m n) (is_later more m n)
    (λ first later.
    let up = apart.above m n within (omega arith) (times-from_is_in m (drawn entries) first) (times-from_is_in n (drawn (all_entries more)) later) in omega arith)
    (not_moved_down entries m n down) (not_later_down top more m n are within down)

-- if the second of two numbers of a stretch is of no later period, no move is between them
same_stretch : (first later here moved rest : Bool) → first ≡ true → here ≡ true → ((first && (later || (here && moved))) || rest) ≡ false → moved ≡ false
same_stretch first later here moved rest = grind (arith, nat_tests)

-- if the second is of no later period, no later stretch draws it
not_in_later : (first later here moved rest : Bool) → first ≡ true → ((first && (later || (here && moved))) || rest) ≡ false → later ≡ false
not_in_later first later here moved rest = grind (arith, nat_tests)

-- if the second is of no later period, it is of no later period of the later stretches
later_rest : (first rest : Bool) → (first || rest) ≡ false → rest ≡ false
later_rest first rest = grind (arith, nat_tests)

-- what the stretches draw and the first doesn't, the later ones draw
drawn_more : (n : ℕ) (entries : List Entry) (more : List (List Entry)) → 1 ≤ times n (drawn (all_entries (entries ∷ more))) → is_in n (drawn entries) ≡ false
    → 1 ≤ times n (drawn (all_entries more))
drawn_more n entries more there none =
    let cut = times-drawn-append n entries (all_entries more) in
    few (times n (drawn entries)) (times n (drawn (all_entries more))) (times n (drawn (all_entries (entries ∷ more)))) cut there
    (λ some. let is = is_in-from_times n (drawn entries) some in let no : ⊥ = cc in no)
  where
    few : (here later all : ℕ) → all ≡ here + later → 1 ≤ all → (1 ≤ here → ⊥) → 1 ≤ later
    few zero later all cut there none = omega (arith, cut, there)
    few (suc here) later all cut there none = absurd (none (omega arith))

-- places of two numbers, by whether the first stretch drew each
apart_cases : (top : ℕ) (entries : List Entry) (more : List (List Entry)) (low high m n : ℕ) → CoversRange top low high entries → AreAbove top (drawn entries) more → m ≤ n → n ≤ top
    → 1 ≤ times m (drawn (all_entries (entries ∷ more))) → 1 ≤ times n (drawn (all_entries (entries ∷ more))) → is_later (entries ∷ more) m n ≡ false
    → (1 ≤ times m (drawn (all_entries more)) → 1 ≤ times n (drawn (all_entries more)) → is_later more m n ≡ false → place_of more n ≡ place_of more m + (n - m))
    → (a b : Bool) → is_in m (drawn entries) ≡ a → is_in n (drawn entries) ≡ b → place_of (entries ∷ more) n ≡ place_of (entries ∷ more) m + (n - m)
apart_cases top entries more low high m n covers apart up within first last none rest true true is_m is_n =
    let moved = same_stretch (is_in m (drawn entries)) (is_in n (drawn (all_entries more))) (is_in n (drawn entries)) (is_moved entries m n) (is_later more m n) is_m is_n none in
    let here = place_apart top low high entries m n covers up within (times-from_is_in m (drawn entries) is_m) (times-from_is_in n (drawn entries) is_n) moved in
    let place_m = cond-true (is_in m (drawn entries)) (place_in entries m) (place_of more m) is_m in
    let place_n = cond-true (is_in n (drawn entries)) (place_in entries n) (place_of more n) is_n in
    omega (arith, here, place_m, place_n)
apart_cases top entries more low high m n covers apart up within first last none rest true false is_m is_n =
    let there = is_in-from_times n (drawn (all_entries more)) (drawn_more n entries more last is_n) in
    let not_there = not_in_later (is_in m (drawn entries)) (is_in n (drawn (all_entries more))) (is_in n (drawn entries)) (is_moved entries m n) (is_later more m n) is_m none in
    absurd (let no : ⊥ = cc in no)
apart_cases top entries more low high m n covers apart up within first last none rest false true is_m is_n =
    let down = apart.above n m within (omega arith) (times-from_is_in n (drawn entries) is_n) (drawn_more m entries more first is_m) in absurd (omega arith)
apart_cases top entries more low high m n covers apart up within first last none rest false false is_m is_n =
    let there = rest (drawn_more m entries more first is_m) (drawn_more n entries more last is_n)
    (later_rest (is_in m (drawn entries) && (is_in n (drawn (all_entries more)) || (is_in n (drawn entries) && is_moved entries m n))) (is_later more m n) none) in
    let place_m = cond-false (is_in m (drawn entries)) (place_in entries m) (place_of more m) is_m in
    let place_n = cond-false (is_in n (drawn entries)) (place_in entries n) (place_of more n) is_n in
    omega (arith, there, place_m, place_n)

-- two drawn numbers of one period are as far apart as their places
pub places_apart : (top : ℕ) (stretches : List (List Entry)) (m n : ℕ) → AreStretches top stretches → m ≤ n → n ≤ top
    → 1 ≤ times m (drawn (all_entries stretches)) → 1 ≤ times n (drawn (all_entries stretches)) → is_later stretches m n ≡ false
    → place_of stretches n ≡ place_of stretches m + (n - m)
places_apart top [] m n are up within first last none = absurd (omega (arith, first))
places_apart top (entries ∷ more) m n ((low, high, covers), apart, are) up within first last none =
    apart_cases top entries more low high m n covers apart up within first last none (λ m_there n_there none. places_apart top more m n are up within m_there n_there none)
    (is_in m (drawn entries)) (is_in n (drawn entries)) refl refl
