-- For the laws: how often lines name a number of a subscriber.
use Rattle.std.proofs.Common.{◌≡◌, ℕ, zero, suc, ◌+◌, ◌≤◌, ◌==◌, ◌||◌, Bool, true, false, cond, ◌<◌, List, [], ◌∷◌, ◌++◌, length, map, get_or, All, Contains, Option, Some, None, refl, sym, ◌∙◌, ap, subst, arith, inl, inr, append_assoc}
use Rattle.std.proofs.Math.ListN.{get_or-map, length-map}
use Rattle.std.proofs.lemmas.Bool.{cases_eq}
use Rattle.std.proofs.lemmas.Bool.Decides.{nat_tests}
use Rattle.std.proofs.lemmas.List.Concat.{flat_map-append}
use Rattle.std.proofs.lemmas.List.Elements.{All-contains}
use Rattle.auc_history.specs.declared.entry.Entry.{Entry}
use Rattle.auc_history.specs.declared.entry.Entry.TheVariants.{Drawn}
use Rattle.auc_history.specs.History.{drawn, drawn_by}
use Rattle.auc_history.specs.Split.{times}
use Rattle.auc_history.proofs.Facts.{times-cons, times-append, times_at}
use Rattle.auc_sqn.specs.Number.{most_bits, sqn_bytes, top_of}
use Rattle.auc_sqn.proofs.Facts.{each_number_has_its_own_sqn}
use Rattle.auc_vector.specs.declared.notes.NumberNote.{NumberNote}
use Rattle.auc_vector.specs.declared.notes.NumberNote.TheVariants as number
use Rattle.auc_record.specs.Event.{number_released}
use Rattle.auc_record.specs.declared.record.LineRecord.{LineRecord}
use Rattle.auc_record.specs.Lines.{released_by, number_by, numbers_of, is_in, resync_by}
use Rattle.auc_record.specs.Entries.{entries_of_lines, entries_of_number, entries_of_resync}

-- ---- how often a number stands in a list

-- a number that stands in a list is one of its elements
pub Contains-from_times : (n : ℕ) (xs : List ℕ) → 1 ≤ times n xs → Contains xs n
Contains-from_times n [] there = absurd (omega arith)
Contains-from_times n (x ∷ xs) there =
    elim (cases_eq x n) [
      | inl same ↦ (zero, omega arith, same)
      | inr other ↦ later (Contains-from_times n xs (let cut = times-cons n x xs in grind (arith, nat_tests)))
    ]
  where
    later : Contains xs n → Contains (x ∷ xs) n
    later (k, k<n, at) = (suc k, omega arith, at)

-- an element of a list stands in it
pub times-from_contains : (n : ℕ) (xs : List ℕ) → Contains xs n → 1 ≤ times n xs
times-from_contains n xs (k, k<n, at) = subst (λ (m : ℕ). 1 ≤ times m xs) at (times_at xs k n k<n)

-- what holds of each element holds of a number that stands there
pub All-times : (P : ℕ → Type 0) (n : ℕ) (xs : List ℕ) → All P xs → 1 ≤ times n xs → P n
All-times P n xs all there = All-contains P xs n all (Contains-from_times n xs there)

-- a number that is found stands there
pub times-from_is_in : (n : ℕ) (xs : List ℕ) → is_in n xs ≡ true → 1 ≤ times n xs
times-from_is_in n [] found = absurd (let no : ⊥ = cc in no)
times-from_is_in n (x ∷ xs) found =
    let cut = times-cons n x xs in
    let rest = times-from_is_in n xs in
    step (x == n) (is_in n xs) (times n xs) (times n (x ∷ xs)) cut found rest
  where
    step : (here later : Bool) (few all : ℕ) → all ≡ cond here 1 0 + few → (here || later) ≡ true → (later ≡ true → 1 ≤ few) → 1 ≤ all
    step true later few all cut found rest = omega arith
    step false later few all cut found rest = let some = rest found in omega arith

-- a number that stands in a list is found
pub is_in-from_times : (n : ℕ) (xs : List ℕ) → 1 ≤ times n xs → is_in n xs ≡ true
is_in-from_times n [] there = absurd (omega arith)
is_in-from_times n (x ∷ xs) there =
    let cut = times-cons n x xs in
    step (x == n) (is_in n xs) (times n xs) (times n (x ∷ xs)) cut there (is_in-from_times n xs)
  where
    step : (here later : Bool) (few all : ℕ) → all ≡ cond here 1 0 + few → 1 ≤ all → (1 ≤ few → later ≡ true) → (here || later) ≡ true
    step true later few all cut some rest = refl
    step false later few all cut some rest = rest (omega (arith, cut, some))

-- ---- released numbers are drawn

-- a number that stands no more often in one list than in another does so with one more element in both
times-further : (n m : ℕ) (xs ys : List ℕ) → times n xs ≤ times n ys → times n (m ∷ xs) ≤ times n (m ∷ ys)
times-further n m xs ys rest = let these = times-cons n m xs in let those = times-cons n m ys in omega (arith, these, those)

-- further entries draw no fewer numbers
drawn-further : (n : ℕ) (numbers : List ℕ) (xs ys : List Entry) → times n numbers ≤ times n (drawn ys) → times n numbers ≤ times n (drawn (xs ++ ys))
drawn-further n numbers xs ys rest =
    let cut = ap (times n) (flat_map-append drawn_by xs ys) ∙ times-append n (drawn xs) (drawn ys) in omega (arith, cut, rest)

-- the number that a line releases is drawn, after what a resynchronisation stands for
drawn-note : (n sub : ℕ) (before : List LineRecord) (note : Option NumberNote) (numbers : List ℕ) (entries : List Entry) → times n numbers ≤ times n (drawn entries)
    → times n (number_released note ++ numbers) ≤ times n (drawn (entries_of_number sub before note ++ entries))
drawn-note n sub before None numbers entries rest = rest
drawn-note n sub before (Some (number.Drew m)) numbers entries rest = times-further n m numbers (drawn entries) rest
drawn-note n sub before (Some (number.Exhausted word)) numbers entries rest = drawn-further n numbers (entries_of_number sub before (Some (number.Exhausted word))) entries rest
drawn-note n sub before (Some (number.Withheld m stop)) numbers entries rest = drawn-further n numbers (Drawn m ∷ []) entries rest

drawn-synced : (n sub : ℕ) (before : List LineRecord) (note : Option NumberNote) (synced : List Entry) (numbers : List ℕ) (entries : List Entry) → times n numbers ≤ times n (drawn entries)
    → times n (number_released note ++ numbers) ≤ times n (drawn ((synced ++ entries_of_number sub before note) ++ entries))
drawn-synced n sub before note synced numbers entries rest =
    let more = drawn-further n (number_released note ++ numbers) synced (entries_of_number sub before note ++ entries) (drawn-note n sub before note numbers entries rest) in
    subst (λ (es : List Entry). times n (number_released note ++ numbers) ≤ times n (drawn es)) (sym (append_assoc synced (entries_of_number sub before note) entries)) more

-- the numbers of the vectors of some lines are drawn by their entries
pub times-numbers : (n sub : ℕ) (before lines : List LineRecord) → times n (numbers_of sub lines) ≤ times n (drawn (entries_of_lines sub before lines))
times-numbers n sub before [] = omega arith
times-numbers n sub before (line ∷ lines) =
    drawn-synced n sub before (number_by sub line) (entries_of_resync sub before (resync_by sub line)) (numbers_of sub lines) (entries_of_lines sub (before ++ line ∷ []) lines)
    (times-numbers n sub (before ++ line ∷ []) lines)

-- ---- two lists of lines

-- how often two lists of lines release a number
pub times-numbers-append : (n sub : ℕ) (xs ys : List LineRecord) → times n (numbers_of sub (xs ++ ys)) ≡ times n (numbers_of sub xs) + times n (numbers_of sub ys)
times-numbers-append n sub xs ys = ap (times n) (flat_map-append (released_by sub) xs ys) ∙ times-append n (numbers_of sub xs) (numbers_of sub ys)

-- ---- SQNs

-- the SQN of a number of a list is one of the list's SQNs
pub Contains-sqns : (bits n : ℕ) (numbers : List ℕ) → 1 ≤ times n numbers → Contains (map (sqn_bytes bits) numbers) (sqn_bytes bits n)
Contains-sqns bits n numbers there =
    let (k, inside, at) = Contains-from_times n numbers there in
    let size = length-map numbers (sqn_bytes bits) in (k, omega (arith, size, inside), get_or-map (sqn_bytes bits) numbers k n ∙ ap (sqn_bytes bits) at)

-- a number stands in a list if its SQN is one of the list's, and all are numbers that vectors may have
pub times-from_sqns : (bits n : ℕ) (numbers : List ℕ) → bits ≤ most_bits → n ≤ top_of bits → All (λ m. m ≤ top_of bits) numbers → Contains (map (sqn_bytes bits) numbers) (sqn_bytes bits n)
    → 1 ≤ times n numbers
times-from_sqns bits n numbers few within all (k, k<n, at) =
    let size = length-map numbers (sqn_bytes bits) in
    let inside : k < length numbers = omega (arith, size, k<n) in
    let sqns = sym (get_or-map (sqn_bytes bits) numbers k n) ∙ at in
    let same = each_number_has_its_own_sqn bits (get_or numbers k n) n few (all k n inside) within sqns in
    subst (λ (m : ℕ). 1 ≤ times m numbers) same (times_at numbers k n inside)
