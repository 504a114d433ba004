-- How the lists of several callers split one history of a subscriber's numbers.
use Rattle.std.specs.Prelude.{◌≡◌, ℕ, ◌+◌, ◌<◌, ◌≤◌, ◌&&◌, ◌==◌, ◌≢◌, nat_lt, nat_le, if◌then◌else◌, List, All, AllPairs, count_by, flat_map, length}
use Rattle.auc_history.specs.declared.entry.Entry.{Entry}
use Rattle.auc_history.specs.History.{covered, IsMove, IsFound, IsInOrder, IsLegal, drawn, skipped}

-- the entries of all lists, one list after the other
abbrev pub all_entries : List (List Entry) → List Entry
all_entries lists = flat_map (λ entries. entries) lists

-- how often a number stands in a list
abbrev pub times : ℕ → List ℕ → ℕ
times n numbers = count_by (λ m. m == n) numbers

-- the callers' lists split a history from the opening to the closing
pub record Splits (top opening closing : ℕ) (lists : List (List Entry)) : Type 0 where
  -- the closing is no less than the opening
  pub forward : opening ≤ closing
  -- each number above the opening up to the closing is covered once, and no other is covered
  pub once : (n : ℕ) → times n (covered (all_entries lists)) ≡ (if nat_lt opening n && nat_le n closing then 1 else 0)
  -- in each list each entry continues those before it
  pub ordered : All IsInOrder lists
  -- each move goes up, and to a number
  pub moves : All (IsMove top) (all_entries lists)
  -- each look found the opening, or the last number that some entry of some list covers
  pub looks : All (IsFound opening (all_entries lists)) (all_entries lists)

-- a legal history that is cut into lists is split by them
abbrev pub CutHistoryIsASplit : Type 0
CutHistoryIsASplit = (top opening closing : ℕ) (lists : List (List Entry))
    → IsLegal top opening closing (all_entries lists) → Splits top opening closing lists

-- no number is drawn twice in a split, and each drawn one is above the opening and at most the closing
pub record DrawsEachOnce (opening closing : ℕ) (numbers : List ℕ) : Type 0 where
  pub differ : AllPairs ◌≢◌ numbers
  pub above : All (λ n. opening < n) numbers
  pub within : All (λ n. n ≤ closing) numbers

abbrev pub SplitDrawsNoNumberTwice : Type 0
SplitDrawsNoNumberTwice = (top opening closing : ℕ) (lists : List (List Entry))
    → Splits top opening closing lists → DrawsEachOnce opening closing (drawn (all_entries lists))

-- the closing is the opening, the drawn numbers and the skipped ones together
abbrev pub SplitCountsItsNumbers : Type 0
SplitCountsItsNumbers = (top opening closing : ℕ) (lists : List (List Entry)) → Splits top opening closing lists
    → closing ≡ opening + length (drawn (all_entries lists)) + skipped (all_entries lists)
