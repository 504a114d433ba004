-- The merge of callers' lists: the history that they split.
use Rattle.std.specs.Prelude.{◌≡◌, ℕ, ◌-◌, ◌==◌, Bool, false, List, ◌∷◌, ◌++◌, IsPermutation, filter, flat_map}
use Rattle.auc_history.specs.declared.entry.Entry.{Entry}
use Rattle.auc_history.specs.declared.entry.Entry.TheVariants.{Drawn, Moved, Look}
use Rattle.auc_history.specs.History.{numbers_after, IsLegal}
use Rattle.auc_history.specs.Split.{all_entries, Splits}

-- whether an entry covers a number as its last
abbrev pub is_last : ℕ → Entry → Bool
is_last n (Drawn m) = m == n
is_last n (Moved from to) = to == n
is_last n (Look seen) = false

-- whether an entry is a look at a number
abbrev pub is_look_at : ℕ → Entry → Bool
is_look_at n (Drawn m) = false
is_look_at n (Moved from to) = false
is_look_at n (Look seen) = seen == n

-- the entry that covers a number as its last, then the looks at the number
abbrev pub entries_at : List Entry → ℕ → List Entry
entries_at entries n = filter (is_last n) entries ++ filter (is_look_at n) entries

-- the merge of callers' lists: number by number, from the opening to the closing
abbrev pub merged : ℕ → ℕ → List (List Entry) → List Entry
merged opening closing lists = flat_map (entries_at (all_entries lists)) (opening ∷ numbers_after opening (closing - opening))

-- the merge of callers' lists is a legal history of their entries
pub record Merges (top opening closing : ℕ) (lists : List (List Entry)) : Type 0 where
  -- it is legal from the opening to the closing
  pub legal : IsLegal top opening closing (merged opening closing lists)
  -- each entry stands in it as often as in the lists: nothing is invented, nothing is lost
  pub same : IsPermutation (all_entries lists) (merged opening closing lists)

-- the merge of a split is a legal history of its entries
abbrev pub SplitIsMerged : Type 0
SplitIsMerged = (top opening closing : ℕ) (lists : List (List Entry))
    → Splits top opening closing lists → Merges top opening closing lists

-- a legal history that is cut into lists is their merge
abbrev pub CutHistoryMergesToItself : Type 0
CutHistoryMergesToItself = (top opening closing : ℕ) (lists : List (List Entry))
    → IsLegal top opening closing (all_entries lists) → merged opening closing lists ≡ all_entries lists
