-- Histories of a subscriber's numbers: what the atomic steps of the authentication centre did, one
-- after the other. `top` is the subscriber's greatest number.
use Rattle.std.specs.Prelude.{◌≡◌, ℕ, zero, suc, ◌+◌, ◌-◌, ◌<◌, ◌≤◌, ◌⊎◌, List, [], ◌∷◌, All, AllPairs, Any, Option, Some, None, flat_map, sum_by}
use Rattle.auc_history.specs.declared.entry.Entry.{Entry}
use Rattle.auc_history.specs.declared.entry.Entry.TheVariants.{Drawn, Moved, Look}

-- `count` numbers, rising from the one after `from`
abbrev pub numbers_after : ℕ → ℕ → List ℕ
numbers_after from zero = []
numbers_after from (suc count) = (from + 1) ∷ numbers_after (from + 1) count

-- the numbers that an entry covers: the drawn one, or those after a move's first up to its second
abbrev pub covers : Entry → List ℕ
covers (Drawn n) = n ∷ []
covers (Moved from to) = numbers_after from (to - from)
covers (Look seen) = []

-- the numbers that a list of entries covers, in the order of the entries
abbrev pub covered : List Entry → List ℕ
covered entries = flat_map covers entries

-- the last number that an entry covers
abbrev pub last_of : Entry → Option ℕ
last_of (Drawn n) = Some n
last_of (Moved from to) = Some to
last_of (Look seen) = None

-- a move goes up, and to a number
abbrev pub IsMove : ℕ → Entry → Type 0
IsMove top (Drawn n) = Unit {0}
IsMove top (Moved from to) = (from < to) × (to ≤ top)
IsMove top (Look seen) = Unit {0}

-- a look found the opening, or the last number that some entry covers
abbrev pub IsFound : ℕ → List Entry → Entry → Type 0
IsFound opening entries (Drawn n) = Unit {0}
IsFound opening entries (Moved from to) = Unit {0}
IsFound opening entries (Look seen) = (seen ≡ opening) ⊎ Any (λ e. last_of e ≡ Some seen) entries

-- how far an entry reaches: the last number that it covers, or the one that it looked at
abbrev pub reach_of : Entry → ℕ
reach_of (Drawn n) = n
reach_of (Moved from to) = to
reach_of (Look seen) = seen

-- the second entry continues the first: it covers only numbers above all that the first covered or
-- looked at, and a look finds no less
abbrev pub IsBefore : Entry → Entry → Type 0
IsBefore e (Drawn n) = reach_of e < n
IsBefore e (Moved from to) = reach_of e ≤ from
IsBefore e (Look seen) = reach_of e ≤ seen

-- each entry continues all before it
abbrev pub IsInOrder : List Entry → Type 0
IsInOrder entries = AllPairs IsBefore entries

-- the entries are a legal history from the opening to the closing
pub record IsLegal (top opening closing : ℕ) (entries : List Entry) : Type 0 where
  -- the closing is no less than the opening
  pub forward : opening ≤ closing
  -- the entries cover the numbers above the opening up to the closing, rising, each exactly once
  pub rising : covered entries ≡ numbers_after opening (closing - opening)
  -- each entry continues those before it, the looks too
  pub ordered : IsInOrder entries
  -- each move goes up, and to a number
  pub moves : All (IsMove top) entries
  -- each look found the number that stood
  pub looks : All (IsFound opening entries) entries

-- the number that an entry drew, or none if it is no draw
abbrev pub drawn_by : Entry → List ℕ
drawn_by (Drawn n) = n ∷ []
drawn_by (Moved from to) = []
drawn_by (Look seen) = []

-- the drawn numbers of a list of entries, marks among them
abbrev pub drawn : List Entry → List ℕ
drawn entries = flat_map drawn_by entries

-- how many numbers an entry moved over
abbrev pub skipped_by : Entry → ℕ
skipped_by (Drawn n) = 0
skipped_by (Moved from to) = to - from
skipped_by (Look seen) = 0

-- how many numbers the moves of a list of entries passed over
abbrev pub skipped : List Entry → ℕ
skipped entries = sum_by skipped_by entries
