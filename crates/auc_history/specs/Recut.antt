-- Other lists that still split a history: those without some of the looks, and those into which the same entries are
-- put in another way.
use Rattle.std.specs.Prelude.{◌≡◌, ℕ, ◌⊎◌, List, [], ◌∷◌, All, IsPermutation}
use Rattle.auc_history.specs.declared.entry.Entry.{Entry}
use Rattle.auc_history.specs.declared.entry.Entry.TheVariants.{Drawn, Moved, Look}
use Rattle.auc_history.specs.History.{IsInOrder}
use Rattle.auc_history.specs.Split.{all_entries, Splits}

-- an entry is a look: it covers no number
abbrev pub IsLook : Entry → Type 0
IsLook (Drawn n) = ⊥
IsLook (Moved from to) = ⊥
IsLook (Look seen) = Unit {0}

-- the second list is the first without some of its looks
abbrev pub LeavesOutLooks : List Entry → List Entry → Type 0
LeavesOutLooks [] fewer = fewer ≡ []
LeavesOutLooks (e ∷ entries) fewer =
    ((rest : List Entry) × (fewer ≡ e ∷ rest) × LeavesOutLooks entries rest) ⊎ (IsLook e × LeavesOutLooks entries fewer)

-- there are as many second lists as first ones, and each is the first one of its place without some of its looks
abbrev pub EachLeavesOutLooks : List (List Entry) → List (List Entry) → Type 0
EachLeavesOutLooks [] others = others ≡ []
EachLeavesOutLooks (entries ∷ lists) others = (fewer : List Entry) × (rest : List (List Entry))
    × (others ≡ fewer ∷ rest) × LeavesOutLooks entries fewer × EachLeavesOutLooks lists rest

-- a split without some of its looks is a split
abbrev pub SplitWithoutLooksIsASplit : Type 0
SplitWithoutLooksIsASplit = (top opening closing : ℕ) (lists others : List (List Entry))
    → Splits top opening closing lists → EachLeavesOutLooks lists others → Splits top opening closing others

-- if the entries of a split are put into other lists, in any order, and each list is in order, the lists are a split
abbrev pub RecutSplitIsASplit : Type 0
RecutSplitIsASplit = (top opening closing : ℕ) (lists others : List (List Entry)) → Splits top opening closing lists
    → IsPermutation (all_entries lists) (all_entries others) → All IsInOrder others → Splits top opening closing others
