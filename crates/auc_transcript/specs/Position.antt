-- Periods and places by position. `Headline` defines them by numbers, since a transcript doesn't say in which order
-- the steps of two jobs came. The entries of a history stand in the order of the steps. There a period ends at a move
-- that stands between two draws, and a place is a count of draws.
use Rattle.std.specs.Prelude.{◌≡◌, ℕ, ◌+◌, ◌⊎◌, Bool, true, false, List, [], ◌∷◌, ◌++◌, length, All}
use Rattle.std.specs.List.{list_any}
use Rattle.auc_history.specs.declared.entry.Entry.{Entry}
use Rattle.auc_history.specs.declared.entry.Entry.TheVariants.{Drawn, Moved, Look}
use Rattle.auc_history.specs.History.{IsMove, IsInOrder, drawn}
use Rattle.auc_transcript.specs.Headline.{is_moved, place_in}

-- whether an entry is a move
abbrev pub is_move : Entry → Bool
is_move (Drawn n) = false
is_move (Moved from to) = true
is_move (Look seen) = false

-- a move is between two numbers of a history if and only if it stands between their draws
abbrev pub EachMoveStandsBetween : Type 0
EachMoveStandsBetween = (top m n : ℕ) (front between back : List Entry)
    → IsInOrder (front ++ Drawn m ∷ (between ++ Drawn n ∷ back)) → All (IsMove top) (front ++ Drawn m ∷ (between ++ Drawn n ∷ back))
    → is_moved (front ++ Drawn m ∷ (between ++ Drawn n ∷ back)) m n ≡ list_any is_move between

-- the entries before a period: there are none, or the last one is a move
abbrev pub EndsPeriod : List Entry → Type 0
EndsPeriod front = (front ≡ []) ⊎ ((rest : List Entry) × (from : ℕ) × (to : ℕ) × (front ≡ rest ++ Moved from to ∷ []))

-- the place of a number of a history is its position among the draws since its period began, counted from 1
abbrev pub EachPlaceIsAPosition : Type 0
EachPlaceIsAPosition = (top n : ℕ) (front since back : List Entry)
    → IsInOrder (front ++ (since ++ Drawn n ∷ back)) → All (IsMove top) (front ++ (since ++ Drawn n ∷ back))
    → EndsPeriod front → list_any is_move since ≡ false
    → place_in (front ++ (since ++ Drawn n ∷ back)) n ≡ length (drawn since) + 1
