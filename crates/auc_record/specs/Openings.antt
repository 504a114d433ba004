-- Where a round opens the subscribers after the round before it.
use Rattle.std.specs.Prelude.{ℕ, min, List, [], ◌∷◌}
use Rattle.auc_subs.specs.Subscriber.{tops_of}
use Rattle.auc_subs.specs.declared.row.Row.{Row}

-- as many numbers as the first list has, each the lesser of the two at its place; the first list goes on after the
-- end of the second
abbrev pub lesser : List ℕ → List ℕ → List ℕ
lesser [] others = []
lesser (n ∷ numbers) [] = n ∷ lesser numbers []
lesser (n ∷ numbers) (m ∷ others) = min n m ∷ lesser numbers others

-- the words at which the next round opens the subscribers: those at which the last one closed them, but at most their
-- greatest numbers
abbrev pub reopened : List Row → List ℕ → List ℕ
reopened rows words = lesser (tops_of rows) words
