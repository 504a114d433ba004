-- Limits: up to which number a subscriber's numbers are reserved, and where a round that goes by limits opens the
-- subscribers.
use Rattle.std.specs.Prelude.{◌≡◌, ℕ, ◌+◌, ◌<◌, ◌≤◌, ◌⊎◌, max, List, [], ◌∷◌, length, map, All, slice_index}
use Rattle.auc_sqn.specs.Number.{max_seq}
use Rattle.auc_subs.specs.Subscriber.{tops_of}
use Rattle.auc_subs.specs.declared.row.Row.{Row}
use Rattle.auc_record.specs.declared.record.LineRecord.{LineRecord}
use Rattle.auc_record.specs.Lines.{numbers_of}
use Rattle.auc_record.specs.Openings.{lesser}

-- as many numbers as the first list has, each the greater of the two at its place; the first list goes on after the
-- end of the second
abbrev pub greater : List ℕ → List ℕ → List ℕ
greater [] others = []
greater (n ∷ numbers) [] = n ∷ greater numbers []
greater (n ∷ numbers) (m ∷ others) = max n m ∷ greater numbers others

-- where the first round, and the round after a restart, opens each subscriber: at its own number or at its limit,
-- whichever is greater, but at most at its greatest number. A limit may be above that
abbrev pub opened : List Row → List ℕ → List ℕ
opened rows limits = lesser (tops_of rows) (greater (map (λ row. row.seq) rows) limits)

-- the least step of a limit
abbrev pub least_step : ℕ
least_step = 64

-- the limits that a restart may have after some lines, by the limits before and by each subscriber's greatest closing
-- word so far
pub record Raises (rows : List Row) (early : List LineRecord) (limits highs next : List ℕ) : Type 0 where
  -- a limit stays, or is the greatest number of all, or rises by a step at least
  pub step : (sub : ℕ) → sub < length rows → (slice_index next sub ≡ slice_index limits sub)
      ⊎ ((slice_index next sub ≡ max_seq) ⊎ (slice_index limits sub + least_step ≤ slice_index next sub))
  -- it is at least each number that was released
  pub released : (sub : ℕ) → sub < length rows → All (λ n. n ≤ slice_index next sub) (numbers_of sub early)
  -- it rises to a step above the greatest closing word at most
  pub near : (sub : ℕ) → sub < length rows → slice_index next sub ≤ max (slice_index limits sub) (slice_index highs sub + least_step)
  -- it is a number
  pub within : (sub : ℕ) → sub < length rows → slice_index next sub ≤ max_seq
