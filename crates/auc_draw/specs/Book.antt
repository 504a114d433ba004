-- What an opening gives and what a closing tells.
use Rattle.std.specs.Prelude.{◌≡◌, ◌⊎◌, ℕ, ◌+◌, ◌<◌, ◌≤◌, nat_lt, if◌then◌else◌, max, List, [], ◌++◌, All, Any, Contains, length, map, slice_index, flat_map, Some, None}
use Rattle.auc_history.specs.declared.entry.Entry.TheVariants.{Drawn}
use Rattle.auc_history.specs.Split.{Splits, times}
use Rattle.auc_sqn.specs.Number.{max_seq}
use Rattle.atomic_table.specs.Seated.{TableId}
use Rattle.auc_draw.specs.declared.rule.Deed.{Deed}
use Rattle.auc_draw.specs.Deeds.{entries_of, claims_of, released_of, held_of, withheld_of, stops_of}
use Rattle.auc_draw.specs.Values.{PassValue, BookValue, KeeperValue, ClosedValue}

-- the pass is one of this book, which has these greatest numbers
abbrev pub IsOf : TableId → List ℕ → PassValue → Type 0
IsOf id tops pass = (pass.id ≡ id) × (pass.tops ≡ tops)

-- a pass of this book that has done nothing
abbrev pub IsNew : TableId → List ℕ → PassValue → Type 0
IsNew id tops pass = IsOf id tops pass × (pass.deeds ≡ []) × (pass.ended ≡ None)

-- a book that was opened with this many passes
pub record Opens (openings greatest given : List ℕ) (workers : ℕ) (book : BookValue) (passes : List PassValue) (keeper : KeeperValue) : Type 0 where
  -- its numbers stand at the openings, and the greatest numbers and the limits are those given
  pub numbers : book.openings ≡ openings
  pub tops : book.tops ≡ greatest
  pub limits : book.limits ≡ given
  -- there is a pass for each worker, and it has done nothing
  pub many : length passes ≡ workers
  pub new : All (IsNew book.id book.tops) passes
  -- the keeper's pass is the book's, and counts the passes
  pub own : keeper.id ≡ book.id
  pub all : keeper.passes ≡ workers
  -- it knows the limits and the openings, and that reservations haven't ended
  pub reserved : keeper.limits ≡ given
  pub seen : keeper.seen ≡ openings
  pub running : keeper.stop ≡ None

-- the claimed numbers are those below a number, each once
pub record AreTaken (top : ℕ) (numbers : List ℕ) : Type 0 where
  pub once : (n : ℕ) → times n numbers ≡ (if nat_lt n top then 1 else 0)

-- a book that was closed, from the lists of its passes and from the keeper's pass
pub record Closes (book : BookValue) (lists : List (List Deed)) (keeper : KeeperValue) (closed : ClosedValue) : Type 0 where
  -- it has the lists as they are
  pub same : closed.lists ≡ lists
  -- and a word for each subscriber
  pub many : length closed.words ≡ length book.openings
  -- the passes' entries of a subscriber split a history from its opening to its word
  pub splits : (sub : ℕ) → sub < length book.openings → Splits (slice_index book.tops sub) (slice_index book.openings sub) (slice_index closed.words sub) (map (entries_of sub) lists)
  -- each of 64 passes makes one mark of a subscriber at most
  pub bounded : (sub : ℕ) → sub < length book.openings → slice_index closed.words sub ≤ slice_index book.tops sub + 64
  -- no number was claimed twice, and none was left out
  pub taken : (top : ℕ) × AreTaken top (flat_map claims_of lists)
  -- the keeper has a limit for each subscriber
  pub sized : length keeper.limits ≡ length book.openings
  -- no released number is above its subscriber's limit
  pub released : (sub : ℕ) → sub < length book.openings → All (λ deeds. All (λ n. n ≤ slice_index keeper.limits sub) (released_of sub deeds)) lists
  -- each withheld number is above it, and was withheld because reservations had ended
  pub withheld : (sub : ℕ) → sub < length book.openings → All (λ deeds. All (λ held. (slice_index keeper.limits sub < held.0) × (keeper.stop ≡ Some held.1)) (held_of sub deeds)) lists
  -- both kinds of number were drawn by the same pass
  pub drawn : (sub : ℕ) → sub < length book.openings → All (λ deeds. All (λ n. Contains (entries_of sub deeds) (Drawn n)) (released_of sub deeds ++ withheld_of sub deeds)) lists
  -- each stop that was read is why reservations ended
  pub stopped : All (λ deeds. All (λ stop. keeper.stop ≡ Some stop) (stops_of deeds)) lists
  -- a limit is the one that was given, the greatest of all numbers, or at least 64 above the one that was given
  pub step : (sub : ℕ) → sub < length book.openings
      → (slice_index keeper.limits sub ≡ slice_index book.limits sub) ⊎ ((slice_index keeper.limits sub ≡ max_seq) ⊎ (slice_index book.limits sub + 64 ≤ slice_index keeper.limits sub))
  -- it is the one that was given, or no more than 64 above the word
  pub near : (sub : ℕ) → sub < length book.openings → slice_index keeper.limits sub ≤ max (slice_index book.limits sub) (slice_index closed.words sub + 64)
  pub within : (sub : ℕ) → sub < length book.openings → slice_index keeper.limits sub ≤ max_seq
  -- no number that the keeper looked at is above the word
  pub looked : (sub : ℕ) → sub < length book.openings → slice_index keeper.seen sub ≤ slice_index closed.words sub

-- if the number of the last job or a higher one was claimed, each job was claimed once
abbrev pub EachJobIsClaimedOnce : Type 0
EachJobIsClaimedOnce = (book : BookValue) (lists : List (List Deed)) (keeper : KeeperValue) (closed : ClosedValue) (jobs : ℕ) → Closes book lists keeper closed
    → (jobs ≡ 0) ⊎ Any (λ n. jobs ≤ n + 1) (flat_map claims_of lists) → (job : ℕ) → job < jobs → times job (flat_map claims_of lists) ≡ 1
