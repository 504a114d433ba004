-- Inner facts: what a caller of any centre tells of its calls.
use Rattle.std.specs.Prelude.{◌≢◌, ℕ, List, [], ◌++◌, Option, Result}
use Rattle.auc_memory.specs.declared.stop.Stop.{Stop}
use Rattle.auc_history.specs.declared.entry.Entry.{Entry}
use Rattle.auc_vector.specs.Centre.{entries_of_next, withheld_of_next, kept_after_next, entries_of_resync}
use Rattle.auc_vector.specs.declared.centre.Resynced.{Resynced}
use Rattle.auc_vector.specs.declared.centre.CentreRefusal.{CentreRefusal}

-- a draw and then a resynchronisation of a subscriber, of which this word was kept before: one stretch of calls with the
-- entries that the two answers name, and with none of any other subscriber
pub record Gains (goes : ℕ → List Entry → List (ℕ × Stop) → Type 0) (sub : ℕ) (kept : Option ℕ) (drawn : Result ℕ CentreRefusal) (resynced : Result Resynced CentreRefusal) : Type 0 where
  pub here : goes sub (entries_of_next kept drawn ++ entries_of_resync (kept_after_next kept drawn) resynced) (withheld_of_next drawn)
  pub others : (i : ℕ) → i ≢ sub → goes i [] []
