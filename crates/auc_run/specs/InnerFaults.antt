-- Inner facts: what only private contracts of this crate cite. Here: what a call did to the counts of faults of what it spoke to.
use Rattle.std.specs.Prelude.{◌≡◌, ◌≢◌, ℕ, Option, Some}
use Rattle.auc_memory.specs.Faults.{Rose}
use Rattle.auc_memory.specs.declared.stop.Stop.{Stop}
use Rattle.auc_memory.specs.declared.stop.Stop.TheVariants.{Fault}

-- the count of a disk rose exactly if a fault ended reservations in a round
pub record RoseInRound (stop : Option Stop) (old new : ℕ) : Type 0 where
  pub rose : stop ≡ Some Fault → Rose old new
  pub same : stop ≢ Some Fault → new ≡ old
