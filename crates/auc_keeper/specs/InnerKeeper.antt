-- Inner facts: the invariant of a keeper.
use Rattle.std.specs.Prelude.{◌≡◌, ◌≢◌, AllPairs, false, Option, None}
use Rattle.auc_memory.specs.declared.stop.Stop.{Stop}
use Rattle.auc_draw.specs.Values.{KeeperValue}
use Rattle.auc_journal.specs.Journal.{JournalState, limits_of}

-- a journal and a pass of a keeper, which has stopped for this cause if for any
pub record IsKeeper {D : Type 0} (journal : JournalState D) (pass : KeeperValue) (stop : Option Stop) : Type 0 where
  -- no two subscribers have one identity
  pub differ : AllPairs (λ a b. a ≢ b) journal.imsis
  -- the limits of the pass are the journal's
  pub limits : pass.limits ≡ limits_of journal
  -- the pass stopped for this cause, and no append failed before that
  pub same : pass.stop ≡ stop
  pub ready : pass.stop ≡ None → journal.failed ≡ false
