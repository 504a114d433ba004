-- Inner facts: a round that begins.
use Rattle.std.specs.Prelude.{◌≡◌, ◌≢◌, ℕ, AllPairs, false, length, List, Option, Some, None}
use Rattle.atomic_table.specs.Seated.{TableId}
use Rattle.auc_draw.specs.Values.{BookValue, KeeperValue}
use Rattle.auc_journal.specs.Journal.{JournalState, limits_of}

-- a book of this table with these greatest numbers, the journal of the opening, and the keeper's pass
pub record Begins {D : Type 0} (table : TableId) (tops : List ℕ) (passes : ℕ) (opening : Option (JournalState D)) (words : BookValue) (journal : JournalState D) (keeper : KeeperValue) : Type 0 where
  pub shared : (words.id ≡ table) × (words.tops ≡ tops)
  pub own : keeper.id ≡ table
  pub all : keeper.passes ≡ passes
  pub begun : opening ≡ Some journal
  -- the journal takes appends, and has an identity for each subscriber, each once
  pub ready : journal.failed ≡ false
  pub sized : length journal.imsis ≡ length words.openings
  pub differ : AllPairs (λ a b. a ≢ b) journal.imsis
  -- the limits of the keeper's pass are the journal's, and the keeper hasn't stopped
  pub limits : keeper.limits ≡ limits_of journal
  pub running : keeper.stop ≡ None
