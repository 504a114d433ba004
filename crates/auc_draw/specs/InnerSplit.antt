-- Inner facts: what the private contracts of the opening cite.
use Rattle.std.specs.Prelude.{◌≡◌, ℕ, List, All, length}
use Rattle.atomic_table.specs.Seated.{TableId}
use Rattle.auc_draw.specs.Book.{IsNew}
use Rattle.auc_draw.specs.Values.{PassValue, KeeperValue}
use Rattle.auc_draw.specs.declared.rule.Note.{Note}

-- passes that were split from the keeper's seat, which has these greatest numbers, and the keeper's pass, which has this
-- note
pub record AreSplit (id : TableId) (tops : List ℕ) (workers : ℕ) (note : Note) (passes : List PassValue) (keeper : KeeperValue) : Type 0 where
  pub many : length passes ≡ workers
  pub new : All (IsNew id tops) passes
  pub own : keeper ≡ record { id = id; passes = workers; limits = note.limits; seen = note.seen; stop = note.stop }
