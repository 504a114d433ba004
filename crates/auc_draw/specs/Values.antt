-- What contracts see of a book, of its passes and of a closed book.
use Rattle.std.specs.Prelude.{ℕ, List, Option}
use Rattle.atomic_table.specs.Seated.{TableId}
use Rattle.auc_memory.specs.declared.stop.Stop.{Stop}
use Rattle.auc_draw.specs.declared.rule.Deed.{Deed}

-- a pass: its book, the subscribers' greatest numbers, what its steps did, and the number that ended its claims
pub record PassValue : Type 0 where
  pub id : TableId
  pub tops : List ℕ
  pub deeds : List Deed
  pub ended : Option ℕ

-- a book: which one it is, the openings, each subscriber's greatest number, and the limits that were given with them
pub record BookValue : Type 0 where
  pub id : TableId
  pub openings : List ℕ
  pub tops : List ℕ
  pub limits : List ℕ

-- the keeper's pass: its book, and how many passes were split from it; each subscriber's limit, its number word as it
-- was last looked at, which is the opening at first, and why reservations ended, if they did
pub record KeeperValue : Type 0 where
  pub id : TableId
  pub passes : ℕ
  pub limits : List ℕ
  pub seen : List ℕ
  pub stop : Option Stop

-- a closed book: the subscribers' words, and the list of each pass
pub record ClosedValue : Type 0 where
  pub words : List ℕ
  pub lists : List (List Deed)
