-- Inner facts: what only private contracts of this crate cite.
use Rattle.std.specs.Prelude.{◌≡◌, ℕ, []}
use Rattle.auc_memory.specs.Reserved.{Reserved}

-- nothing is written, and there is room for 992 bytes
pub record IsFresh (room : Reserved ℕ) : Type 0 where
  pub empty : room.written ≡ []
  pub left : room.left ≡ 992
