-- Inner facts: the invariants of a book and of the keeper's pass.
use Rattle.std.specs.Prelude.{◌≡◌, ◌≤◌, All, length, []}
use Rattle.auc_sqn.specs.Number.{max_seq}
use Rattle.auc_draw.specs.InnerLimits.{limit_at}
use Rattle.auc_draw.specs.InnerRule.{keeper_view}
use Rattle.auc_draw.specs.declared.book.Book.TheInside as book
use Rattle.auc_draw.specs.declared.keeper.KeeperPass.TheInside as keeper_pass

-- a book has two words for each subscriber, one for the jobs and one for the stop, no slot, and its openings, greatest
-- numbers and limits as the table's key
pub record IsBook (b : book.Inside) : Type 0 where
  pub key : b.table.shared.key ≡ b.key
  pub few : length b.key.openings.items ≤ 65536
  pub topped : length b.key.tops.items ≡ length b.key.openings.items
  pub low : All (λ n. n ≤ max_seq) b.key.tops.items
  pub many : length b.key.limits.items ≡ length b.key.openings.items
  pub sized : b.table.shared.table_id.words ≡ limit_at (length b.key.openings.items) (length b.key.openings.items)
  pub bare : b.table.shared.table_id.slots ≡ 0

-- the keeper's seat is the first, and no pass was joined into it
pub record IsKeeper (k : keeper_pass.Inside) : Type 0 where
  pub first : k.seat.id ≡ 0
  pub view : k.seat.me ≡ (keeper_view k.seat.me.0.split k.seat.me.0.tops k.seat.me.0.note, [])
