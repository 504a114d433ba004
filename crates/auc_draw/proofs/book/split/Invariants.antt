use Rattle.std.proofs.Common.{◌≡◌, [], length, All}
use Rattle.auc_draw.specs.Book.{IsNew}
use Rattle.auc_draw.specs.InnerRule.{keeper_view}
use Rattle.auc_draw.proofs.book.split.Given as goal

abbrev pub invariant-loop-i : goal.invariant-loop-i
invariant-loop-i l =
    (l.seat.table_id ≡ l.shared.table_id) × (l.seat.id ≡ 0) × (l.seat.me ≡ (keeper_view l.i l.fn.seat.me.0.tops l.fn.seat.me.0.note, [])) × (length l.passes.items ≡ l.i) × All (IsNew l.shared.table_id l.fn.seat.me.0.tops) l.passes.items
