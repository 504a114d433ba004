use Rattle.std.proofs.Common.{◌≡◌, ◌++◌, [], map}
use Rattle.auc_draw.specs.InnerRule.{keeper_view_with}
use Rattle.auc_draw.proofs.book.join.Given as goal

abbrev pub invariant-loop-pass : goal.invariant-loop-pass
invariant-loop-pass l =
    (l.seat.table_id ≡ l.shared.table_id) × (l.seat.id ≡ 0) × (l.seat.me ≡ (keeper_view_with l.fn.seat.me.0.split l.fn.seat.me.0.tops l.fn.seat.me.0.note (map (λ p. p.deeds) l.yielded), []))
    × (l.yielded ++ l.pass-iterator.rest.items ≡ l.fn.passes.items)
