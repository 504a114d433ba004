use Rattle.std.proofs.Common.{◌≡◌, rules, [], map, ap, ◌∙◌, arith}
use Rattle.auc_draw.specs.InnerRule.{keeper_view_with}
use Rattle.auc_draw.proofs.BookLemmas.{joins_at, moved_over, all_moved, in_rest, joined_more}
use Rattle.auc_draw.proofs.book.join.Goals as goal

pub loop-pass-init : goal.loop-pass-init
loop-pass-init c = (c.requires.own, c.requires.first.0, c.requires.first.1, search rules)

pub join_seat-requires : goal.join_seat-requires
join_seat-requires c =
    let own = in_rest (λ p. p.id ≡ c.args.shared.now.table_id) c.loop-pass.yielded c.loop-pass.pass-iterator.rest.items c.next.new.self.rest.items c.args.passes.items c.in-Some.pass c.loop-pass.invariant.3 c.in-Some.ensures.steps.0 c.requires.passes in (
      c.loop-pass.invariant.0,
      ap (λ h. h.id) c.pass.view_is ∙ own,
      c.pass.invariant.bare,
      c.requires.words,
      joins_at _ _ _ _ _ _ _ _ _ _ _ c.loop-pass.invariant.1 c.loop-pass.invariant.2 c.pass.invariant.active,
    )

pub loop-pass-preserved : goal.loop-pass-preserved
loop-pass-preserved c = (
  c.join_seat.ensures.0 ∙ c.loop-pass.invariant.0,
  c.join_seat.ensures.1 ∙ c.loop-pass.invariant.1,
  joined_more _ _ _ _ _ _ _ c.pass.inside.seat.me.0 c.loop-pass.invariant.2 c.join_seat.ensures.2 (ap (λ h. h.deeds) c.pass.view_is),
  moved_over c.loop-pass.yielded c.loop-pass.pass-iterator.rest.items c.next.new.self.rest.items c.args.passes.items c.in-Some.pass c.loop-pass.invariant.3 c.in-Some.ensures.steps.0,
)

pub returns-clause-view : goal.returns-clause-view
returns-clause-view c = c.loop-pass.invariant.2 ∙ ap (λ ps. (keeper_view_with c.args.seat.me.0.split c.args.seat.me.0.tops c.args.seat.me.0.note (map (λ p. p.deeds) ps), []))
    (all_moved c.loop-pass.yielded c.loop-pass.pass-iterator.rest.items c.args.passes.items c.loop-pass.invariant.3 (omega (arith, c.in-None.ensures.steps.0)))
