use Rattle.std.proofs.Common.{[], refl, ap}
use Rattle.auc_sim_packet.proofs.MayLemmas.{judge_at, judge_done, judge_fails, judge_goes_on}
use Rattle.auc_sim_packet.proofs.attr_list.SimList.writable.Goals as goal

pub loop-attr-init : goal.loop-attr-init
loop-attr-init c = rw c.as_slice-attr-items.ensures record { kinds = []; marked = c.new-seen.ensures; judged = refl }

pub returns-then-not-may_follow : goal.returns-then-not-may_follow
returns-then-not-may_follow c =
    judge_fails _ c.attr-item.result _ _ _ _ _ (ap (λ i. i.kind) c.parts_of-kind.ensures) c.is_marked.ensures c.may_follow.ensures
    (judge_at _ _ _ _ _ c.loop-attr-test.true c.attr-item.is c.loop-attr.invariant) c.if-not-may_follow.true

pub loop-attr-preserved : goal.loop-attr-preserved
loop-attr-preserved c =
    judge_goes_on _ c.attr-item.result _ _ _ _ _ (ap (λ i. i.kind) c.parts_of-kind.ensures) c.is_marked.ensures c.may_follow.ensures _
    (judge_at _ _ _ _ _ c.loop-attr-test.true c.attr-item.is c.loop-attr.invariant) c.if-not-may_follow.false c.mark.ensures

pub returns : goal.returns
returns c = judge_done _ _ _ _ c.loop-attr-test.false c.loop-attr.invariant
