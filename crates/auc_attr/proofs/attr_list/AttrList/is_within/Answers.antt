use Rattle.std.proofs.Common.{arith}
use Rattle.auc_attr.proofs.WritingLemmas.{left_begins, left_first, left_goes_on, left_at}
use Rattle.auc_attr.proofs.attr_list.AttrList.is_within.Goals as goal

pub loop-attr-init : goal.loop-attr-init
loop-attr-init c = rw c.as_slice-attr-items.ensures (left_begins c.args.most c.args.self.now c.requires)

pub size_of_attr-size-requires : goal.size_of_attr-size-requires
size_of_attr-size-requires c = left_first _ _ _ _ _ (left_at _ _ _ _ _ _ c.loop-attr-test.true c.attr-item.is c.loop-attr.invariant)

pub loop-attr-preserved : goal.loop-attr-preserved
loop-attr-preserved c =
    left_goes_on _ _ _ _ _ _ _ (left_at _ _ _ _ _ _ c.loop-attr-test.true c.attr-item.is c.loop-attr.invariant) c.size_of_attr-size.ensures (omega arith)
