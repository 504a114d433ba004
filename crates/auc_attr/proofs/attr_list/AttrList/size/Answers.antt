use Rattle.std.proofs.Common.{arith}
use Rattle.auc_attr.proofs.WritingLemmas.{count_begins, count_first, count_goes_on, count_within, count_at, count_done}
use Rattle.auc_attr.proofs.attr_list.AttrList.size.Goals as goal

pub loop-attr-init : goal.loop-attr-init
loop-attr-init c = rw c.as_slice-attr-items.ensures (count_begins c.args.self.now c.requires.writable)

pub size_of_attr-size-requires : goal.size_of_attr-size-requires
size_of_attr-size-requires c = count_first _ _ _ _ (count_at _ _ _ _ _ c.loop-attr-test.true c.attr-item.is c.loop-attr.invariant)

pub overflow_add-size : goal.overflow_add-size
overflow_add-size c =
    let within = count_within _ _ _ _ _ (count_at _ _ _ _ _ c.loop-attr-test.true c.attr-item.is c.loop-attr.invariant) c.size_of_attr-size.ensures in
    omega (arith, within, c.requires.counted)

pub loop-attr-preserved : goal.loop-attr-preserved
loop-attr-preserved c =
    count_goes_on _ _ _ _ _ _ (count_at _ _ _ _ _ c.loop-attr-test.true c.attr-item.is c.loop-attr.invariant) c.size_of_attr-size.ensures (omega arith)

pub returns : goal.returns
returns c = count_done _ _ _ _ c.loop-attr-test.false c.loop-attr.invariant
