use Rattle.std.proofs.Common.{◌≤◌, refl, arith}
use Rattle.std.proofs.lemmas.Bool.Decides.{nat_tests}
use Rattle.auc_sim_packet.proofs.MayLemmas.{left_begins, left_at, left_goes_on}
use Rattle.auc_sim_packet.proofs.may_write.are_short.Goals as goal

pub loop-attr-init : goal.loop-attr-init
loop-attr-init c = rw c.as_slice-attr-items.ensures (left_begins c.args.most c.args.attrs.now c.requires)

pub loop-attr-preserved : goal.loop-attr-preserved
loop-attr-preserved c =
    let fits : c.size_of_attr-size.result ≤ c.loop-attr.left = grind (arith, nat_tests) in
    left_goes_on _ _ c.attr-item.result _ _ _ _ (left_at _ _ _ _ _ _ c.loop-attr-test.true c.attr-item.is c.loop-attr.invariant) c.size_of_attr-size.ensures fits refl
