use Rattle.std.proofs.Common.{rules, ◌≤◌, ◌+◌, ◌-◌, length, arith}
use Rattle.auc_vector.proofs.ManyLemmas.{fill_next}
use Rattle.auc_vector.proofs.many.fill_all.Goals as goal

pub loop-at-preserved : goal.loop-at-preserved
loop-at-preserved c =
    let within : c.loop-at.at + c.min-count.result ≤ length c.args.rands.now = search rules in
    let next = fill_next c.args.m.now c.args.amf c.args.bits c.args.first c.loop-at.at c.min-count.result (c.loop-at.at + c.min-count.result - c.loop-at.at)
    c.args.rands.now c.loop-at.out c.fill.new.out within c.loop-at.invariant.size (omega arith) c.loop-at.invariant.done c.fill.ensures in
    record { within = within; size = next.1; done = next.0 }
