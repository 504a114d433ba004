-- One more delivery was made, after which fewer rounds are left; and at the end none is to be made.
use Rattle.std.proofs.Common.{◌≤◌, ◌+◌, length, arith, Some, None}
use Rattle.auc_sim.proofs.DeliveryLemmas.{PlainSoFar, rounds, falls, grows, plain_more, plain_ends}
use Rattle.auc_sim.proofs.session.deliver_plain.Goals as goal

pub loop-next-smaller : goal.loop-next-smaller
loop-next-smaller c = rw (c.other-to.ensures, c.in-Some.is) (falls _ _ _ _ _ _ _ c.in_ok-next.ensures)

pub loop-next-preserved : goal.loop-next-preserved
loop-next-preserved c =
    let so_far : PlainSoFar c.args.net.now c.args.notes.now c.loop-next.to (Some c.in-Some.packet) c.loop-next.net c.loop-next.notes =
    rw c.in-Some.is at c.loop-next.invariant.made in
    let few : length c.loop-next.net.packets + rounds c.loop-next.to (Some c.in-Some.packet) c.loop-next.net.server.at ≤ 7 =
    rw c.in-Some.is at c.loop-next.invariant.few in
    record {
      made = rw c.other-to.ensures (plain_more _ _ _ _ _ _ _ _ _ so_far c.in_ok-next.ensures);
      few = rw c.other-to.ensures
          (let one = grows _ _ _ _ _ _ c.in_ok-next.ensures in let fewer = falls _ _ _ _ _ _ _ c.in_ok-next.ensures in omega arith);
    }

pub returns : goal.returns
returns c =
    let so_far : PlainSoFar c.args.net.now c.args.notes.now c.loop-next.to None c.loop-next.net c.loop-next.notes =
    rw c.in_default.is at c.loop-next.invariant.made in
    plain_ends _ _ _ _ _ so_far
