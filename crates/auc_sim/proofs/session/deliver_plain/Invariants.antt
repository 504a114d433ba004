-- The deliveries of the plain schedule up to here were made, and as many follow as there are rounds at most.
use Rattle.std.proofs.Common.{◌+◌, ◌≤◌, length}
use Rattle.auc_sim.proofs.DeliveryLemmas.{PlainSoFar, rounds}
use Rattle.auc_sim.proofs.session.deliver_plain.Given as goal

abbrev pub invariant-loop-next : goal.invariant-loop-next
invariant-loop-next l = record {
  made : PlainSoFar l.initial.net l.initial.notes l.to l.next l.net l.notes;
  few : length l.net.packets + rounds l.to l.next l.net.server.at ≤ 7;
}

abbrev pub decreases-loop-next : goal.decreases-loop-next
decreases-loop-next l = rounds l.to l.next l.net.server.at
