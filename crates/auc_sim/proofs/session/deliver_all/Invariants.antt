-- The deliveries up to here were made, each of which sent at most one packet.
use Rattle.std.proofs.Common.{◌+◌, ◌≤◌, length, take}
use Rattle.auc_lines.specs.declared.sim.SimSchedule.TheVariants.{Steps}
use Rattle.auc_sim.specs.SessionParts.{Follows}
use Rattle.auc_sim.proofs.session.deliver_all.Given as goal

abbrev pub invariant-loop-d : goal.invariant-loop-d
invariant-loop-d l = record {
  made : Follows l.initial.net (Steps (take l.d-index l.deliveries)) l.initial.notes l.net l.notes;
  few : length l.net.packets ≤ length l.initial.net.packets + l.d-index;
}
