use Rattle.std.proofs.Common.{◌≡◌, ◌≤◌, take, length}
use Rattle.auc_world.specs.Net.{other, was_sent}
use Rattle.auc_world.proofs.inputs.was_sent.Given as goal

abbrev pub invariant-loop-left : goal.invariant-loop-left
invariant-loop-left l = record {
  within : l.left ≤ length l.packets;
  older : was_sent (other l.to) l.inputs l.bytes l.packets ≡ was_sent (other l.to) l.inputs l.bytes (take l.left l.packets);
}

abbrev pub decreases-loop-left : goal.decreases-loop-left
decreases-loop-left l = l.left
