use Rattle.std.proofs.Common.{◌≡◌, length}
use Rattle.auc_disk.specs.InnerReplay.{AreInRange}
use Rattle.auc_disk.specs.Replay.{image_by}
use Rattle.auc_disk.proofs.putting.replay_all.Given as goal

abbrev pub invariant-loop-call : goal.invariant-loop-call
invariant-loop-call l = record {
  chosen : image_by l.choice l.seen.items l.image.items l.calls ≡ image_by l.choice l.initial.seen.items l.initial.image.items l.initial.calls;
  range : AreInRange l.calls;
}

abbrev pub decreases-loop-call : goal.decreases-loop-call
decreases-loop-call l = length l.calls
