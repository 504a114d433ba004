use Rattle.std.proofs.Common.{◌≡◌, ◌++◌, take}
use Rattle.std.specs.Prelude.{flat_map}
use Rattle.auc_journal.specs.Image.{header}
use Rattle.auc_compact.specs.Compact.{open_frame}
use Rattle.auc_compact.proofs.image.image.Given as goal

abbrev pub invariant-loop-place : goal.invariant-loop-place
invariant-loop-place l = l.bytes ≡ header ++ flat_map open_frame (take l.place l.limits.written)
