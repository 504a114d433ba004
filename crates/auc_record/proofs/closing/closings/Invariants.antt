use Rattle.std.proofs.Common.{◌≡◌, ◌++◌, drop}
use Rattle.auc_record.specs.Counts.{counted_closings}
use Rattle.auc_record.proofs.closing.closings.Given as goal

abbrev pub invariant-loop-sub : goal.invariant-loop-sub
invariant-loop-sub l = l.all ++ counted_closings l.sub (drop l.sub l.openings) (drop l.sub l.words) (drop l.sub l.counts) ≡ counted_closings 0 l.openings l.words l.counts
