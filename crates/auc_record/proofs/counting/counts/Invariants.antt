use Rattle.std.proofs.Common.{◌≡◌, take, length}
use Rattle.auc_record.specs.Lines.{all_lines}
use Rattle.auc_record.specs.Counts.{AreCounted}
use Rattle.auc_record.proofs.counting.counts.Given as goal

abbrev pub invariant-loop-job : goal.invariant-loop-job
invariant-loop-job l = record {
  size : length l.counts.items ≡ l.subs;
  counted : AreCounted (all_lines (take l.job-index l.records)) l.counts.items;
}
