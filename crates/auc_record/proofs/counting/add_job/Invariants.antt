use Rattle.std.proofs.Common.{◌++◌, take, List}
use Rattle.auc_record.specs.declared.record.LineRecord.{LineRecord}
use Rattle.auc_record.specs.Counts.{AreCounted}
use Rattle.auc_record.proofs.counting.add_job.Given as goal

abbrev pub invariant-loop-line : goal.invariant-loop-line
invariant-loop-line l = (before : List LineRecord) → AreCounted before l.initial.counts → AreCounted (before ++ take l.line-index l.lines) l.counts
