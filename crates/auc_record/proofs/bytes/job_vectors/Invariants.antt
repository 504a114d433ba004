use Rattle.std.proofs.Common.{◌≡◌, take}
use Rattle.auc_record.specs.Vectors.{vectors_in}
use Rattle.auc_record.specs.InnerVectors.{IsSourceOf}
use Rattle.auc_record.proofs.bytes.job_vectors.Given as goal

abbrev pub invariant-loop-line : goal.invariant-loop-line
invariant-loop-line l = record {
  made : l.all ≡ vectors_in l.set (take l.line-index l.lines);
  source : IsSourceOf l.set l.last;
}
