use Rattle.std.proofs.Common.{length}
use Rattle.auc_named.specs.Named.{record_of}
use Rattle.auc_named.proofs.RenumberLemmas.{IsTurned}
use Rattle.auc_record.specs.Record.{IsBelow, subscriber_of}
use Rattle.auc_named.proofs.of_all.job_of_all.Given as goal

abbrev pub invariant-loop-line : goal.invariant-loop-line
invariant-loop-line l = IsTurned (record_of l.places) (λ line. IsBelow (length l.places) (subscriber_of line)) l.fn.job l.job l.back

abbrev pub decreases-loop-line : goal.decreases-loop-line
decreases-loop-line l = length l.job
