use Rattle.std.proofs.Common.{All, length, map}
use Rattle.auc_named.specs.Named.{record_of}
use Rattle.auc_named.proofs.RenumberLemmas.{IsTurned}
use Rattle.auc_record.specs.Record.{IsBelow, subscriber_of}
use Rattle.auc_named.proofs.of_all.jobs_of_all.Given as goal

abbrev pub invariant-loop-job : goal.invariant-loop-job
invariant-loop-job l = IsTurned (map (record_of l.places)) (All (λ line. IsBelow (length l.places) (subscriber_of line))) l.fn.jobs l.jobs l.back

abbrev pub decreases-loop-job : goal.decreases-loop-job
decreases-loop-job l = length l.jobs
