use Rattle.std.proofs.Common.{◌≡◌, All, length, take}
use Rattle.auc_named.specs.InnerNaming.{IsOwnLine}
use Rattle.auc_named.specs.Named.{lines_of}
use Rattle.auc_named.proofs.own_lines.own_jobs.Given as goal

abbrev pub invariant-loop-job : goal.invariant-loop-job
invariant-loop-job l = record {
  own : All (λ job. All (IsOwnLine (length l.places)) job) l.own;
  same : lines_of l.places l.own ≡ take l.job-index l.jobs;
}
