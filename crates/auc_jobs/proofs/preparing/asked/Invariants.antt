-- The marks of the jobs so far.
use Rattle.std.proofs.Common.{◌≡◌, ◌≤◌, ◌<◌, ℕ, false, length, slice_index_or, take}
use Rattle.auc_jobs.specs.InnerPreparing.{is_asked}
use Rattle.auc_jobs.proofs.preparing.asked.Given as goal

abbrev pub invariant-loop-job : goal.invariant-loop-job
invariant-loop-job l = record {
  within : l.job-index ≤ length l.jobs;
  size : length l.marks.items ≡ l.subs;
  each : (sub : ℕ) → sub < l.subs → slice_index_or l.marks.items sub false ≡ is_asked (take l.job-index l.jobs) sub;
}
