-- The marks of the lines so far.
use Rattle.std.proofs.Common.{◌≡◌, ◌≤◌, ◌<◌, ℕ, false, ◌||◌, length, slice_index_or, take}
use Rattle.auc_jobs.specs.InnerPreparing.{job_asks}
use Rattle.auc_jobs.proofs.preparing.mark_job.Given as goal

abbrev pub invariant-loop-line : goal.invariant-loop-line
invariant-loop-line l = record {
  within : l.line-index ≤ length l.job;
  size : length l.marks ≡ length l.initial.marks;
  each : (sub : ℕ) → sub < length l.initial.marks → slice_index_or l.marks sub false ≡ (slice_index_or l.initial.marks sub false || job_asks sub (take l.line-index l.job));
}
