use Rattle.std.proofs.Common.{◌≡◌, map}
use Rattle.std.specs.List.{range_with_len}
use Rattle.auc_load.specs.Input.{job_at}
use Rattle.auc_load.proofs.input.jobs.Given as goal

abbrev pub invariant-loop-j : goal.invariant-loop-j
invariant-loop-j l = l.jobs ≡ map (job_at l.load.subscribers) (range_with_len 0 l.j)
