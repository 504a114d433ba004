use Rattle.std.proofs.Common.{◌≡◌, ◌≤◌, take}
use Rattle.std.specs.Prelude.{All}
use Rattle.auc_journal.specs.Journal.{limits_of}
use Rattle.auc_sqn.specs.Number.{max_seq}
use Rattle.auc_jobs.proofs.workers.limits.Given as goal

abbrev pub invariant-loop-sub : goal.invariant-loop-sub
invariant-loop-sub g l = (l.limits ≡ take l.sub (limits_of l.journal)) × All (λ limit. limit ≤ max_seq) l.limits
