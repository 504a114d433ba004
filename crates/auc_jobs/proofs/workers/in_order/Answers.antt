use Rattle.std.proofs.Common.{rules, arith}
use Rattle.std.proofs.lemmas.List.Sorted.{IsNonDecreasingBy-from_sort_by_key}
use Rattle.auc_jobs.proofs.workers.in_order.Goals as goal

pub returns-clause-sorted : goal.returns-clause-sorted
returns-clause-sorted c i j d below within = IsNonDecreasingBy-from_sort_by_key (λ claimed. claimed.job) _ c.in_ok-sort_by_key.ensures.sorted (λ a r q k. search rules) i j d (omega (arith, below)) within
