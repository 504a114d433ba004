use Rattle.std.proofs.Common.{◌≡◌, take}
use Rattle.auc_jobs.proofs.workers.words.Given as goal

abbrev pub invariant-loop-sub : goal.invariant-loop-sub
invariant-loop-sub l = l.words ≡ take l.sub l.closed.words
