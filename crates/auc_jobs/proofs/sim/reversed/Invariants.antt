use Rattle.std.proofs.Common.{◌≡◌, ◌++◌, length, reverse}
use Rattle.auc_jobs.proofs.sim.reversed.Given as goal

abbrev pub invariant-loop-note : goal.invariant-loop-note
invariant-loop-note l = l.turned ++ reverse l.notes ≡ reverse l.fn.notes

abbrev pub decreases-loop-note : goal.decreases-loop-note
decreases-loop-note l = length l.notes
