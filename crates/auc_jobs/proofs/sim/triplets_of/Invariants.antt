use Rattle.std.specs.Prelude.{take}
use Rattle.auc_jobs.specs.InnerSim.{AreTripletsOf}
use Rattle.auc_jobs.proofs.sim.triplets_of.Given as goal

abbrev pub invariant-loop-i : goal.invariant-loop-i
invariant-loop-i l = AreTripletsOf l.set l.sub (take l.i l.numbers) l.triplets
