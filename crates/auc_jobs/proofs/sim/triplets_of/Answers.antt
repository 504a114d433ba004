use Rattle.std.proofs.Common.{arith}
use Rattle.auc_jobs.proofs.SimLemmas.{triplets_all}
use Rattle.auc_jobs.proofs.sim.triplets_of.Goals as goal

pub returns : goal.returns
returns c =
    triplets_all c.args.set.now c.args.sub c.loop-i.i c.args.numbers.now c.loop-i.triplets (omega (arith, c.loop-i-test.false, c.len-i-end.ensures.value)) c.loop-i.invariant
