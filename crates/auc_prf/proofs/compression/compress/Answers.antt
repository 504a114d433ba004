use Rattle.std.proofs.Common.{◌≡◌, arith, refl}
use Rattle.sha1.specs.Sha1.{compress, rounds, schedule}
use Rattle.sha1.proofs.Schedule.{rounds_next}
use Rattle.auc_prf.proofs.compression.compress.Goals as goal

pub loop-t-init : goal.loop-t-init
unfolding rounds
loop-t-init c = refl

pub loop-t-preserved : goal.loop-t-preserved
loop-t-preserved c = rw (rounds_next, ← c.loop-t.invariant, ← c.schedule-words.ensures) c.round-v.ensures

pub returns : goal.returns
unfolding compress
returns c =
    let done : c.loop-t.t ≡ 80 = omega arith in
    let last : c.loop-t.v ≡ rounds c.args.hash (schedule c.args.block.now 64) 80 = rw done at c.loop-t.invariant in
    rw (← last) refl
