use Rattle.std.proofs.Common.{sym}
use Rattle.indexmap.specs.IndexMap.{values}
use Rattle.auc_world.proofs.VerdictLemmas.{one_more}
use Rattle.auc_world.proofs.verdicts.job_verdicts.Goals as goal

pub loop-place-preserved : goal.loop-place-preserved
loop-place-preserved c =
    rw (c.in_ok-add_verdict.ensures, c.loop-place.invariant) (sym (one_more (values c.args.sessions.now) c.loop-place.place c.index.result.now c.index.ensures))
