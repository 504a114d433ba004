use Rattle.std.proofs.Common.{◌≡◌, take}
use Rattle.std.specs.Prelude.{flat_map}
use Rattle.indexmap.specs.IndexMap.{values}
use Rattle.auc_world.specs.Sessions.{verdict_on}
use Rattle.auc_world.proofs.verdicts.job_verdicts.Given as goal

abbrev pub invariant-loop-place : goal.invariant-loop-place
invariant-loop-place l = l.verdicts ≡ flat_map verdict_on (take l.place (values l.sessions))
