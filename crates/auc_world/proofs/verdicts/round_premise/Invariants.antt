use Rattle.std.proofs.Common.{◌≡◌, ◌+◌, drop}
use Rattle.auc_world.specs.Sessions.{joined, premise_from}
use Rattle.auc_world.proofs.verdicts.round_premise.Given as goal

abbrev pub invariant-loop-place : goal.invariant-loop-place
invariant-loop-place l = joined l.premise (premise_from (l.place + 1) (drop l.place l.jobs)) ≡ premise_from 1 l.jobs
