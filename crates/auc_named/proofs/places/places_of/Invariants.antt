use Rattle.std.proofs.Common.{◌≡◌, take}
use Rattle.auc_named.specs.Named.{subs_of}
use Rattle.auc_named.proofs.places.places_of.Given as goal

abbrev pub invariant-loop-job : goal.invariant-loop-job
invariant-loop-job l = l.subs.items ≡ subs_of (take l.job-index l.jobs)
