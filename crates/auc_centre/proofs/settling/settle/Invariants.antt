use Rattle.std.proofs.Common.{◌≡◌, []}
use Rattle.auc_centre.specs.InnerSteps.{Steps}
use Rattle.auc_centre.proofs.settling.settle.Given as goal

abbrev pub invariant-loop : goal.invariant-loop
invariant-loop g l = (l.pass.id ≡ l.initial.pass.id) × Steps l.initial.pass l.sub [] [] l.pass
