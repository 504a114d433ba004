use Rattle.std.proofs.Common.{◌≡◌, take}
use Rattle.auc_world.proofs.verdicts.listed.Given as goal

abbrev pub invariant-loop-verdict : goal.invariant-loop-verdict
invariant-loop-verdict l = l.list ≡ take l.verdict-index l.all
