use Rattle.std.proofs.Common.{◌≡◌, take, map}
use Rattle.auc_input.proofs.opening.identities.Given as goal

abbrev pub invariant-loop-sub : goal.invariant-loop-sub
invariant-loop-sub l = l.imsis ≡ map (λ row. row.imsi) (take l.sub l.subs)
