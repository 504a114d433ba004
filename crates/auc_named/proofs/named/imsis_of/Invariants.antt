use Rattle.std.proofs.Common.{◌≡◌, map, take}
use Rattle.auc_named.proofs.named.imsis_of.Given as goal

abbrev pub invariant-loop-sub : goal.invariant-loop-sub
invariant-loop-sub l = l.imsis.items ≡ map (λ row. row.imsi) (take l.sub l.subs)
