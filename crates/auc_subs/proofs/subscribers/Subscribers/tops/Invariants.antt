use Rattle.std.proofs.Common.{◌≡◌, map, take}
use Rattle.auc_sqn.specs.Number.{top_of}
use Rattle.auc_subs.proofs.subscribers.Subscribers.tops.Given as goal

abbrev pub invariant-loop-sub : goal.invariant-loop-sub
invariant-loop-sub l = l.tops ≡ map (λ row. top_of row.bits) (take l.sub l.self)
