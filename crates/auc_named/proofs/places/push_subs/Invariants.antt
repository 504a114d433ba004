use Rattle.std.proofs.Common.{◌≡◌, ◌++◌, map, take}
use Rattle.auc_named.specs.Named.{sub_of}
use Rattle.auc_named.proofs.places.push_subs.Given as goal

abbrev pub invariant-loop-line : goal.invariant-loop-line
invariant-loop-line l = l.subs.items ≡ l.fn.subs.items ++ map sub_of (take l.line-index l.job)
