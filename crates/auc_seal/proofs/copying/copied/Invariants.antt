use Rattle.std.proofs.Common.{◌≡◌, ◌++◌, drop}
use Rattle.auc_seal.proofs.copying.copied.Given as goal

abbrev pub invariant-loop-attr : goal.invariant-loop-attr
invariant-loop-attr l = l.copy ++ drop l.attr-index l.attr-items ≡ l.list
