use Rattle.std.proofs.Common.{◌≡◌, ◌++◌, drop}
use Rattle.auc_seal.specs.Encrypted.{without_padding}
use Rattle.auc_seal.proofs.copying.without_padding.Given as goal

abbrev pub invariant-loop-attr : goal.invariant-loop-attr
invariant-loop-attr l = l.rest ++ without_padding (drop l.attr-index l.attr-items) ≡ without_padding l.list
