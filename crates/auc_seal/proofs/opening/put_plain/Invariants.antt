use Rattle.std.proofs.Common.{◌-◌, length}
use Rattle.auc_seal.proofs.OpeningLemmas.{IsPlainTo}
use Rattle.auc_seal.proofs.opening.put_plain.Given as goal

abbrev pub invariant-loop-at : goal.invariant-loop-at
invariant-loop-at l = IsPlainTo l.initial.room l.room l.key l.fn.iv l.last l.ciphertext l.at

abbrev pub decreases-loop-at : goal.decreases-loop-at
decreases-loop-at l = length l.ciphertext - l.at
