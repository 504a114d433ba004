use Rattle.std.proofs.Common.{◌≡◌, ◌++◌, ◌-◌, ◌*◌, length, take}
use Rattle.auc_prf.specs.Generator.{number_of, words}
use Rattle.auc_prf.proofs.generator.stream.Given as goal

-- the words so far are written, and those that XKEY still gives follow them
abbrev pub invariant-loop-i : goal.invariant-loop-i
invariant-loop-i l = (length l.out ≡ 160)
    × (take (20 * l.i) l.out ++ words (8 - l.i) (number_of l.xkey) ≡ words 8 (number_of l.fn.xkey))
