-- The lines of the previous closings were appended.
use Rattle.std.proofs.Common.{◌≡◌, ◌++◌, flat_map, take}
use Rattle.auc_print.specs.Text.{identities_of, closing_words, spaced}
use Rattle.auc_print.proofs.line.print_closings.Given as goal

abbrev pub invariant-loop-closing : goal.invariant-loop-closing
invariant-loop-closing l = l.out ≡ l.initial.out ++ flat_map (λ closing. spaced (closing_words (identities_of l.subs) closing)) (take l.closing-index l.closings)
