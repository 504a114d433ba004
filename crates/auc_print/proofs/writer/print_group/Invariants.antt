-- The previous words were appended.
use Rattle.std.proofs.Common.{◌≡◌, ◌++◌, take}
use Rattle.auc_print.specs.Inner.{after_spaces, group_texts}
use Rattle.auc_print.proofs.writer.print_group.Given as goal

abbrev pub invariant-loop-word : goal.invariant-loop-word
invariant-loop-word l = l.out ≡ l.initial.out ++ after_spaces (group_texts (take l.word-index l.group))
