use Rattle.std.proofs.Common.{◌≡◌, ◌++◌, length}
use Rattle.std.specs.List.{join_with_byte}
use Rattle.auc_text.specs.Text.{words_of}
use Rattle.auc_text.proofs.TextLemmas.{spaced}
use Rattle.auc_text.proofs.text.joined.Given as goal

abbrev pub invariant-loop-word : goal.invariant-loop-word
invariant-loop-word l = join_with_byte 32 (words_of l.text) ≡ l.line ++ spaced (words_of l.rest)

abbrev pub decreases-loop-word : goal.decreases-loop-word
decreases-loop-word l = length l.rest
