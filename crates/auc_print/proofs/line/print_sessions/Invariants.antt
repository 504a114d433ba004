-- The lines of the previous verdicts were appended.
use Rattle.std.proofs.Common.{◌≡◌, ◌++◌, flat_map, take}
use Rattle.auc_print.specs.Text.{session_words, spaced}
use Rattle.auc_print.proofs.line.print_sessions.Given as goal

abbrev pub invariant-loop-verdict : goal.invariant-loop-verdict
invariant-loop-verdict l = l.out ≡ l.initial.out ++ flat_map (λ verdict. spaced (session_words verdict)) (take l.verdict-index l.sessions)
