-- The rest of the entries goes on from the number so far exactly where all of them go from the opening.
use Rattle.std.proofs.Common.{ℕ, ◌↔◌, drop}
use Rattle.auc_history.proofs.Walk.{Goes}
use Rattle.auc_history.proofs.legal.is_legal.Given as goal

abbrev pub invariant-loop-entry : goal.invariant-loop-entry
invariant-loop-entry l = (closing : ℕ) → Goes l.top l.word (drop l.entry-index l.entries) closing ↔ Goes l.top l.opening l.entries closing
