use Rattle.auc_input.proofs.OpeningLemmas.{Opened}
use Rattle.auc_input.proofs.opening.openings.Given as goal

abbrev pub invariant-loop-sub : goal.invariant-loop-sub
invariant-loop-sub g l = Opened l.subs l.journal l.sub l.words.items
