use Rattle.auc_named.proofs.NamingLemmas.{AreFirst}
use Rattle.auc_named.proofs.own_rows.own_rows.Given as goal

abbrev pub invariant-loop-place : goal.invariant-loop-place
invariant-loop-place l = AreFirst l.subs l.places l.place-index l.own
