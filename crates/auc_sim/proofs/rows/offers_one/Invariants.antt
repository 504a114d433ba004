use Rattle.std.proofs.Common.{◌≡◌, length}
use Rattle.auc_sim.specs.Peer.{offers_one}
use Rattle.auc_sim.proofs.rows.offers_one.Given as goal

-- what is left decides
abbrev pub invariant-loop-rest : goal.invariant-loop-rest
invariant-loop-rest l = offers_one l.rest ≡ offers_one l.initial.versions

abbrev pub decreases-loop-rest : goal.decreases-loop-rest
decreases-loop-rest l = length l.rest
