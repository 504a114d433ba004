use Rattle.std.proofs.Common.{◌≡◌}
use Rattle.sha1.specs.Sha1.{rounds, schedule}
use Rattle.auc_prf.proofs.compression.compress.Given as goal

-- the working variables after the rounds so far
abbrev pub invariant-loop-t : goal.invariant-loop-t
invariant-loop-t l = l.v ≡ rounds l.hash (schedule l.block 64) l.t
