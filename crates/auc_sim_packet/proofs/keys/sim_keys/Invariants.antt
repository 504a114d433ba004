use Rattle.std.proofs.Common.{◌++◌, flat_map, take}
use Rattle.sha1.specs.Sha1.{Holds}
use Rattle.auc_sim_packet.specs.Keys.{kc_in}
use Rattle.auc_sim_packet.proofs.keys.sim_keys.Given as goal

-- the identity and the Kc so far are hashed
abbrev pub invariant-loop-t : goal.invariant-loop-t
invariant-loop-t l = Holds l.hasher (l.identity ++ flat_map kc_in (take l.t-index l.triplets))
