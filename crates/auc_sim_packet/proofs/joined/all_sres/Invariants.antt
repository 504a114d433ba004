use Rattle.std.proofs.Common.{◌≡◌, ◌*◌, flat_map, take, length}
use Rattle.auc_sim_packet.specs.Keys.{sres_in}
use Rattle.auc_sim_packet.proofs.joined.all_sres.Given as goal

-- the values so far stand at the front
abbrev pub invariant-loop-i : goal.invariant-loop-i
invariant-loop-i l = (length l.out ≡ 12) × (take (4 * l.i) l.out ≡ flat_map sres_in (take l.i l.triplets))
