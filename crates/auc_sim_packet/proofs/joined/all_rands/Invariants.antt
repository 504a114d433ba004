use Rattle.std.proofs.Common.{◌≡◌, ◌*◌, flat_map, take, length}
use Rattle.auc_sim_packet.specs.Keys.{rand_in}
use Rattle.auc_sim_packet.proofs.joined.all_rands.Given as goal

-- the values so far stand at the front
abbrev pub invariant-loop-i : goal.invariant-loop-i
invariant-loop-i l = (length l.out ≡ 48) × (take (16 * l.i) l.out ≡ flat_map rand_in (take l.i l.triplets))
