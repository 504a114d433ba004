use Rattle.std.proofs.Common.{◌≡◌, map, take, length}
use Rattle.std.specs.List.{range_with_len}
use Rattle.auc_random.specs.Random.{rand_of}
use Rattle.auc_load.proofs.pieces.rands_of.Given as goal

abbrev pub invariant-loop-i : goal.invariant-loop-i
invariant-loop-i l = record {
  size : length l.rands ≡ 16;
  kept : l.stream ≡ l.fn.stream;
  made : take l.i l.rands ≡ map (rand_of l.fn.stream.key l.fn.stream.sub) (range_with_len l.first l.i);
}
