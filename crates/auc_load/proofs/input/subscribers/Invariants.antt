use Rattle.std.proofs.Common.{◌≡◌, map}
use Rattle.std.specs.List.{range_with_len}
use Rattle.auc_load.specs.Input.{load_key, row_at}
use Rattle.auc_load.proofs.input.subscribers.Given as goal

abbrev pub invariant-loop-i : goal.invariant-loop-i
invariant-loop-i l = l.subs ≡ map (row_at (load_key l.load.key)) (range_with_len 0 l.i)
