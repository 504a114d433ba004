use Rattle.std.proofs.Common.{◌≡◌, drop}
use Rattle.auc_block.specs.MemWire.{first_above}
use Rattle.auc_block.proofs.mem_wire.first_above.Given as goal

abbrev pub invariant-loop-number : goal.invariant-loop-number
invariant-loop-number l = first_above (drop l.number-index l.numbers) l.least ≡ first_above l.numbers l.least
