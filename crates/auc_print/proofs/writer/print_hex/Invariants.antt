-- The digits of the bytes so far were appended.
use Rattle.std.proofs.Common.{◌≡◌, ◌++◌, length}
use Rattle.hex.specs.Hex.{encode_lower}
use Rattle.auc_print.specs.Inner.{IsFrontOf}
use Rattle.auc_print.proofs.writer.print_hex.Given as goal

abbrev pub invariant-loop-rest : goal.invariant-loop-rest
invariant-loop-rest l = record {
  printed : l.out ++ encode_lower l.rest ≡ l.initial.out ++ encode_lower l.bytes;
  grows : IsFrontOf l.initial.out l.out;
}

abbrev pub decreases-loop-rest : goal.decreases-loop-rest
decreases-loop-rest l = length l.rest
