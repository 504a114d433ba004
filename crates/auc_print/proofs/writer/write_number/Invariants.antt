-- The digits that are still to be written and those that were are the number's. There is room for the former and a space.
use Rattle.std.proofs.Common.{◌≡◌, ◌-◌, ◌^◌, ◌<◌, ◌≤◌, ◌++◌, length, drop, decimal}
use Rattle.auc_print.proofs.writer.write_number.Given as goal

abbrev pub invariant-loop-rest : goal.invariant-loop-rest
invariant-loop-rest l = record {
  low : 2 ≤ l.place;
  high : l.place ≤ 21;
  fits : l.rest < 10 ^ (l.place - 1);
  size : length l.room ≡ 21;
  digits : decimal l.rest ++ drop l.place l.room ≡ decimal l.number;
}

abbrev pub decreases-loop-rest : goal.decreases-loop-rest
decreases-loop-rest l = l.rest
