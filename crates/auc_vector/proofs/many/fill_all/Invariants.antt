use Rattle.std.proofs.Common.{◌≡◌, ◌-◌, ◌≤◌, [], length, take}
use Rattle.auc_hmac.specs.declared.method.Method.TheVariants.{Aka}
use Rattle.auc_vector.specs.Many.{vectors_of}
use Rattle.auc_vector.proofs.many.fill_all.Given as goal

abbrev pub invariant-loop-at : goal.invariant-loop-at
invariant-loop-at l = record {
  within : l.at ≤ length l.rands;
  size : length l.out ≡ length l.rands;
  done : take l.at l.out ≡ vectors_of l.m Aka l.amf [] l.bits l.first (take l.at l.rands);
}

abbrev pub decreases-loop-at : goal.decreases-loop-at
decreases-loop-at l = length l.rands - l.at
