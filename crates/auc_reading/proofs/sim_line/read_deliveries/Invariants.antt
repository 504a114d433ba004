use Rattle.std.proofs.Common.{◌≡◌, ◌≤◌, length}
use Rattle.auc_reading.specs.SimLine.{delivery_of}
use Rattle.auc_reading.proofs.ScheduleLemmas.{AreRead}
use Rattle.auc_reading.proofs.sim_line.read_deliveries.Given as goal

abbrev pub invariant-loop-text : goal.invariant-loop-text
invariant-loop-text l = record {
  read : AreRead delivery_of l.texts l.text-index l.deliveries;
  within : l.text-index ≤ length l.texts;
  count : length l.deliveries ≡ l.text-index;
}
