use Rattle.std.proofs.Common.{◌≡◌, ◌++◌, length, drop}
use Rattle.auc_sites.specs.Master.{nothing_granted}
use Rattle.auc_sites.proofs.master.Master.restart.Given as goal

abbrev pub invariant-loop-last : goal.invariant-loop-last
invariant-loop-last l = record {
  size : length l.last-items ≡ length l.initial.last-items;
  front : l.last-items ≡ nothing_granted l.last-index ++ drop l.last-index l.initial.last-items;
}
