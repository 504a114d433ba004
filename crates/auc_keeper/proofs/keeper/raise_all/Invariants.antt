-- The pass with the limits that were raised so far.
use Rattle.std.proofs.Common.{◌≡◌, ◌≤◌, length, take}
use Rattle.auc_keeper.specs.Keeper.{set_all}
use Rattle.auc_keeper.proofs.keeper.raise_all.Given as goal

abbrev pub invariant-loop-item : goal.invariant-loop-item
invariant-loop-item l = record {
  within : l.item-index ≤ length l.items;
  raised : l.pass ≡ record l.initial.pass { limits = set_all l.initial.pass.limits (take l.item-index l.items) };
}
