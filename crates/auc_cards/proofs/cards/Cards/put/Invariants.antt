use Rattle.std.proofs.Common.{◌≡◌, ◌≤◌, drop, length}
use Rattle.auc_cards.specs.Devices.{usim_among}
use Rattle.auc_cards.specs.Stores.{put_back}
use Rattle.auc_cards.specs.Usims.{ArePut}
use Rattle.auc_cards.proofs.cards.Cards.put.Given as goal

abbrev pub invariant-loop-left : goal.invariant-loop-left
invariant-loop-left l = record {
  low : l.left ≤ length l.homes;
  usims : ArePut l.initial.self.usims (usim_among (drop l.left l.homes) (drop l.left l.devices)) l.self.usims;
  kept : l.self.kept ≡ put_back l.initial.self.kept (drop l.left l.homes) (drop l.left l.devices);
}

abbrev pub decreases-loop-left : goal.decreases-loop-left
decreases-loop-left l = l.left
