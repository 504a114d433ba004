use Rattle.std.proofs.Common.{refl}
use Rattle.auc_aes.specs.Lanes.{opposite_rows}
use Rattle.auc_aes.proofs.LaneHalves.{both_moved}
use Rattle.auc_aes.proofs.pairs.opposite_row.Goals as goal

pub returns : goal.returns
returns c x y e f same = both_moved opposite_rows c.args.v x y refl e f same
