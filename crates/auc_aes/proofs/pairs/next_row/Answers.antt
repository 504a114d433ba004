use Rattle.std.proofs.Common.{refl}
use Rattle.auc_aes.specs.Lanes.{next_rows}
use Rattle.auc_aes.proofs.LaneHalves.{both_moved}
use Rattle.auc_aes.proofs.pairs.next_row.Goals as goal

pub returns : goal.returns
returns c x y e f same = both_moved next_rows c.args.v x y refl e f same
