use Rattle.auc_aes.proofs.LaneHalves.{second_of}
use Rattle.auc_aes.proofs.pairs.second_half.Goals as goal

pub returns : goal.returns
returns c a b e f same = second_of c.args.v a b e f same
