use Rattle.auc_aes.proofs.LaneHalves.{first_of}
use Rattle.auc_aes.proofs.pairs.first_half.Goals as goal

pub returns : goal.returns
returns c a b e same = first_of c.args.v a b e same
