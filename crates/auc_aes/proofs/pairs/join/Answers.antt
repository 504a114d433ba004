use Rattle.std.proofs.Common.{arith}
use Rattle.auc_aes.proofs.LaneHalves.{joined}
use Rattle.auc_aes.proofs.pairs.join.Goals as goal

pub returns : goal.returns
returns c = joined c.args.a c.args.b (omega arith) (omega arith)
