use Rattle.auc_milenage.proofs.TurnLemmas.{zip2_is}
use Rattle.auc_milenage.proofs.lanes.sum.Goals as goal

pub returns : goal.returns
returns c = zip2_is c.args.a c.args.b
