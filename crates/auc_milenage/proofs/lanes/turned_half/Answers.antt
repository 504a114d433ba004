use Rattle.auc_milenage.proofs.TurnLemmas.{half_turned}
use Rattle.auc_milenage.proofs.lanes.turned_half.Goals as goal

pub returns : goal.returns
returns c = half_turned c.args.block c.fits-block.0 c.fits-block.1
