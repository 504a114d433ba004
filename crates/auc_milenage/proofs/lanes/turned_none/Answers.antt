use Rattle.std.proofs.Common.{sym}
use Rattle.auc_milenage.proofs.TurnLemmas.{rot_0, lanes_are}
use Rattle.auc_milenage.proofs.lanes.turned_none.Goals as goal

pub returns : goal.returns
returns c = sym (rot_0 c.args.block c.fits-block.0 (lanes_are c.args.block c.fits-block.1))
