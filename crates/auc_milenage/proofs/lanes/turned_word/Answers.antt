use Rattle.auc_milenage.proofs.TurnLemmas.{word_turned}
use Rattle.auc_milenage.proofs.lanes.turned_word.Goals as goal

pub returns : goal.returns
returns c = word_turned c.args.block c.fits-block.0 c.fits-block.1
