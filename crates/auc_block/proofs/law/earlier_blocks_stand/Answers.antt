use Rattle.auc_block.proofs.BlockLemmas.{earlier_stand}
use Rattle.auc_block.proofs.law.earlier_blocks_stand.Goals as goal

pub returns : goal.returns
returns c = earlier_stand
