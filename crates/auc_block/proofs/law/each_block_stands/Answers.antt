use Rattle.auc_block.proofs.BlockLemmas.{stands}
use Rattle.auc_block.proofs.law.each_block_stands.Goals as goal

pub returns : goal.returns
returns c = stands
