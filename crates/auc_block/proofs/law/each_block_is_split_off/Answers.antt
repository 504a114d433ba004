use Rattle.auc_block.proofs.BlockLemmas.{split_off}
use Rattle.auc_block.proofs.law.each_block_is_split_off.Goals as goal

pub returns : goal.returns
returns c = split_off
