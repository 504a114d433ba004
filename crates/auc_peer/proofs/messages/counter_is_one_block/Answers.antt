use Rattle.auc_peer.proofs.CounterLemmas.{counter_is_one_block}
use Rattle.auc_peer.proofs.messages.counter_is_one_block.Goals as goal

pub returns : goal.returns
returns c =
    counter_is_one_block c.encrypted_attributes_may_be_written.ensures c.args.k_encr c.args.iv c.args.counter c.args.small c.are_blocks.ensures.key c.are_blocks.ensures.iv
    c.are_blocks.ensures.bytes
