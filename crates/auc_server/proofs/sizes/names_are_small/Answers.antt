use Rattle.auc_server.specs.Messages.{names_in}
use Rattle.auc_server.proofs.MessageLemmas.{is_small}
use Rattle.auc_server.proofs.sizes.names_are_small.Goals as goal

pub returns : goal.returns
returns c =
    is_small c.encrypted_attributes_may_be_written.ensures c.args.k_encr c.args.iv (names_in c.args.realm.now c.args.names) c.are_blocks.ensures.key
    c.are_blocks.ensures.iv c.names_may_be_encrypted.ensures
