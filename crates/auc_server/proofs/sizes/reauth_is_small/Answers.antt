use Rattle.auc_server.specs.Messages.{reauth_in}
use Rattle.auc_server.proofs.MessageLemmas.{is_small}
use Rattle.auc_server.proofs.sizes.reauth_is_small.Goals as goal

pub returns : goal.returns
returns c =
    is_small c.encrypted_attributes_may_be_written.ensures c.args.sent.now.context.k_encr c.args.iv (reauth_in c.args.realm.now c.args.sent.now)
    c.are_blocks.ensures.key c.are_blocks.ensures.iv c.reauth_may_be_encrypted.ensures
