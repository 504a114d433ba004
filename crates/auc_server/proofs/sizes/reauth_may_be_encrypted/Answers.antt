use Rattle.auc_server.proofs.MessageLemmas.{reauth_encryptable}
use Rattle.auc_server.proofs.sizes.reauth_may_be_encrypted.Goals as goal

pub returns : goal.returns
returns c =
    reauth_encryptable c.args.realm.now c.args.sent.now c.requires c.are_bytes.ensures c.are_blocks.ensures.iv.size c.are_blocks.ensures.iv.bytes c.is_name.ensures
