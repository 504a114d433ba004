use Rattle.auc_server.proofs.MessageLemmas.{names_encryptable}
use Rattle.auc_server.proofs.sizes.names_may_be_encrypted.Goals as goal

pub returns : goal.returns
returns c = names_encryptable c.args.realm.now c.args.names c.requires c.are_bytes.ensures c.are_names.ensures
