use Rattle.auc_ident.proofs.NameLemmas.{equal_names_are_one}
use Rattle.auc_ident.proofs.law.each_name_is_given_once.Goals as goal

pub returns : goal.returns
returns c = equal_names_are_one c.decryption_undoes_encryption.ensures.block
