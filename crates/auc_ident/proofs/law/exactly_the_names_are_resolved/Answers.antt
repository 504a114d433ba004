use Rattle.auc_ident.proofs.NameLemmas.{each_name_is_resolved}
use Rattle.auc_ident.proofs.law.exactly_the_names_are_resolved.Goals as goal

pub returns : goal.returns
returns c = each_name_is_resolved c.decryption_undoes_encryption.ensures.block
