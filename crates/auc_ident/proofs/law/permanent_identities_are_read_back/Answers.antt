use Rattle.auc_ident.proofs.IdentLemmas.{each_permanent_is_read_back}
use Rattle.auc_ident.proofs.law.permanent_identities_are_read_back.Goals as goal

pub returns : goal.returns
returns c = each_permanent_is_read_back c.each_identity_is_read_back.ensures c.each_text_is_written_back.ensures
