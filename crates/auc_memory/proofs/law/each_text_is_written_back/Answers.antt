use Rattle.auc_memory.proofs.IdentityLemmas.{digits_of-identity_of}
use Rattle.auc_memory.proofs.law.each_text_is_written_back.Goals as goal

pub returns : goal.returns
returns c = digits_of-identity_of
