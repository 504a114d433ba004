use Rattle.auc_memory.proofs.IdentityLemmas.{identity_of-digits_of}
use Rattle.auc_memory.proofs.law.each_identity_is_read_back.Goals as goal

pub returns : goal.returns
returns c = identity_of-digits_of
