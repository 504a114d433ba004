use Rattle.auc_seal.proofs.EncryptionLemmas.{encrypted_writable}
use Rattle.auc_seal.proofs.law.encrypted_attributes_may_be_written.Goals as goal

pub returns : goal.returns
returns c = encrypted_writable
