use Rattle.auc_seal.proofs.EncryptionLemmas.{encrypted_decrypts}
use Rattle.auc_seal.proofs.law.encrypted_attributes_are_decrypted.Goals as goal

pub returns : goal.returns
returns c = encrypted_decrypts
