use Rattle.auc_aes.proofs.InverseLemmas.{aes_undone}
use Rattle.auc_aes.proofs.CbcInverseLemmas.{cbc_encrypted_undone}
use Rattle.auc_aes.proofs.law.decryption_undoes_encryption.Goals as goal

pub returns : goal.returns
returns c = record {
  block = λ key block k h. aes_undone key block k h;
  cbc = λ key iv bytes k v h whole. cbc_encrypted_undone key k iv bytes v h whole;
}
