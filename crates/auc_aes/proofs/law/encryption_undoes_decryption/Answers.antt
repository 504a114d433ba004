use Rattle.auc_aes.proofs.InverseLemmas.{aes_inverse_undone}
use Rattle.auc_aes.proofs.CbcInverseLemmas.{cbc_decrypted_undone}
use Rattle.auc_aes.proofs.law.encryption_undoes_decryption.Goals as goal

pub returns : goal.returns
returns c = record {
  block = λ key block k h. aes_inverse_undone key block k h;
  cbc = λ key iv bytes k v h whole. cbc_decrypted_undone key k iv bytes v h whole;
}
