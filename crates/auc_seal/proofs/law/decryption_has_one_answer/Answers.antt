use Rattle.auc_seal.proofs.EncryptionLemmas.{one_answer}
use Rattle.auc_seal.proofs.law.decryption_has_one_answer.Goals as goal

pub returns : goal.returns
returns c = one_answer
