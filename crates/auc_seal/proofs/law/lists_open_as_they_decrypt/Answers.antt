use Rattle.auc_seal.proofs.OpeningLemmas.{opens_as_decrypts}
use Rattle.auc_seal.proofs.law.lists_open_as_they_decrypt.Goals as goal

pub returns : goal.returns
returns c = opens_as_decrypts
