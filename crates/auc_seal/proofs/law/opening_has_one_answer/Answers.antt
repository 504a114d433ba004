use Rattle.auc_seal.proofs.OpeningLemmas.{one_opening}
use Rattle.auc_seal.proofs.law.opening_has_one_answer.Goals as goal

pub returns : goal.returns
returns c = one_opening
