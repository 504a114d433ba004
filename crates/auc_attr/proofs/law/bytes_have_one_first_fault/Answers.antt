use Rattle.auc_attr.proofs.AkaLemmas.{one_fault}
use Rattle.auc_attr.proofs.law.bytes_have_one_first_fault.Goals as goal

pub returns : goal.returns
returns c = one_fault
