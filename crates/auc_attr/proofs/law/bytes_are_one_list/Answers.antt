use Rattle.auc_attr.proofs.LawLemmas.{one_list}
use Rattle.auc_attr.proofs.law.bytes_are_one_list.Goals as goal

pub returns : goal.returns
returns c = one_list
