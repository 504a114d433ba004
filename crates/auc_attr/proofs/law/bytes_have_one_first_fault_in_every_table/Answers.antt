use Rattle.auc_attr.proofs.LawLemmas.{one_fault_in}
use Rattle.auc_attr.proofs.law.bytes_have_one_first_fault_in_every_table.Goals as goal

pub returns : goal.returns
returns c = one_fault_in
