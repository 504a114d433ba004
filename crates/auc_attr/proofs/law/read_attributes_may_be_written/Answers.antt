use Rattle.auc_attr.proofs.LawLemmas.{read_is_writable}
use Rattle.auc_attr.proofs.law.read_attributes_may_be_written.Goals as goal

pub returns : goal.returns
returns c = read_is_writable
