use Rattle.auc_attr.proofs.LawLemmas.{read_is_writable_in}
use Rattle.auc_attr.proofs.law.read_items_may_be_written.Goals as goal

pub returns : goal.returns
returns c = read_is_writable_in
