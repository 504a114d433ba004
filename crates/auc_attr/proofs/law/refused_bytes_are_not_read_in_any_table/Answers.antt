use Rattle.auc_attr.proofs.LawLemmas.{refused_is_not_read_in}
use Rattle.auc_attr.proofs.law.refused_bytes_are_not_read_in_any_table.Goals as goal

pub returns : goal.returns
returns c = refused_is_not_read_in
