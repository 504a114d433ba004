use Rattle.auc_attr.proofs.SpellingLemmas.{written_is_read_in}
use Rattle.auc_attr.proofs.law.written_items_are_read.Goals as goal

pub returns : goal.returns
returns c = written_is_read_in
