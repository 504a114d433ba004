use Rattle.auc_attr.proofs.SpellingLemmas.{written_attributes_are_read}
use Rattle.auc_attr.proofs.law.written_attributes_are_read.Goals as goal

pub returns : goal.returns
returns c = written_attributes_are_read
