use Rattle.auc_subs.proofs.LawLemmas.{refused_record_is_the_first_wrong}
use Rattle.auc_subs.proofs.law.refused_record_is_the_first_wrong.Goals as goal

pub returns : goal.returns
returns c = refused_record_is_the_first_wrong
