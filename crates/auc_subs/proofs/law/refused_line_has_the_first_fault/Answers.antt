use Rattle.auc_subs.proofs.LawLemmas.{refused_line_has_the_first_fault}
use Rattle.auc_subs.proofs.law.refused_line_has_the_first_fault.Goals as goal

pub returns : goal.returns
returns c = refused_line_has_the_first_fault
