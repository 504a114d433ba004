use Rattle.auc_text.proofs.TextLemmas.{line_first}
use Rattle.auc_text.proofs.text.next_line.Goals as goal

pub returns-in-Some-clause-line : goal.returns-in-Some-clause-line
returns-in-Some-clause-line c = rw c.without_cr.ensures (line_first c.args.text.now c.in-Some.line.now c.in-Some.behind.now c.in-Some.ensures.cut)
