-- The verdict by the entry, the greatest entry and the age limit. With these answers a body that judges otherwise is refused at once.
use Rattle.std.proofs.Common.{rules}
use Rattle.auc_sqn.proofs.sqn_array.SqnArray.verdict.Goals as goal

pub returns-then-seq-entry : goal.returns-then-seq-entry
returns-then-seq-entry c = search rules

pub returns-then-seq-greatest : goal.returns-then-seq-greatest
returns-then-seq-greatest c = search rules

pub returns-then-is_aged : goal.returns-then-is_aged
returns-then-is_aged c = search rules

pub returns-else-is_aged : goal.returns-else-is_aged
returns-else-is_aged c = search rules
