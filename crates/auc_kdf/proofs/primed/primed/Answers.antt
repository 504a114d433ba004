-- The updates make the whole input. With an answer a body that leaves a part out is refused at once.
use Rattle.std.proofs.Common.{rules}
use Rattle.auc_kdf.proofs.primed.primed.Goals as goal

pub returns : goal.returns
returns c = search rules
