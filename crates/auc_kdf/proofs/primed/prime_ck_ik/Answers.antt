-- CK' and IK' are the halves of the MAC. With an answer a body that gives others is refused at once.
use Rattle.std.proofs.Common.{rules}
use Rattle.auc_kdf.proofs.primed.prime_ck_ik.Goals as goal

pub returns-clause-ck : goal.returns-clause-ck
returns-clause-ck c = search rules

pub returns-clause-ik : goal.returns-clause-ik
returns-clause-ik c = search rules
