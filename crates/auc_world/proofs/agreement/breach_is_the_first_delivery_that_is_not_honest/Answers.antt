use Rattle.auc_world.proofs.PremiseLemmas.{breach_is_first, broken_tells}
use Rattle.auc_world.proofs.agreement.breach_is_the_first_delivery_that_is_not_honest.Goals as goal

pub returns-clause-tells : goal.returns-clause-tells
returns-clause-tells c = broken_tells

pub returns-clause-first : goal.returns-clause-first
returns-clause-first c = breach_is_first
