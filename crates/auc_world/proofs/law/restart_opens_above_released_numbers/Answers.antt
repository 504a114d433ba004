-- The law is a lemma on limits.
use Rattle.auc_world.proofs.LimitLemmas.{restart_opens_above}
use Rattle.auc_world.proofs.law.restart_opens_above_released_numbers.Goals as goal

pub returns : goal.returns
returns c = restart_opens_above
