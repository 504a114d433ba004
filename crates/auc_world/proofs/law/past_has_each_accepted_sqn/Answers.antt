-- The law is a lemma on pasts.
use Rattle.auc_world.proofs.PastLemmas.{each_accepted_in_past}
use Rattle.auc_world.proofs.law.past_has_each_accepted_sqn.Goals as goal

pub returns : goal.returns
returns c = each_accepted_in_past
