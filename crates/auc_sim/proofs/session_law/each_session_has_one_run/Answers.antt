-- The law is a lemma on deliveries, since equal bytes are received alike.
use Rattle.auc_sim.proofs.OneRunLemmas.{each_session_has_one_run}
use Rattle.auc_sim.proofs.session_law.each_session_has_one_run.Goals as goal

pub returns : goal.returns
returns c = each_session_has_one_run
