-- The law is a lemma on the plain session.
use Rattle.auc_sim.proofs.CompletenessLemmas.{plain_succeeds}
use Rattle.auc_sim.proofs.session_law.each_plain_session_succeeds.Goals as goal

pub returns : goal.returns
returns c = plain_succeeds
