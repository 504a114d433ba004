-- The law is a lemma on what both ends know.
use Rattle.auc_sim.proofs.AgreementLemmas.{session_agrees}
use Rattle.auc_sim.proofs.session_law.each_session_agrees.Goals as goal

pub returns : goal.returns
returns c = session_agrees
