-- The law is a lemma on transcripts, by the laws of triplets and of sessions.
use Rattle.auc_transcript.proofs.SimSessionLemmas.{each_sim_session_agrees}
use Rattle.auc_transcript.proofs.law.each_sim_session_agrees.Goals as goal

pub returns : goal.returns
returns c = each_sim_session_agrees (record {
  card = c.each_card_has_the_triplet_of_its_vector.ensures;
  agree = c.each_session_agrees.ensures;
  complete = c.each_plain_session_succeeds.ensures;
})
