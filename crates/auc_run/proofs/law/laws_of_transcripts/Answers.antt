use Rattle.auc_run.proofs.law.laws_of_transcripts.Goals as goal

pub returns : goal.returns
returns c = record {
  told = c.each_told_transcript_is_one.ensures;
  nets = c.each_breach_is_told.ensures.nets;
  keys = c.each_authentication_agrees.ensures;
  breaches = c.each_breach_is_told.ensures.told;
  in_sessions = c.each_failure_in_sessions_is_by_place.ensures.stretches;
  macs = c.each_failure_in_sessions_is_by_place.ensures.mac;
  contexts = c.each_transcript_keeps_contexts.ensures;
  plain = c.each_plain_session_agrees.ensures;
  resumed = c.each_resumed_session_agrees.ensures;
  authentications = c.each_honest_authentication_is_confirmed.ensures;
  leases = c.each_leased_number_is_handed_out_once.ensures;
  sim_sessions = c.each_sim_session_agrees.ensures;
}
