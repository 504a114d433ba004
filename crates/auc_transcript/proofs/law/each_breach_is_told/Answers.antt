-- The laws are lemmas on transcripts, by the laws of bytes, of decryption and of runs.
use Rattle.auc_transcript.proofs.BreachLemmas.{each_breach_is_told, each_transcript_has_its_nets}
use Rattle.auc_transcript.proofs.law.each_breach_is_told.Goals as goal

pub returns-clause-nets : goal.returns-clause-nets
returns-clause-nets c = each_transcript_has_its_nets (record {
  received = c.equal_bytes_are_received_alike.ensures;
  walk = c.bytes_have_one_reading_or_one_fault.ensures;
  opening = c.opening_has_one_answer.ensures;
  runs = c.each_session_has_one_run.ensures;
})

pub returns-clause-told : goal.returns-clause-told
returns-clause-told c = each_breach_is_told (record {
  received = c.equal_bytes_are_received_alike.ensures;
  walk = c.bytes_have_one_reading_or_one_fault.ensures;
  opening = c.opening_has_one_answer.ensures;
  runs = c.each_session_has_one_run.ensures;
})
