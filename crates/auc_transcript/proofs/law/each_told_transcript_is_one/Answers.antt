-- The law is a lemma on transcripts, by the laws of bytes, of decryption and of runs.
use Rattle.auc_transcript.proofs.OneToldLemmas.{each_told_transcript_is_one}
use Rattle.auc_transcript.proofs.law.each_told_transcript_is_one.Goals as goal

pub returns : goal.returns
returns c = each_told_transcript_is_one (record {
  received = c.equal_bytes_are_received_alike.ensures;
  walk = c.bytes_have_one_reading_or_one_fault.ensures;
  opening = c.opening_has_one_answer.ensures;
  runs = c.each_session_has_one_run.ensures;
})
