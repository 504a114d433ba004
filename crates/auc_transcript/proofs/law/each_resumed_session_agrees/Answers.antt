-- The law is a lemma on transcripts, by the law of a resumed session in a job's network, and by the laws of bytes, of decryption and of runs.
use Rattle.auc_transcript.proofs.ResumedLemmas.{each_resumed_session_agrees}
use Rattle.auc_transcript.proofs.law.each_resumed_session_agrees.Goals as goal

pub returns : goal.returns
returns c = each_resumed_session_agrees (record {
  telling = record {
    received = c.equal_bytes_are_received_alike.ensures;
    walk = c.bytes_have_one_reading_or_one_fault.ensures;
    opening = c.opening_has_one_answer.ensures;
    runs = c.each_session_has_one_run.ensures;
  };
  resumed = c.each_resumed_session_succeeds.ensures;
})
