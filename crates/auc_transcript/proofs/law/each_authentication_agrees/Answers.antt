-- The law is a lemma on transcripts, by the laws of the two ends, of vectors and of packets, and by that of contexts.
use Rattle.auc_transcript.proofs.KeysLemmas.{each_authentication_agrees}
use Rattle.auc_transcript.proofs.law.each_authentication_agrees.Goals as goal

pub returns : goal.returns
returns c = each_authentication_agrees (record {
  ends = record {
    server_fits = c.each_turn_keeps_the_keys_of_its_inputs-2.ensures;
    server_moves = c.each_turn_keeps_the_challenge_or_sends_one.ensures;
    peer_fits = c.each_turn_keeps_the_keys_of_its_inputs.ensures;
    peer_moves = c.each_turn_keeps_what_keys_are_made_from.ensures;
    numbers = c.each_autn_carries_the_sqn_of_its_number.ensures.different;
  };
  readings = record {
    alike = c.equal_bytes_are_received_alike.ensures;
    written = c.written_packets_are_read.ensures;
    sealed_read = c.sealed_messages_are_read.ensures;
    may_be_hidden = c.encrypted_attributes_may_be_written.ensures;
    decrypted = c.encrypted_attributes_are_decrypted.ensures;
  };
}) c.each_transcript_keeps_contexts.ensures
