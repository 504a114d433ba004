use Rattle.auc_world.proofs.PlainResumedLemmas.{resumed_succeeds}
use Rattle.auc_world.proofs.agreement.each_resumed_session_succeeds.Goals as goal

pub returns : goal.returns
returns c = resumed_succeeds (record {
  alike = c.equal_bytes_are_received_alike.ensures;
  written = c.written_packets_are_read.ensures;
  sealed_read = c.sealed_messages_are_read.ensures;
  sealed_right = c.sealed_messages_are_right.ensures;
  may_be_hidden = c.encrypted_attributes_may_be_written.ensures;
  decrypted = c.encrypted_attributes_are_decrypted.ensures;
  opened = c.lists_open_as_they_decrypt.ensures;
  permanent = c.permanent_identities_are_read_back.ensures;
  macs = c.each_autn_has_the_mac_of_its_sqn.ensures;
  auts = c.each_auts_is_read_back.ensures;
})
