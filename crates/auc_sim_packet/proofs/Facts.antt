-- What other crates may cite of the proofs here; every other module is private.
pub use Rattle.auc_sim_packet.proofs.FoundLemmas.{AreRands, rands_read}
pub use Rattle.auc_sim_packet.proofs.MessageLemmas.{challenge_may, challenge_response_may, client_error_may, failure_may, start_request_may, start_response_may, success_may}
pub use Rattle.auc_sim_packet.proofs.ReceivedLemmas.{one_received, written_is_received}
pub use Rattle.auc_sim_packet.proofs.SealedLemmas.{sealed_is_read, sealed_is_right}
