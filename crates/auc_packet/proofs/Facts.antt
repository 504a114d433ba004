-- What other crates may cite of the proofs here; every other module is private.
pub use Rattle.auc_packet.proofs.LawLemmas.{read_may_be_written}
