-- What other crates may cite of the proofs here; every other module is private.
pub use Rattle.auc_vector.proofs.AutnLemmas.{autn_carries, autn_has_its_mac}
