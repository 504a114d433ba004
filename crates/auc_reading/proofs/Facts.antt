-- What other crates may cite of the proofs here; every other module is private.
pub use Rattle.auc_reading.proofs.FieldLemmas.{must_fail, must_hold}
