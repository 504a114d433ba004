-- What other crates may cite of the proofs here; every other module is private.
pub use Rattle.auc_print.proofs.OneTextLemmas.{are_identities, one_transcript}
