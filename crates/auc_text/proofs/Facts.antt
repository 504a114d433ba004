-- What other crates may cite of the proofs here; every other module is private.
pub use Rattle.auc_text.proofs.TextLemmas.{has_part, line_first, line_last}
