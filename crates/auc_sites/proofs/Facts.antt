-- What other crates may cite of the proofs here; every other module is private.
pub use Rattle.auc_sites.proofs.DrawingLemmas.{Joins, Rises, Stays, drawn_above, drawn_more}
pub use Rattle.auc_sites.proofs.StateLemmas.{state_after, state_after_delivery}
