-- What other crates may cite of the proofs here; every other module is private.
pub use Rattle.auc_edge.proofs.SinkLemmas.{Appends-more}
