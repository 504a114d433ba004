-- What other crates may cite of the proofs here; every other module is private.
pub use Rattle.auc_subs.proofs.TopLemmas.{drawn_within, length-tops_of, top_at-row, top_at-within, tops_within}
