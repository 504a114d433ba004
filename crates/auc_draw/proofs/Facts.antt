-- What other crates may cite of the proofs here; every other module is private.
pub use Rattle.auc_draw.proofs.BookLemmas.{each_job_is_claimed_once}
pub use Rattle.auc_draw.proofs.OrderLemmas.{after_both, after_last, after_none, in_order_both, in_order_last, in_order_none}
pub use Rattle.auc_draw.proofs.PassLemmas.{just_drawn, kept_after}
pub use Rattle.auc_draw.proofs.StepLemmas.{claims_made, claims_more, entries_claimed, entries_other, entries_same}
