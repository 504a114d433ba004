-- What other crates may cite of the proofs here; every other module is private.
pub use Rattle.auc_keeper.proofs.MomentLemmas.{begins_left, both_leave, leaves_less, left_more}
