-- What other crates may cite of the proofs here; every other module is private.
pub use Rattle.auc_transcript.proofs.AboveLemmas.{above_reserved}
pub use Rattle.auc_transcript.proofs.AcceptedLemmas.{accepts_none_twice}
pub use Rattle.auc_transcript.proofs.CourseLemmas.{early_of_end, leads_more, raises_again, raises_first, raises_round, raises_whole}
pub use Rattle.auc_transcript.proofs.FailureLemmas.{each_failure_is_by_place}
pub use Rattle.auc_transcript.proofs.VectorLemmas.{keeps_numbers_apart}
