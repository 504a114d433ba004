-- What other crates may cite of the proofs here; every other module is private.
pub use Rattle.auc_jobs.proofs.HappenLemmas.{Applied, event_serves, placed_after, remember_pasts, secrets_after}
pub use Rattle.auc_jobs.proofs.LineLemmas.{entries_of_lines-append, held_of-append, numbers_of-append, some_at}
pub use Rattle.auc_jobs.proofs.PlaceLemmas.{same_known}
pub use Rattle.auc_jobs.proofs.SettleLemmas.{job_releasable}
