-- What other crates may cite of the proofs here; every other module is private.
pub use Rattle.auc_history.proofs.ListLemmas.{AllPairs-cons, AllPairs-head, AllPairs-tail, differ_from_times, times-append, times-cons, times_at}
pub use Rattle.auc_history.proofs.RecutLemmas.{leaves_out-append, leaves_out_none, split_without_looks_is_a_split}
pub use Rattle.auc_history.proofs.SplitLemmas.{cut_history_is_a_split, legal_counts_its_numbers, legal_draws_once, split_counts_its_numbers, times-drawn, times-numbers_after}
pub use Rattle.auc_history.proofs.Walk.{Goes, IsLegal-append, IsLegal-from_goes, IsLegal-nil}
