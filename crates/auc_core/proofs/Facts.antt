-- What other crates may cite of the proofs here; every other module is private.
pub use Rattle.auc_core.proofs.RunLemmas.{answer_is_legal, known_subscriber, steps_keep_tops, word_of_step}
