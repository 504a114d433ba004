-- What other crates may cite of the proofs here; every other module is private.
pub use Rattle.auc_memory.proofs.IdentityLemmas.{below_more, digit_most, digits_of_injective, number_of_more}
