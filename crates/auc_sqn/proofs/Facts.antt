-- What other crates may cite of the proofs here; every other module is private.
pub use Rattle.auc_sqn.proofs.BitLemmas.{by_bits, indices_positive, indices_within, quotient_within, remainder_within, top_least, top_most, top_of-5, top_some, top_within}
pub use Rattle.auc_sqn.proofs.NumberLemmas.{each_number_has_its_own_sqn, ind_of-sqn_bytes, seq_of-sqn_bytes, value_of-sqn_bytes}
