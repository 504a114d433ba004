-- What other crates may cite of the proofs here; every other module is private.
pub use Rattle.auc_aes.proofs.BytesLemmas.{listed, tabulate}
pub use Rattle.auc_aes.proofs.CbcInverseLemmas.{cbc_encrypted_undone}
pub use Rattle.auc_aes.proofs.InverseLemmas.{aes_block, bytes_append, bytes_drop, bytes_take, bytes_xor, length_xor, xor_block, xor_twice}
pub use Rattle.auc_aes.proofs.ManyLemmas.{all_done, none_done, one_done}
