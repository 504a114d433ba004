-- What other crates may cite of the proofs here; every other module is private.
pub use Rattle.auc_milenage.proofs.BlockLemmas.{f5_size, out_block}
