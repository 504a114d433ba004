-- What other crates may cite of the proofs here; every other module is private.
pub use Rattle.auc_disk.proofs.PutLemmas.{put-within}
pub use Rattle.auc_disk.specs.InnerTorn.{length-put_over}
pub use Rattle.auc_disk.specs.InnerReplay.{some_is}
