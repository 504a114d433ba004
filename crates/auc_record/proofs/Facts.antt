-- What other crates may cite of the proofs here; every other module is private.
pub use Rattle.auc_record.proofs.HeldLemmas.{withheld_of-held_of, none_held}
pub use Rattle.auc_record.proofs.OpeningLemmas.{get_or-lesser, get_or-reopened, length-lesser, length-reopened, lesser_within, reopened_within}
pub use Rattle.auc_record.proofs.VectorLemmas.{all_at}
