-- What other crates may cite of the proofs here; every other module is private.
pub use Rattle.auc_cards.proofs.DeviceLemmas.{at_within, devices_found, drop_from, helds_known, holds_held}
