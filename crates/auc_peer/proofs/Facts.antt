-- What other crates may cite of the proofs here; every other module is private.
pub use Rattle.auc_peer.proofs.MoveLemmas.{Waits, in_waits}
pub use Rattle.auc_peer.proofs.ReauthLemmas.{Ends, IsTaken, on_reauth, opening}
pub use Rattle.auc_peer.proofs.TurnLemmas.{row_once}
