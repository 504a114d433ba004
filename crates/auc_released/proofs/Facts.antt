-- What other crates may cite of the proofs here; every other module is private.
pub use Rattle.auc_released.proofs.RoomLemmas.{roomier_front, roomier_has, roomier_room, roomier_same, roomier_twice}
