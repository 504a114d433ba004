use Rattle.std.proofs.Common.{take}
use Rattle.std.specs.Prelude.{All}
use Rattle.auc_released.specs.Room.{IsRoomier}
use Rattle.auc_record.specs.InnerRoom.{HasRoomForLines}
use Rattle.auc_record.proofs.noting.make_room_for_jobs.Given as goal

abbrev pub invariant-loop-record : goal.invariant-loop-record
invariant-loop-record l = record {
  roomier : IsRoomier l.initial.released l.released;
  there : All (HasRoomForLines l.released) (take l.record-index l.records);
}
