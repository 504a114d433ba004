use Rattle.std.proofs.Common.{take}
use Rattle.auc_released.specs.Room.{IsRoomier}
use Rattle.auc_record.specs.InnerRoom.{HasRoomForLines}
use Rattle.auc_record.proofs.noting.make_room_for_lines.Given as goal

abbrev pub invariant-loop-line : goal.invariant-loop-line
invariant-loop-line l = record {
  roomier : IsRoomier l.initial.released l.released;
  there : HasRoomForLines l.released (take l.line-index l.lines);
}
