use Rattle.std.proofs.Common.{subst}
use Rattle.std.proofs.lemmas.List.{take_all, take_more}
use Rattle.auc_released.proofs.Facts.{roomier_room, roomier_twice}
use Rattle.auc_record.specs.InnerRoom.{HasRoomForLine, HasRoomForLines}
use Rattle.auc_record.proofs.NotingLemmas.{lines_room_take}
use Rattle.auc_record.proofs.noting.make_room_for_lines.Goals as goal

pub loop-line-preserved : goal.loop-line-preserved
loop-line-preserved c =
    let made = c.make_room_for_line.new.released in
    let roomier = c.in_ok-make_room_for_line.ensures.roomier in
    record {
      roomier = roomier_twice c.args.released.now c.loop-line.released made c.loop-line.invariant.roomier roomier;
      there =
          lines_room_take c.loop-line.released made c.args.lines.now c.loop-line.line-index _ (roomier_room c.loop-line.released made roomier)
          (take_more _ _ c.line-item.result c.loop-line-test.true) c.loop-line.invariant.there
          (subst (HasRoomForLine made) c.line-item.is c.in_ok-make_room_for_line.ensures.there);
    }

pub returns-clause-there : goal.returns-clause-there
returns-clause-there c = subst (HasRoomForLines c.loop-line.released) (take_all c.loop-line.line-index c.args.lines.now c.loop-line-test.false) c.loop-line.invariant.there
