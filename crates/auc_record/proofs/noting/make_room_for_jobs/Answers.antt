use Rattle.std.proofs.Common.{◌∙◌, subst}
use Rattle.std.specs.Prelude.{All}
use Rattle.std.proofs.lemmas.List.{take_all, take_more}
use Rattle.auc_released.proofs.Facts.{roomier_room, roomier_twice}
use Rattle.auc_record.specs.InnerRoom.{HasRoomForLines}
use Rattle.auc_record.proofs.NotingLemmas.{jobs_room_take}
use Rattle.auc_record.proofs.noting.make_room_for_jobs.Goals as goal

pub loop-record-preserved : goal.loop-record-preserved
loop-record-preserved c =
    let made = c.make_room_for_lines.new.released in
    let e = c.in_ok-make_room_for_lines.ensures in
    record {
      roomier = roomier_twice c.args.released.now c.loop-record.released made c.loop-record.invariant.roomier e.roomier;
      there =
          jobs_room_take c.loop-record.released made c.args.records.now c.loop-record.record-index _ c.as_slice.result.now (roomier_room c.loop-record.released made e.roomier)
          (take_more _ _ c.record-item.result c.loop-record-test.true) (c.as_slice.ensures ∙ c.record-item.is) c.loop-record.invariant.there e.there;
    }

pub returns-clause-there : goal.returns-clause-there
returns-clause-there c =
    subst (All (HasRoomForLines c.loop-record.released)) (take_all c.loop-record.record-index c.args.records.now c.loop-record-test.false) c.loop-record.invariant.there
