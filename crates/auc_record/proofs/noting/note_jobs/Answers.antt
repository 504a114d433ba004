use Rattle.std.proofs.Common.{◌++◌, ◌∙◌, take, sym, subst}
use Rattle.std.proofs.lemmas.List.{take_more}
use Rattle.auc_record.specs.InnerRoom.{HasRoomForLines}
use Rattle.auc_record.specs.Lines.{all_lines}
use Rattle.auc_record.proofs.NotingLemmas.{lines_room_stays, released_job}
use Rattle.auc_record.proofs.noting.note_jobs.Goals as goal

pub loop-record-preserved : goal.loop-record-preserved
loop-record-preserved c = record {
  noted = λ before are.
      released_job c.note_lines.new.released before c.args.records.now c.loop-record.record-index _ c.as_slice.result.now (take_more _ _ c.record-item.result c.loop-record-test.true)
      (c.as_slice.ensures ∙ c.record-item.is)
      (c.note_lines.ensures.noted (before ++ all_lines (take c.loop-record.record-index c.args.records.now)) (c.loop-record.invariant.noted before are));
  room = λ number there. c.note_lines.ensures.room number (c.loop-record.invariant.room number there);
}

pub note_lines-requires : goal.note_lines-requires
note_lines-requires c =
    subst (HasRoomForLines c.loop-record.released) (sym (c.as_slice.ensures ∙ c.record-item.is))
    (lines_room_stays c.args.released.now c.loop-record.released c.loop-record.invariant.room _ (c.requires c.loop-record.record-index c.record-item.result c.loop-record-test.true))
