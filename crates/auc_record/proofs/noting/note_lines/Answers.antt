use Rattle.std.proofs.Common.{◌≡◌, ◌||◌, ℕ, subst, sym, get_or}
use Rattle.std.proofs.lemmas.List.{take_more}
use Rattle.auc_record.specs.Lines.{is_in, released_by}
use Rattle.auc_record.specs.InnerRoom.{HasRoomForLine}
use Rattle.auc_record.specs.Released.{has}
use Rattle.auc_record.specs.declared.record.LineRecord.{LineRecord}
use Rattle.auc_record.proofs.NotingLemmas.{line_room_stays, released_take}
use Rattle.auc_record.proofs.noting.note_lines.Goals as goal

pub loop-line-preserved : goal.loop-line-preserved
loop-line-preserved c = record {
  noted = λ before are.
      released_take c.loop-line.released c.note_line.new.released before c.args.lines.now c.loop-line.line-index _ (take_more _ _ c.line-item.result c.loop-line-test.true)
      (c.loop-line.invariant.noted before are)
      (subst (λ (line : LineRecord). (s m : ℕ) → has c.note_line.new.released s m ≡ (has c.loop-line.released s m || is_in m (released_by s line))) c.line-item.is c.note_line.ensures.noted);
  room = λ number there. c.note_line.ensures.room number (c.loop-line.invariant.room number there);
}

pub note_line-requires : goal.note_line-requires
note_line-requires c =
    subst (HasRoomForLine c.loop-line.released) (sym c.line-item.is)
    (line_room_stays c.args.released.now c.loop-line.released c.loop-line.invariant.room (get_or c.args.lines.now c.loop-line.line-index c.line-item.result) (c.requires c.loop-line.line-index c.line-item.result c.loop-line-test.true))
