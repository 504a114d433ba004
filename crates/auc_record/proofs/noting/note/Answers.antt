use Rattle.std.proofs.Common.{Bool, ◌||◌, ◌∙◌, ap}
use Rattle.auc_released.proofs.Facts.{roomier_has}
use Rattle.auc_record.specs.Lines.{is_in, released_by}
use Rattle.auc_record.proofs.noting.note.Goals as goal

pub returns-clause-noted : goal.returns-clause-noted
returns-clause-noted c = λ s m.
    c.note_line.ensures.noted s m
    ∙ ap (λ (b : Bool). b || is_in m (released_by s c.args.line.now)) (roomier_has c.args.released.now c.make_room_for_line.new.released c.in_ok-make_room_for_line.ensures.roomier s m)
