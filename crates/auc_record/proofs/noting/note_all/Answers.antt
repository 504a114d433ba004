use Rattle.auc_released.proofs.Facts.{roomier_has}
use Rattle.auc_record.proofs.NotingLemmas.{released_same}
use Rattle.auc_record.proofs.noting.note_all.Goals as goal

pub returns-clause-noted : goal.returns-clause-noted
returns-clause-noted c = λ before are.
    let made = c.make_room_for_jobs.new.released in
    c.note_jobs.ensures.noted before (released_same c.args.released.now made (roomier_has c.args.released.now made c.in_default.ensures.roomier) before are)
