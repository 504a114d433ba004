use Rattle.std.proofs.Common.{◌++◌, List, subst}
use Rattle.std.specs.Prelude.{OnOk}
use Rattle.auc_record.specs.Lines.{all_lines}
use Rattle.auc_record.specs.Released.{AreReleased}
use Rattle.auc_record.specs.declared.record.LineRecord.{LineRecord}
use Rattle.auc_jobs.specs.State.{Standing}
use Rattle.auc_jobs.proofs.state.State.note.Goals as goal

pub returns-clause-noted : goal.returns-clause-noted
returns-clause-noted c =
    subst (λ (s : Standing). OnOk c.note_all.result ((before : List LineRecord) → AreReleased s.released before → AreReleased c.note_all.new.released (before ++ all_lines c.args.records.now))) c.self.view_is
    c.note_all.ensures.noted
