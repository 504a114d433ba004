use Rattle.std.proofs.Common.{◌++◌, take, List}
use Rattle.auc_released.specs.Room.{KeepsRoom}
use Rattle.auc_record.specs.Lines.{all_lines}
use Rattle.auc_record.specs.Released.{AreReleased}
use Rattle.auc_record.specs.declared.record.LineRecord.{LineRecord}
use Rattle.auc_record.proofs.noting.note_jobs.Given as goal

abbrev pub invariant-loop-record : goal.invariant-loop-record
invariant-loop-record l = record {
  noted : (before : List LineRecord) → AreReleased l.initial.released before → AreReleased l.released (before ++ all_lines (take l.record-index l.records));
  room : KeepsRoom l.initial.released l.released;
}
