use Rattle.std.proofs.Common.{◌++◌, take, List}
use Rattle.auc_released.specs.Room.{KeepsRoom}
use Rattle.auc_record.specs.Released.{AreReleased}
use Rattle.auc_record.specs.declared.record.LineRecord.{LineRecord}
use Rattle.auc_record.proofs.noting.note_lines.Given as goal

abbrev pub invariant-loop-line : goal.invariant-loop-line
invariant-loop-line l = record {
  noted : (before : List LineRecord) → AreReleased l.initial.released before → AreReleased l.released (before ++ take l.line-index l.lines);
  room : KeepsRoom l.initial.released l.released;
}
