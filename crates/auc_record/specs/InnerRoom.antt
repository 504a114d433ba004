-- Inner facts: what only private contracts of this crate cite. Here: room for the numbers that lines release.
use Rattle.std.specs.Prelude.{List, All, Option, Some, None}
use Rattle.auc_released.specs.Room.{HasRoom}
use Rattle.auc_released.specs.declared.numbers.Number.{Number}
use Rattle.auc_record.specs.Lines.{number_of}
use Rattle.auc_record.specs.Released.{Released}
use Rattle.auc_record.specs.declared.record.LineRecord.{LineRecord}

-- a set has room for a number, if there is one
abbrev pub HasRoomFor : Released → Option Number → Type 0
HasRoomFor released None = Unit {0}
HasRoomFor released (Some number) = HasRoom released number

-- the same of the number of a line, and of those of some lines
abbrev pub HasRoomForLine : Released → LineRecord → Type 0
HasRoomForLine released line = HasRoomFor released (number_of line)

abbrev pub HasRoomForLines : Released → List LineRecord → Type 0
HasRoomForLines released lines = All (HasRoomForLine released) lines
