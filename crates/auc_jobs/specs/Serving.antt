-- The lines of a job that may be served.
use Rattle.std.specs.Prelude.{List, All}
use Rattle.auc_lines.specs.declared.part.Line.{Line}
use Rattle.auc_subs.specs.declared.row.Row.{Row}
pub use Rattle.auc_cards.specs.Known.{IsKnownLine, AreKnown}

-- the jobs of a round
abbrev pub AreAllKnown : List Row → List (List Line) → Type 0
AreAllKnown rows jobs = All (AreKnown rows) jobs
