-- What contracts see of some of a round's subscribers.
use Rattle.std.specs.Prelude.{ℕ, List}
use Rattle.auc_lines.specs.declared.part.Line.{Line}
use Rattle.auc_subs.specs.declared.row.Row.{Row}

-- some subscribers' rows, the places of these among all subscribers, and the jobs over them
pub record NamedValue : Type 0 where
  pub rows : List Row
  pub places : List ℕ
  pub jobs : List (List Line)
