-- The numbers that lines release, by the rows of their subscribers.
use Rattle.std.specs.Prelude.{ℕ, ◌≤◌, List, All}
use Rattle.auc_subs.specs.Subscriber.{top_at}
use Rattle.auc_subs.specs.declared.row.Row.{Row}
use Rattle.auc_record.specs.Lines.{numbers_of}
use Rattle.auc_record.specs.declared.record.LineRecord.{LineRecord}

-- no line releases a number that is above its subscriber's greatest one
abbrev pub AreNumbers : List Row → List LineRecord → Type 0
AreNumbers rows lines = (sub : ℕ) → All (λ n. n ≤ top_at rows sub) (numbers_of sub lines)
