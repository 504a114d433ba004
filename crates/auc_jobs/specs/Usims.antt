-- The USIMs of the subscribers, as a round's lines leave them.
use Rattle.std.specs.Prelude.{◌≡◌, ℕ, List, Option, Some, slice_get}
use Rattle.auc_sqn.specs.Past.{Remembers}
use Rattle.auc_subs.specs.declared.row.Row.{Row}
use Rattle.auc_world.specs.Given.{past_by}
use Rattle.auc_usim.specs.Usim.{Memory}
use Rattle.auc_record.specs.declared.record.LineRecord.{LineRecord}
pub use Rattle.auc_cards.specs.Usims.{HaveSecrets, AreOfRows}

-- after some lines each USIM remembers its opening, and what they say that it accepted
abbrev pub AreBehind : List Row → List LineRecord → (ℕ → Option Memory) → Type 0
AreBehind rows lines usims = (sub : ℕ) (row : Row) (usim : Memory) → slice_get rows sub ≡ Some row → usims sub ≡ Some usim
    → Remembers usim.array (past_by row sub lines)
