-- What all sessions of a home network share: the key of the random bytes, the key of the names, the subscribers, and the
-- realm.
use Rattle.std.specs.Prelude.{ℕ, List}
use Rattle.auc_subs.specs.declared.row.Row.{Row}

pub record Setting : Type 0 where
  pub key : List ℕ
  pub names : List ℕ
  pub rows : List Row
  pub realm : List ℕ
