-- The set of the numbers whose vectors were released.
use Rattle.std.specs.Prelude.{◌≡◌, ℕ, List}
use Rattle.auc_record.specs.Lines.{is_in, numbers_of}
use Rattle.auc_record.specs.declared.record.LineRecord.{LineRecord}
pub use Rattle.auc_released.specs.Numbers.{Released, has}

-- the set has the numbers of the vectors that some lines release, and no other
abbrev pub AreReleased : Released → List LineRecord → Type 0
AreReleased released lines = (sub n : ℕ) → has released sub n ≡ is_in n (numbers_of sub lines)
