-- Inner facts: what only private contracts of this crate cite. Here: what vectors are made with.
use Rattle.std.specs.Prelude.{Option, Some, None}
use Rattle.auc_subs.specs.Setting.{Setting}
use Rattle.auc_record.specs.declared.bytes.Source.{Source}
use Rattle.auc_record.specs.Vectors.{AreOfRow}

-- if there is a source of a subscriber's vectors, it is that of its row
abbrev pub IsSourceOf : Setting → Option Source → Type 0
IsSourceOf set None = Unit {0}
IsSourceOf set (Some source) = AreOfRow set.key set.rows source.sub source.vectors
