-- Inner facts: what only private contracts of this crate cite.
use Rattle.std.specs.Prelude.{ℕ, ◌+◌, ◌&&◌, ◌==◌, nat_lt, nat_le, if◌then◌else◌, Option, Some, None}
use Rattle.auc_history.specs.declared.entry.Entry.{Entry}
use Rattle.auc_history.specs.declared.entry.Entry.TheVariants.{Drawn, Moved, Look}

-- the number after an entry, or none if the entry can't come at this number
abbrev pub next_number : ℕ → ℕ → Entry → Option ℕ
next_number top word (Drawn n) = if n == word + 1 then Some n else None
next_number top word (Moved from to) = if from == word && nat_lt from to && nat_le to top then Some to else None
next_number top word (Look seen) = if seen == word then Some word else None
