-- Inner facts: what only private contracts of this crate cite.
use Rattle.std.specs.Prelude.{ℕ, ◌+◌, ◌==◌, if◌then◌else◌, Option, Some, None}

-- the place that was found before, or that of an attribute which begins here
abbrev pub place_or : Option ℕ → ℕ → ℕ → Option ℕ
place_or (Some place) kind start = Some place
place_or None kind start = if kind == 11 then Some (start + 4) else None
