-- Inner facts: what only private contracts of this crate cite. The value of a type, one attribute after another.
use Rattle.std.specs.Prelude.{ℕ, ◌==◌, if◌then◌else◌, List, Option, Some, None}

-- the value that was found before, or that of an attribute if it has the wanted type
abbrev pub value_or : Option (List ℕ) → ℕ → ℕ → List ℕ → Option (List ℕ)
value_or (Some found) wanted kind value = Some found
value_or None wanted kind value = if kind == wanted then Some value else None
