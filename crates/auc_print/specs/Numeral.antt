-- The digits of a number, of any size.
use Rattle.std.specs.Prelude.{ℕ, ◌+◌, false, List, []}
use Rattle.std.specs.Fmt.{digits_onto}

-- its decimal digits; a number n has at most n + 1 of them
unfoldable pub numeral : ℕ → List ℕ
numeral n = digits_onto (n + 1) 10 false n []
