-- Pieces of strings of bytes, which keys are cut into.
use Rattle.std.specs.Prelude.{ℕ, List, take, drop}

-- `count` bytes, from byte `from` on
abbrev pub piece : ℕ → ℕ → List ℕ → List ℕ
piece from count bytes = take count (drop from bytes)
