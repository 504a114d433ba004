-- Inner facts: what only private contracts of this crate cite. How a name that is kept lies in memory.
use Rattle.std.specs.Prelude.{◌≡◌, ◌≤◌, ℕ, List, ◌++◌, drop, length, replicate, take}

-- a name, followed by zeros up to 255 bytes
abbrev pub padded : List ℕ → List ℕ
padded name = name ++ drop (length name) (replicate 255 0)

-- the first bytes of a text are a name, and zeros follow
pub record IsPadded (text : List ℕ) (size : ℕ) : Type 0 where
  pub some : 1 ≤ size
  pub short : size ≤ 255
  pub whole : length (take size text) ≡ size
  pub rest : padded (take size text) ≡ text
