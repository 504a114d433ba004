-- What a read gives into a buffer.
use Rattle.std.specs.Prelude.{◌≡◌, ℕ, ◌<◌, ◌≤◌, List, length, take, drop}

-- the buffer's first bytes are those of a file from an offset; if the buffer isn't empty, none are given only at the file's end
pub record GivesFrom (bytes : List ℕ) (from count : ℕ) (buffer : List ℕ) : Type 0 where
  pub within : count ≤ length (drop from bytes)
  pub same : take count buffer ≡ take count (drop from bytes)
  pub at_end : count ≡ 0 → 0 < length buffer → length bytes ≤ from
