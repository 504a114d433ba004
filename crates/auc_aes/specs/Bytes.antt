-- Strings of bytes, as lists of numbers below 256. A block has 16 bytes.
use Rattle.std.specs.Prelude.{◌≡◌, ℕ, ◌+◌, ◌<◌, List, [], ◌∷◌, ◌++◌, length, take, drop, slice_index, bit_xor}
use Rattle.std.specs.Int.{w128, from_be_bytes, to_be_bytes, rotate_left}

-- the exclusive or of two strings of one length
abbrev pub xor : List ℕ → List ℕ → List ℕ
xor [] bs = []
xor (a ∷ as') [] = []
xor (a ∷ as') (b ∷ bs) = bit_xor a b ∷ xor as' bs

-- a block rotated left by r bits; its most significant bit is the first bit of its first byte
unfoldable pub rot : List ℕ → ℕ → List ℕ
rot block r = to_be_bytes w128 (rotate_left w128 (from_be_bytes w128 block) r)

-- the block of a string that begins at a place
abbrev pub block_from : List ℕ → ℕ → List ℕ
block_from bytes place = take 16 (drop place bytes)

-- a string with a block in the place of the 16 bytes that begin there
abbrev pub with_block : List ℕ → ℕ → List ℕ → List ℕ
with_block bytes place block = take place bytes ++ (block ++ drop (place + 16) bytes)

-- each element is a byte
abbrev pub IsBytes : List ℕ → Type 0
IsBytes bytes = (i : ℕ) → slice_index bytes i < 256

-- 16 bytes
pub record IsBlock (block : List ℕ) : Type 0 where
  pub size : length block ≡ 16
  pub bytes : IsBytes block
