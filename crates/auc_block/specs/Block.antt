-- Blocks of lines: a block is the lines up to a line `end`. LF (10) or CRLF ends a line.
use Rattle.std.specs.Prelude.{◌≡◌, ℕ, zero, suc, ◌==◌, ◌||◌, Bool, List, [], ◌∷◌, ◌++◌, length, Option, Some, None, if◌then◌else◌}
use Rattle.std.specs.List.{join_with_byte, slice_split}
use Rattle.std.specs.Str.{bytes_eq}

-- whether a line is `end`; the LF that ends it isn't part of a line, and a CR (13) may stand before the LF
abbrev pub is_end : List ℕ → Bool
is_end line = bytes_eq line (101 ∷ 110 ∷ 100 ∷ []) || bytes_eq line (101 ∷ 110 ∷ 100 ∷ 13 ∷ [])

-- a block that begins with these bytes; what is behind it stays
abbrev pub begun : List ℕ → Option (List ℕ × List ℕ) → Option (List ℕ × List ℕ)
begun front None = None
begun front (Some found) = Some (front ++ found.0, found.1)

-- the first block of the parts of a text between its LFs; the last part isn't a line yet
abbrev pub block_among : List (List ℕ) → Option (List ℕ × List ℕ)
block_among [] = None
block_among (last ∷ []) = None
block_among (line ∷ next ∷ more) =
    if is_end line then Some ([], join_with_byte 10 (next ∷ more)) else begun (line ++ 10 ∷ []) (block_among (next ∷ more))

-- the first block of a text, as its bytes without the line `end`, and the bytes behind that line
abbrev pub first_block : List ℕ → Option (List ℕ × List ℕ)
first_block text = block_among (slice_split (λ byte. byte == 10) text)

-- the blocks of a text, and the bytes behind the last one
pub record Blocks : Type 0 where
  pub whole : List (List ℕ)
  pub left : List ℕ

-- a block and those of the bytes behind it
abbrev pub and_those : (List ℕ → Blocks) → List ℕ → Option (List ℕ × List ℕ) → Blocks
and_those blocks text None = record { whole = []; left = text }
and_those blocks text (Some found) = record { whole = found.0 ∷ (blocks found.1).whole; left = (blocks found.1).left }

-- at most so many blocks of a text
abbrev pub blocks_up_to : ℕ → List ℕ → Blocks
blocks_up_to zero text = record { whole = []; left = text }
blocks_up_to (suc most) text = and_those (blocks_up_to most) text (first_block text)

-- all whole blocks of a text, and the bytes behind the last one: a text has no more blocks than bytes
abbrev pub blocks_in : List ℕ → Blocks
blocks_in text = blocks_up_to (length text) text

-- more text behind a first block changes nothing of it
abbrev pub EachBlockStands : Type 0
EachBlockStands = (text more block rest : List ℕ) → first_block text ≡ Some (block, rest) → first_block (text ++ more) ≡ Some (block, rest ++ more)

-- the blocks of a text are its first one and those of what is behind it
abbrev pub EachBlockIsSplitOff : Type 0
EachBlockIsSplitOff = (text : List ℕ) → blocks_in text ≡ and_those blocks_in text (first_block text)

-- the blocks of a text with more behind it: the earlier ones stand, and the others are those of what was left and of what is more
abbrev pub EarlierBlocksStand : Type 0
EarlierBlocksStand = (text more : List ℕ) → blocks_in (text ++ more) ≡ record {
  whole = (blocks_in text).whole ++ (blocks_in ((blocks_in text).left ++ more)).whole;
  left = (blocks_in ((blocks_in text).left ++ more)).left;
}
