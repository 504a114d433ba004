-- Sets of subscribers' numbers, in blocks of 64 consecutive numbers.
use Rattle.std.specs.Prelude.{ℕ, ◌/◌, ◌%◌, ◌==◌, ◌&&◌, Bool, false, List, Option, None, Some}
use Rattle.std.specs.Int.{bit_at}
use Rattle.std.specs.Map.{lookup}

-- for a subscriber and a block, the word of 64 bits that says which numbers of the block stand in the set
abbrev pub Released : Type 0
Released = List ((ℕ × ℕ) × ℕ)

-- whether two blocks are one: the subscribers and the places of the blocks
abbrev pub is_same_block : ℕ × ℕ → ℕ × ℕ → Bool
is_same_block a b = a.0 == b.0 && a.1 == b.1

-- whether a bit of a word is set; if there is no word, none is
abbrev pub is_marked : Option ℕ → ℕ → Bool
is_marked None place = false
is_marked (Some word) place = bit_at word place == 1

-- whether a subscriber's number n stands in the set: in the word of block n / 64, bit n % 64 is set
abbrev pub has : Released → ℕ → ℕ → Bool
has released sub n = is_marked (lookup (is_same_block (sub, n / 64)) released) (n % 64)
