-- Room in a set of numbers: a number for which there is room takes no memory.
use Rattle.std.specs.Prelude.{◌≡◌, ◌/◌, ◌++◌, All, IsSome}
use Rattle.std.specs.Map.{lookup}
use Rattle.auc_released.specs.declared.numbers.Number.{Number}
use Rattle.auc_released.specs.Numbers.{Released, is_same_block}

-- a set has room for a number: it has the number's block
abbrev pub HasRoom : Released → Number → Type 0
HasRoom released number = IsSome (lookup (is_same_block (number.sub, number.n / 64)) released)

-- the second set has room for each number for which the first has
abbrev pub KeepsRoom : Released → Released → Type 0
KeepsRoom old new = (number : Number) → HasRoom old number → HasRoom new number

-- the second set is the first one with further blocks, which have no number
pub record IsRoomier (old new : Released) : Type 0 where
  pub more : Released
  pub added : new ≡ old ++ more
  pub empty : All (λ entry. entry.1 ≡ 0) more
