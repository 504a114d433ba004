-- Hearing a block: which pieces were heard, and what is answered.
use Rattle.std.specs.Prelude.{◌≡◌, ◌⊎◌, ℕ, ◌<◌, ◌≤◌, ◌-◌, ◌^◌, Bool, IsTrue, List, [], ◌++◌, length, take, map, Option, Some, None}
use Rattle.std.specs.List.{concat}
use Rattle.auc_memory.specs.Faults.{Rose}
use Rattle.auc_block.specs.Block.{first_block}
use Rattle.auc_block.specs.Turns.{Turns}
use Rattle.auc_block.specs.declared.next_block.NextBlock.{NextBlock}
use Rattle.auc_block.specs.declared.next_block.NextBlock.TheVariants.{Whole, TooLong, Ended, EndedTooLong}
use Rattle.auc_block.specs.declared.trouble.Trouble.{Trouble}
use Rattle.auc_block.specs.declared.trouble.Trouble.TheVariants.{Failed, NoMemory, Endless}
use Rattle.auc_block.specs.declared.turn.Turn.{Turn}
use Rattle.auc_block.specs.declared.turn.Turn.TheVariants.{Heard}

-- a text is what waited and the pieces that were heard; each of them was heard because no block was whole; nothing was said
pub record IsHeard (old new : Option (List Turn)) (waited text : List ℕ) : Type 0 where
  pub pieces : List (List ℕ)
  pub turns : Turns old new (map Heard pieces)
  pub whole : text ≡ waited ++ concat pieces
  pub prompt : (k : ℕ) → k < length pieces → first_block (waited ++ concat (take k pieces)) ≡ None

-- what is answered of a text: its first block if it is whole, or that the input ended before; and what waits then
abbrev pub IsNext : NextBlock → List ℕ → List ℕ → Bool → Type 0
IsNext (Whole block) text waiting ended = (first_block text ≡ Some (block, waiting)) × (length block ≤ 1048576)
IsNext TooLong text waiting ended = (block : List ℕ) × (first_block text ≡ Some (block, waiting)) × (1048576 < length block)
IsNext Ended text waiting ended = (first_block text ≡ None) × IsTrue ended × (waiting ≡ text) × (length text ≤ 1048576)
IsNext EndedTooLong text waiting ended = (first_block text ≡ None) × IsTrue ended × (waiting ≡ []) × (1048576 < length text)

-- a front of the text has no whole block and is too long for a block of the limit
pub record IsOverlong (text : List ℕ) : Type 0 where
  pub front : List ℕ
  pub rest : List ℕ
  pub whole : front ++ rest ≡ text
  pub long : 1048580 < length front
  pub open_ : first_block front ≡ None

-- the whole text waits, unless its block is too long
abbrev pub Waits : List ℕ → List ℕ → Type 0
Waits waiting text = (waiting ≡ text) ⊎ IsOverlong text

-- why no block is answered: a failed call raised the count, or no call failed
abbrev pub IsTrouble : Trouble → List ℕ → ℕ → ℕ → Type 0
IsTrouble Failed text before now = Rose before now
IsTrouble NoMemory text before now = now ≡ before
IsTrouble Endless text before now = (now ≡ before) × (2 ^ 64 - 1 ≤ length text)

-- no block was whole if a call failed, or if the block that is too long didn't end
abbrev pub HasNoBlock : Trouble → List ℕ → Type 0
HasNoBlock Failed text = first_block text ≡ None
HasNoBlock NoMemory text = Unit {0}
HasNoBlock Endless text = first_block text ≡ None
