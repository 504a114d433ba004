-- The search for the end of a block, and what is kept of a block that is too long.
use Rattle.std.specs.Prelude.{◌≡◌, ℕ, ◌+◌, ◌==◌, ◌<◌, ◌≤◌, Bool, IsTrue, List, [], ◌++◌, length, take, drop, Option, Some, None, false}
use Rattle.std.specs.List.{All}
use Rattle.auc_block.specs.Block.{begun, first_block}
use Rattle.auc_block.specs.declared.blocks.Gathered.{Gathered}
use Rattle.auc_block.specs.declared.blocks.Gathered.TheVariants.{Block, Long, AtEnd}
use Rattle.auc_block.specs.declared.next_block.NextBlock.{NextBlock}
use Rattle.auc_block.specs.declared.next_block.NextBlock.TheVariants.{Whole, TooLong, Ended, EndedTooLong}
use Rattle.auc_block.specs.declared.search.Found.{Found}
use Rattle.auc_block.specs.declared.search.Found.TheVariants.{End, Open}

-- these bytes are whole lines, none of which is `end`: the first block of what comes behind them begins with them
abbrev pub Passes : List ℕ → Type 0
Passes front = (more : List ℕ) → first_block (front ++ more) ≡ begun front (first_block more)

-- no byte of a line is LF
abbrev pub IsOpen : List ℕ → Type 0
IsOpen line = All (λ byte. (byte == 10) ≡ false) line

-- up to `begin` a text has whole lines, none of which is `end`, and from there to `place` no LF
pub record IsSearched (text : List ℕ) (begin place : ℕ) : Type 0 where
  pub front : List ℕ
  pub line : List ℕ
  pub rest : List ℕ
  pub whole : text ≡ front ++ (line ++ rest)
  pub from : length front ≡ begin
  pub upto : length front + length line ≡ place
  pub passes : Passes front
  pub is_open : IsOpen line

-- what is behind the first block
abbrev pub rest_of : Option (List ℕ × List ℕ) → Option (List ℕ)
rest_of None = None
rest_of (Some found) = Some found.1

-- what comes next ends the first block of two texts at the same place
abbrev pub EndAlike : List ℕ → List ℕ → Type 0
EndAlike text kept = (more : List ℕ) → rest_of (first_block (text ++ more)) ≡ rest_of (first_block (kept ++ more))

-- a search ends at the first line `end`, or nowhere
abbrev pub IsFound : Found → List ℕ → Type 0
IsFound (End begin behind) text = (first_block text ≡ Some (take begin text, drop behind text)) × (begin ≤ length text) × (behind ≤ length text)
IsFound (Open begin) text = (first_block text ≡ None) × IsSearched text begin (length text)

-- gathering ends at the first line `end`, in a block that is too long, or at the end of the input
abbrev pub IsGathered : Gathered → List ℕ → Bool → Type 0
IsGathered (Block begin behind) text ended = IsFound (End begin behind) text
IsGathered (Long begin) text ended = IsFound (Open begin) text × (1048580 < length text)
IsGathered AtEnd text ended = (first_block text ≡ None) × IsTrue ended

-- a whole block is answered if it is within the limit
abbrev pub IsTaken : NextBlock → List ℕ → Type 0
IsTaken (Whole block) whole = (block ≡ whole) × (length whole ≤ 1048576)
IsTaken TooLong whole = 1048576 < length whole
IsTaken Ended whole = ⊥
IsTaken EndedTooLong whole = ⊥

-- what waits at the end of the input stays if it is within the limit
abbrev pub IsLeft : NextBlock → List ℕ → List ℕ → Type 0
IsLeft (Whole block) text waiting = ⊥
IsLeft TooLong text waiting = ⊥
IsLeft Ended text waiting = (waiting ≡ text) × (length text ≤ 1048576)
IsLeft EndedTooLong text waiting = (waiting ≡ []) × (1048576 < length text)

-- a block that is too long was heard to its end, or the input ended before
abbrev pub IsSkipped : NextBlock → List ℕ → List ℕ → Bool → Type 0
IsSkipped (Whole block) text waiting ended = ⊥
IsSkipped TooLong text waiting ended = (block : List ℕ) × (first_block text ≡ Some (block, waiting))
IsSkipped Ended text waiting ended = ⊥
IsSkipped EndedTooLong text waiting ended = (first_block text ≡ None) × IsTrue ended × (waiting ≡ [])
