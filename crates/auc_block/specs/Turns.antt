-- Turns of a conversation: what a wire heard and said, in order, if it reveals that.
use Rattle.std.specs.Prelude.{◌≡◌, ℕ, List, ◌++◌, map, Option, Some, None}
use Rattle.std.specs.List.{concat}
use Rattle.auc_block.specs.declared.turn.Turn.{Turn}
use Rattle.auc_block.specs.declared.turn.Turn.TheVariants.{Said}

-- these turns came after the earlier ones, if the wire reveals its turns
abbrev pub Turns : Option (List Turn) → Option (List Turn) → List Turn → Type 0
Turns None new more = new ≡ None
Turns (Some old) new more = new ≡ Some (old ++ more)

-- these bytes were said in pieces, and nothing was heard
pub record Says (old new : Option (List Turn)) (bytes : List ℕ) : Type 0 where
  pub pieces : List (List ℕ)
  pub turns : Turns old new (map Said pieces)
  pub whole : concat pieces ≡ bytes

-- the first of these bytes were said, and the rest weren't
pub record SaysFront (old new : Option (List Turn)) (bytes : List ℕ) : Type 0 where
  pub front : List ℕ
  pub rest : List ℕ
  pub whole : front ++ rest ≡ bytes
  pub said : Says old new front
