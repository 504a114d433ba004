-- What was heard and said in the turns of a conversation.
use Rattle.std.specs.Prelude.{ℕ, List, ◌∷◌, ◌++◌, []}
use Rattle.auc_block.specs.declared.turn.Turn.{Turn}
use Rattle.auc_block.specs.declared.turn.Turn.TheVariants.{Heard, Said}

-- all bytes that were heard
abbrev pub heard_in : List Turn → List ℕ
heard_in [] = []
heard_in (Heard bytes ∷ turns) = bytes ++ heard_in turns
heard_in (Said bytes ∷ turns) = heard_in turns

-- all bytes that were said
abbrev pub said_in : List Turn → List ℕ
said_in [] = []
said_in (Heard bytes ∷ turns) = said_in turns
said_in (Said bytes ∷ turns) = bytes ++ said_in turns
