-- The header of a service: the first block that is heard, and why it is refused.
use Rattle.std.specs.List.{concat}
use Rattle.std.specs.Prelude.{◌≡◌, ◌⊎◌, ℕ, ◌<◌, ◌≤◌, ◌^◌, List, length, Option, Some, Ok, Err, ◌∷◌, ◌++◌, [], None, ◌-◌, take}
use Rattle.auc_block.specs.Block.{blocks_in, first_block}
use Rattle.auc_block.specs.Turns.{Turns}
use Rattle.auc_block.specs.declared.turn.Turn.{Turn}
use Rattle.auc_block.specs.declared.turn.Turn.TheVariants.{Heard, Said}
use Rattle.auc_edge.specs.Shelf.{File, IsLongerFile}
use Rattle.auc_refusal.specs.Replies.{most_block, ready_reply, cut_off}
use Rattle.auc_refusal.specs.declared.refusal.Refusal.{Refusal}
use Rattle.auc_script.specs.Reading.{header_of}
use Rattle.auc_reading.specs.declared.refusal.ScriptWhy.{ScriptWhy}
use Rattle.auc_script.specs.declared.script.Script.{Script}
use Rattle.auc_subs.specs.File.{subscribers_in}
use Rattle.auc_subs.specs.declared.refusal.SubsRefusal.TheVariants.{Row as wrong_row}
use Rattle.auc_subs.specs.declared.row.Row.{Row}
use Rattle.auc_input.specs.Opening.{IsNoJournal}
use Rattle.auc_input.specs.Reading.{HasText, max_file, BeginsWith}
use Rattle.auc_input.specs.Turns.{heard_in, said_in}
use Rattle.auc_refusal.specs.declared.refusal.Refusal.TheVariants as refused
use Rattle.auc_reading.specs.declared.refusal.ScriptWhy.TheVariants as why
use Rattle.auc_script.specs.declared.refusal.ScriptRefusal.TheVariants as wrong

-- each whole block of what was heard had its reply, and nothing else was said
pub record HasReplied (replies : List (List ℕ)) (heard said : List ℕ) : Type 0 where
  pub count : length (blocks_in heard).whole ≤ length replies
  pub only : said ≡ concat (take (length (blocks_in heard).whole) replies)

-- so it was whenever more was heard
abbrev pub IsPrompt : List (List ℕ) → List Turn → Type 0
IsPrompt replies turns = (before after : List Turn) (piece : List ℕ) → turns ≡ before ++ Heard piece ∷ after → HasReplied replies (heard_in before) (said_in before)

-- the first whole blocks of what was heard were taken, and the others are those of what waits
abbrev pub AreTaken : List ℕ → List (List ℕ) → List ℕ → Type 0
AreTaken heard front waiting = blocks_in heard ≡ record { whole = front ++ (blocks_in waiting).whole; left = (blocks_in waiting).left }

-- so it was whenever more was heard, from here on
abbrev pub HasRepliedEach : List (List ℕ) → List ℕ → List ℕ → List Turn → Type 0
HasRepliedEach replies heard said [] = Unit {0}
HasRepliedEach replies heard said (Heard piece ∷ turns) = HasReplied replies heard said × HasRepliedEach replies (heard ++ piece) said turns
HasRepliedEach replies heard said (Said bytes ∷ turns) = HasRepliedEach replies heard (said ++ bytes) turns

-- the first whole block was taken, and nothing was said: each piece was heard because no block was whole
pub record TookHeader (first waiting : List ℕ) (old new : Option (List Turn)) : Type 0 where
  pub turns : List Turn
  pub took : Turns old new turns
  pub heard : AreTaken (heard_in turns) (first ∷ []) waiting
  pub silent : said_in turns ≡ []
  pub prompt : HasRepliedEach (ready_reply ∷ []) [] [] turns

-- and it is a header that is right after some subscribers
pub record HearsFirst (before rows : List Row) (header : Script) (waiting : List ℕ) (old new : Option (List Turn)) : Type 0 where
  pub first : List ℕ
  pub took : TookHeader first waiting old new
  pub short : length first ≤ most_block
  pub is_header : header_of before first ≡ Ok (header, rows)

-- the subscribers were read, and the header
pub record HearsHeader (told : Option (List File)) (subscribers : Option (List ℕ)) (rows : List Row) (header : Script) (waiting : List ℕ) (old new : Option (List Turn)) : Type 0 where
  pub before : List Row
  pub begins : BeginsWith told subscribers before
  pub hears : HearsFirst before rows header waiting old new

-- what is wrong with the header by what was heard: its first wrong line, that it is too long, or that the input ended before its end
abbrev pub IsHeaderWrong : List Row → List ℕ → ℕ → ScriptWhy → Type 0
IsHeaderWrong rows heard line fault =
    ((first rest : List ℕ) × (first_block heard ≡ Some (first, rest)) × (length first ≤ most_block) × (header_of rows first ≡ Err (wrong.Line line fault)))
    ⊎ ((first rest : List ℕ) × (first_block heard ≡ Some (first, rest)) × (most_block < length first) × (line ≡ 0) × (fault ≡ why.Limit))
    ⊎ ((first_block heard ≡ None) × ((line, fault) ≡ cut_off heard))

-- the cause of a refusal before the header was answered, by what was heard
abbrev pub IsEarlyCause : Option (List File) → Option (List ℕ) → Option (List ℕ) → List ℕ → Refusal → Type 0
IsEarlyCause told subscribers seen heard (refused.Subscribers row fault) =
    (name text : List ℕ) × (subscribers ≡ Some name) × HasText told name text × (subscribers_in text ≡ Err (wrong_row row fault)) × (heard ≡ [])
IsEarlyCause told subscribers seen heard (refused.Scenario line fault) = (rows : List Row) × BeginsWith told subscribers rows × IsHeaderWrong rows heard line fault
IsEarlyCause told subscribers seen heard (refused.NotJournal place) = IsNoJournal seen place
IsEarlyCause told subscribers seen heard refused.TooLong =
    ((name : List ℕ) × (subscribers ≡ Some name) × IsLongerFile told name max_file) ⊎ (2 ^ 64 - 1 ≤ length heard)
IsEarlyCause told subscribers seen heard refused.ReadFault = Unit {0}
IsEarlyCause told subscribers seen heard refused.StoreFault = Unit {0}
IsEarlyCause told subscribers seen heard refused.NoMemory = Unit {0}
IsEarlyCause told subscribers seen heard _ = ⊥

-- a refusal before the header was answered has its cause, and nothing was said
pub record IsEarly (told : Option (List File)) (subscribers : Option (List ℕ)) (seen : Option (List ℕ)) (refusal : Refusal) (old new : Option (List Turn)) : Type 0 where
  pub turns : List Turn
  pub took : Turns old new turns
  pub silent : said_in turns ≡ []
  pub cause : IsEarlyCause told subscribers seen (heard_in turns) refusal

-- why no header is read after some subscribers
abbrev pub IsHeaderStop : List Row → Option (List Turn) → Option (List Turn) → Refusal → Type 0
IsHeaderStop rows old new (refused.Scenario line fault) = (turns : List Turn) × Turns old new turns × (said_in turns ≡ []) × IsHeaderWrong rows (heard_in turns) line fault
IsHeaderStop rows old new refused.ReadFault = (turns : List Turn) × Turns old new turns × (said_in turns ≡ [])
IsHeaderStop rows old new refused.NoMemory = (turns : List Turn) × Turns old new turns × (said_in turns ≡ [])
IsHeaderStop rows old new refused.TooLong = (turns : List Turn) × Turns old new turns × (said_in turns ≡ []) × (2 ^ 64 - 1 ≤ length (heard_in turns))
IsHeaderStop rows old new _ = ⊥

abbrev pub HeaderStops : Refusal → Type 0
HeaderStops (refused.Subscribers row fault) = Unit {0}
HeaderStops (refused.Scenario line fault) = Unit {0}
HeaderStops refused.ReadFault = Unit {0}
HeaderStops refused.TooLong = Unit {0}
HeaderStops refused.NoMemory = Unit {0}
HeaderStops _ = ⊥
