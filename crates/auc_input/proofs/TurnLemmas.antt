-- For turns of a conversation, and for the blocks that were heard in them.
use Rattle.std.proofs.Common.{◌≡◌, ℕ, ◌<◌, ◌≤◌, zero, suc, List, [], ◌∷◌, ◌++◌, length, map, take, Option, Some, None, refl, sym, ◌∙◌, ap, subst, arith, append-nil, append_assoc, length-append}
use Rattle.std.specs.List.{concat}
use Rattle.auc_block.specs.Block.{EachBlockIsSplitOff, EarlierBlocksStand, blocks_in, first_block, and_those}
use Rattle.auc_block.specs.Turns.{Turns}
use Rattle.auc_block.specs.declared.turn.Turn.{Turn}
use Rattle.auc_block.specs.declared.turn.Turn.TheVariants.{Heard, Said}
use Rattle.auc_input.specs.Header.{AreTaken, HasRepliedEach, HasReplied, IsPrompt}
use Rattle.auc_input.specs.Turns.{heard_in, said_in}

-- ---- lists

-- the first elements of a list, whatever stands behind it
take_front : {X : Type 0} (xs ys : List X) (n : ℕ) → n ≤ length xs → take n (xs ++ ys) ≡ take n xs
take_front [] ys n few = let none : n ≡ 0 = omega (arith, few) in rw none refl
take_front (x ∷ xs) ys zero few = refl
take_front {X} (x ∷ xs) ys (suc n) few = ap (λ (r : List X). x ∷ r) (take_front xs ys n (omega (arith, few)))

-- all of them
pub take_whole : {X : Type 0} (xs : List X) → take (length xs) xs ≡ xs
take_whole [] = refl
take_whole {X} (x ∷ xs) = ap (λ (r : List X). x ∷ r) (take_whole xs)

pub concat_append : (xs ys : List (List ℕ)) → concat (xs ++ ys) ≡ concat xs ++ concat ys
concat_append [] ys = refl
concat_append (x ∷ xs) ys = ap (λ (r : List ℕ). x ++ r) (concat_append xs ys) ∙ sym (append_assoc x (concat xs) (concat ys))

pub map_append : {X Y : Type 0} (f : X → Y) (xs ys : List X) → map f (xs ++ ys) ≡ map f xs ++ map f ys
map_append f [] ys = refl
map_append {X} {Y} f (x ∷ xs) ys = ap (λ (r : List Y). f x ∷ r) (map_append f xs ys)

-- ---- turns

pub heard_append : (xs ys : List Turn) → heard_in (xs ++ ys) ≡ heard_in xs ++ heard_in ys
heard_append [] ys = refl
heard_append (Heard bytes ∷ xs) ys = ap (λ (r : List ℕ). bytes ++ r) (heard_append xs ys) ∙ sym (append_assoc bytes (heard_in xs) (heard_in ys))
heard_append (Said bytes ∷ xs) ys = heard_append xs ys

pub said_append : (xs ys : List Turn) → said_in (xs ++ ys) ≡ said_in xs ++ said_in ys
said_append [] ys = refl
said_append (Heard bytes ∷ xs) ys = said_append xs ys
said_append (Said bytes ∷ xs) ys = ap (λ (r : List ℕ). bytes ++ r) (said_append xs ys) ∙ sym (append_assoc bytes (said_in xs) (said_in ys))

pub heard_heard : (pieces : List (List ℕ)) → heard_in (map Heard pieces) ≡ concat pieces
heard_heard [] = refl
heard_heard (piece ∷ pieces) = ap (λ (r : List ℕ). piece ++ r) (heard_heard pieces)

pub said_heard : (pieces : List (List ℕ)) → said_in (map Heard pieces) ≡ []
said_heard [] = refl
said_heard (piece ∷ pieces) = said_heard pieces

pub heard_said : (pieces : List (List ℕ)) → heard_in (map Said pieces) ≡ []
heard_said [] = refl
heard_said (piece ∷ pieces) = heard_said pieces

pub said_said : (pieces : List (List ℕ)) → said_in (map Said pieces) ≡ concat pieces
said_said [] = refl
said_said (piece ∷ pieces) = ap (λ (r : List ℕ). piece ++ r) (said_said pieces)

-- turns, and more turns behind them
pub turns_more : (start old new : Option (List Turn)) (turns more : List Turn) → Turns start old turns → Turns old new more → Turns start new (turns ++ more)
turns_more None old new turns more first second = subst (λ (o : Option (List Turn)). Turns o new more) first second
turns_more (Some begun) old new turns more first second =
    let all : new ≡ Some ((begun ++ turns) ++ more) = subst (λ (o : Option (List Turn)). Turns o new more) first second in
    all ∙ ap (λ (ts : List Turn). Some ts) (append_assoc begun turns more)

-- no turn came
pub turns_none : (old new : Option (List Turn)) → new ≡ old → Turns old new []
turns_none None new same = same
turns_none (Some begun) new same = same ∙ ap (λ (ts : List Turn). Some ts) (sym (append-nil begun))

-- ---- blocks

-- more is heard: it waits behind what waits
pub taken_more : EarlierBlocksStand → (heard : List ℕ) (front : List (List ℕ)) (waiting more : List ℕ) → AreTaken heard front waiting → AreTaken (heard ++ more) front (waiting ++ more)
taken_more stand heard front waiting more taken =
    rw (stand heard more, stand waiting more, taken) (ap (λ (whole : List (List ℕ)). record { whole = whole; left = (blocks_in ((blocks_in waiting).left ++ more)).left })
    (append_assoc front (blocks_in waiting).whole (blocks_in ((blocks_in waiting).left ++ more)).whole))

-- the first block of what waits is taken
pub taken_block : EachBlockIsSplitOff → (heard : List ℕ) (front : List (List ℕ)) (text block rest : List ℕ) → AreTaken heard front text → first_block text ≡ Some (block, rest)
    → AreTaken heard (front ++ block ∷ []) rest
taken_block split heard front text block rest taken first =
    rw (taken, split text, first) (ap (λ (whole : List (List ℕ)). record { whole = whole; left = (blocks_in rest).left }) (sym (append_assoc front (block ∷ []) (blocks_in rest).whole)))

-- no whole block waits: all were taken
pub taken_all : EachBlockIsSplitOff → (heard : List ℕ) (front : List (List ℕ)) (text : List ℕ) → AreTaken heard front text → first_block text ≡ None
    → blocks_in heard ≡ record { whole = front; left = text }
taken_all split heard front text taken first = rw (taken, split text, first) (ap (λ (whole : List (List ℕ)). record { whole = whole; left = text }) (append-nil front))

-- ---- promptness

-- turns, and turns behind them
pub replied_append : (replies : List (List ℕ)) (heard said : List ℕ) (xs ys : List Turn) → HasRepliedEach replies heard said xs
    → HasRepliedEach replies (heard ++ heard_in xs) (said ++ said_in xs) ys → HasRepliedEach replies heard said (xs ++ ys)
replied_append replies heard said [] ys first second = rw (append-nil heard, append-nil said) at second
replied_append replies heard said (Heard piece ∷ xs) ys first second =
    (first.0, replied_append replies (heard ++ piece) said xs ys first.1 (rw (append_assoc heard piece (heard_in xs)) second))
replied_append replies heard said (Said bytes ∷ xs) ys first second =
    replied_append replies heard (said ++ bytes) xs ys first (rw (append_assoc said bytes (said_in xs)) second)

-- further replies change nothing of earlier turns
pub replied_more : (replies more : List (List ℕ)) (heard said : List ℕ) (turns : List Turn) → HasRepliedEach replies heard said turns → HasRepliedEach (replies ++ more) heard said turns
replied_more replies more heard said [] each = tt
replied_more replies more heard said (Heard piece ∷ turns) each = (
  record {
    count = omega (arith, each.0.count, length-append replies more);
    only = each.0.only ∙ ap concat (sym (take_front replies more (length (blocks_in heard).whole) each.0.count));
  },
  replied_more replies more (heard ++ piece) said turns each.1,
)
replied_more replies more heard said (Said bytes ∷ turns) each = replied_more replies more heard (said ++ bytes) turns each

-- saying needs nothing
pub replied_said : (replies : List (List ℕ)) (heard said : List ℕ) (pieces : List (List ℕ)) → HasRepliedEach replies heard said (map Said pieces)
replied_said replies heard said [] = tt
replied_said replies heard said (piece ∷ pieces) = replied_said replies heard (said ++ piece) pieces

-- hearing needs that all blocks had their replies
pub replied_heard : (replies : List (List ℕ)) (heard said : List ℕ) (pieces : List (List ℕ))
    → ((k : ℕ) → k < length pieces → HasReplied replies (heard ++ concat (take k pieces)) said) → HasRepliedEach replies heard said (map Heard pieces)
replied_heard replies heard said [] each = tt
replied_heard replies heard said (piece ∷ pieces) each = (
  rw (append-nil heard) at (each 0 (omega arith)),
  replied_heard replies (heard ++ piece) said pieces (λ k less. rw (append_assoc heard piece (concat (take k pieces))) (each (suc k) (omega (arith, less)))),
)

-- so it is each time that more is heard
pub is_prompt : (replies : List (List ℕ)) (heard said : List ℕ) (before after : List Turn) (piece : List ℕ) → HasRepliedEach replies heard said (before ++ Heard piece ∷ after)
    → HasReplied replies (heard ++ heard_in before) (said ++ said_in before)
is_prompt replies heard said [] after piece each = rw (append-nil heard, append-nil said) each.0
is_prompt replies heard said (Heard first ∷ before) after piece each = rw (← append_assoc heard first (heard_in before)) (is_prompt replies (heard ++ first) said before after piece each.1)
is_prompt replies heard said (Said first ∷ before) after piece each = rw (← append_assoc said first (said_in before)) (is_prompt replies heard (said ++ first) before after piece each)

pub prompt_of : (replies : List (List ℕ)) (turns : List Turn) → HasRepliedEach replies [] [] turns → IsPrompt replies turns
prompt_of replies turns each before after piece is = is_prompt replies [] [] before after piece (subst (HasRepliedEach replies [] []) is each)

-- no whole block waits
pub none_waits : EachBlockIsSplitOff → (text : List ℕ) → first_block text ≡ None → blocks_in text ≡ record { whole = []; left = text }
none_waits split text none = split text ∙ ap (and_those blocks_in text) none
