-- For the header: what was heard of it, and why it is refused.
use Rattle.std.proofs.Common.{◌≡◌, ℕ, ◌<◌, ◌≤◌, ◌-◌, ◌^◌, nat_lt, true, false, List, [], ◌∷◌, length, map, take, Option, Some, None, Err, inl, inr, refl, sym, ◌∙◌, ap, subst, arith}
use Rattle.std.specs.Prelude.{Bool}
use Rattle.std.specs.List.{concat}
use Rattle.std.proofs.lemmas.Bool.Decides.{nat_tests}
use Rattle.auc_block.specs.Block.{Blocks, EachBlockIsSplitOff, blocks_in, first_block}
use Rattle.auc_block.specs.Hearing.{HasNoBlock, IsHeard, IsNext, IsTrouble, Waits}
use Rattle.auc_block.specs.Turns.{Turns}
use Rattle.auc_block.specs.declared.next_block.NextBlock.{NextBlock}
use Rattle.auc_block.specs.declared.next_block.NextBlock.TheVariants.{Whole, TooLong, Ended, EndedTooLong}
use Rattle.auc_block.specs.declared.trouble.Trouble.{Trouble}
use Rattle.auc_block.specs.declared.trouble.Trouble.TheVariants as trouble
use Rattle.auc_block.specs.declared.turn.Turn.{Turn}
use Rattle.auc_block.specs.declared.turn.Turn.TheVariants.{Heard}
use Rattle.auc_edge.specs.Shelf.{File}
use Rattle.auc_script.specs.Reading.{header_of}
use Rattle.auc_script.specs.declared.refusal.ScriptRefusal.{ScriptRefusal}
use Rattle.auc_script.specs.declared.refusal.ScriptRefusal.TheVariants as wrong
use Rattle.auc_reading.specs.declared.refusal.ScriptWhy.{ScriptWhy}
use Rattle.auc_reading.specs.declared.refusal.ScriptWhy.TheVariants as why
use Rattle.auc_subs.specs.declared.row.Row.{Row}
use Rattle.auc_input.specs.Reading.{SubscribersStop, BeginsWith}
use Rattle.auc_input.specs.InnerRefusal.{script_refusal}
use Rattle.auc_refusal.specs.Causes.{trouble_refusal}
use Rattle.auc_input.specs.Header.{IsEarly, IsHeaderStop, TookHeader, HasReplied}
use Rattle.auc_refusal.specs.Replies.{cut_off, last_line, most_block, ready_reply}
use Rattle.auc_input.specs.Turns.{heard_in, said_in}
use Rattle.auc_refusal.specs.declared.refusal.Refusal.{Refusal}
use Rattle.auc_refusal.specs.declared.refusal.Refusal.TheVariants as refused
use Rattle.auc_input.proofs.TurnLemmas.{none_waits, heard_heard, replied_heard, said_heard, taken_block}

-- ---- the header

-- what was heard before the header was read
heard_first : (old new : Option (List Turn)) (text : List ℕ) (is : IsHeard old new [] text) → (heard_in (map Heard is.pieces) ≡ text) × (said_in (map Heard is.pieces) ≡ [])
heard_first old new text is = (heard_heard is.pieces ∙ sym is.whole, said_heard is.pieces)

-- a whole block was heard
pub took_first : (old new : Option (List Turn)) (text first waits : List ℕ) → EachBlockIsSplitOff → IsHeard old new [] text → first_block text ≡ Some (first, waits) → TookHeader first waits old new
took_first old new text first waits split is found = record {
  turns = map Heard is.pieces;
  took = is.turns;
  heard = rw (heard_first old new text is).0 (taken_block split text [] text first waits refl found);
  silent = (heard_first old new text is).1;
  prompt = replied_heard (ready_reply ∷ []) [] [] is.pieces (λ k less. none (concat (take k is.pieces)) (is.prompt k less));
}
  where
    none : (heard : List ℕ) → first_block heard ≡ None → HasReplied (ready_reply ∷ []) heard []
    none heard open_ =
        let count : length (blocks_in heard).whole ≡ 0 = ap (λ (b : Blocks). length b.whole) (none_waits split heard open_) in
        record { count = omega (arith, count); only = ap (λ (n : ℕ). concat (take n (ready_reply ∷ []))) (sym count) }

-- a header that is wrong, or that memory lacks for
pub wrong_header : (rows : List Row) (old new : Option (List Turn)) (text first waits : List ℕ) (refusal : ScriptRefusal) → IsHeard old new [] text → first_block text ≡ Some (first, waits)
    → length first ≤ most_block → ((line : ℕ) (fault : ScriptWhy) → refusal ≡ wrong.Line line fault → header_of rows first ≡ Err (wrong.Line line fault))
    → IsHeaderStop rows old new (script_refusal refusal)
wrong_header rows old new text first waits (wrong.Line line fault) is found short refused =
    let both = heard_first old new text is in
    (map Heard is.pieces, is.turns, both.1, inl (first, waits, ap first_block both.0 ∙ found, short, refused line fault refl))
wrong_header rows old new text first waits wrong.NoMemory is found short refused = (map Heard is.pieces, is.turns, (heard_first old new text is).1)

-- one that is too long
pub long_header : (rows : List Row) (old new : Option (List Turn)) (text first waits : List ℕ) → IsHeard old new [] text → first_block text ≡ Some (first, waits) → most_block < length first
    → IsHeaderStop rows old new (refused.Scenario 0 why.Limit)
long_header rows old new text first waits is found long =
    let both = heard_first old new text is in
    (map Heard is.pieces, is.turns, both.1, inr (inl (first, waits, ap first_block both.0 ∙ found, long, refl, refl)))

-- one that the end of the input cuts off
cut_header : (rows : List Row) (old new : Option (List Turn)) (text : List ℕ) (line : ℕ) (fault : ScriptWhy) → IsHeard old new [] text → first_block text ≡ None → (line, fault) ≡ cut_off text
    → IsHeaderStop rows old new (refused.Scenario line fault)
cut_header rows old new text line fault is none cut =
    let both = heard_first old new text is in
    (map Heard is.pieces, is.turns, both.1, inr (inr (ap first_block both.0 ∙ none, cut ∙ ap cut_off (sym both.0))))

pub long_rest_header : (rows : List Row) (old new : Option (List Turn)) (text : List ℕ) → IsHeard old new [] text → first_block text ≡ None → most_block < length text
    → IsHeaderStop rows old new (refused.Scenario 0 why.Limit)
long_rest_header rows old new text is none long = cut_header rows old new text 0 why.Limit is none (rw above refl)
  where
    above : nat_lt most_block (length text) ≡ true
    above = grind (arith, nat_tests, long)

pub short_rest_header : (rows : List Row) (old new : Option (List Turn)) (text : List ℕ) → IsHeard old new [] text → first_block text ≡ None → length text ≤ most_block
    → IsHeaderStop rows old new (refused.Scenario (last_line text) why.Unfinished)
short_rest_header rows old new text is none short = cut_header rows old new text (last_line text) why.Unfinished is none (rw below refl)
  where
    below : nat_lt most_block (length text) ≡ false
    below = grind (arith, nat_tests, short)

-- one that isn't heard
pub trouble_header : (rows : List Row) (old new : Option (List Turn)) (text : List ℕ) (why : Trouble) → IsHeard old new [] text → (why ≡ trouble.Endless → 2 ^ 64 - 1 ≤ length text)
    → IsHeaderStop rows old new (trouble_refusal why)
trouble_header rows old new text trouble.Failed is endless = (map Heard is.pieces, is.turns, (heard_first old new text is).1)
trouble_header rows old new text trouble.NoMemory is endless = (map Heard is.pieces, is.turns, (heard_first old new text is).1)
trouble_header rows old new text trouble.Endless is endless =
    let both = heard_first old new text is in
    (map Heard is.pieces, is.turns, both.1, subst (λ (heard : List ℕ). 2 ^ 64 - 1 ≤ length heard) (sym both.0) (endless refl))

-- what comes next of a wire on which nothing waited
abbrev pub HeardNext : Option (List Turn) → Option (List Turn) → List ℕ → List ℕ → NextBlock → Bool → Type 0
HeardNext old new waited waiting next ended = (text : List ℕ) × IsHeard old new waited text × IsNext next text waiting ended

pub next_took : (old new : Option (List Turn)) (waited waiting first : List ℕ) (next : NextBlock) (ended : Bool) → EachBlockIsSplitOff → waited ≡ [] → next ≡ Whole first → HeardNext old new waited waiting next ended
    → TookHeader first waiting old new × (length first ≤ most_block)
next_took old new waited waiting first next ended split none is (text, heard, after) =
    so (subst (λ (w : List ℕ). IsHeard old new w text) none heard) (subst (λ (n : NextBlock). IsNext n text waiting ended) is after)
  where
    so : IsHeard old new [] text → IsNext (Whole first) text waiting ended → TookHeader first waiting old new × (length first ≤ most_block)
    so heard (found, short) = (took_first old new text first waiting split heard found, short)

pub next_wrong : (rows : List Row) (old new : Option (List Turn)) (waited waiting first : List ℕ) (next : NextBlock) (ended : Bool) (refusal : ScriptRefusal) → waited ≡ [] → next ≡ Whole first
    → HeardNext old new waited waiting next ended → ((line : ℕ) (fault : ScriptWhy) → refusal ≡ wrong.Line line fault → header_of rows first ≡ Err (wrong.Line line fault))
    → IsHeaderStop rows old new (script_refusal refusal)
next_wrong rows old new waited waiting first next ended refusal none is (text, heard, after) refused =
    so (subst (λ (w : List ℕ). IsHeard old new w text) none heard) (subst (λ (n : NextBlock). IsNext n text waiting ended) is after)
  where
    so : IsHeard old new [] text → IsNext (Whole first) text waiting ended → IsHeaderStop rows old new (script_refusal refusal)
    so heard (found, short) = wrong_header rows old new text first waiting refusal heard found short refused

pub next_long : (rows : List Row) (old new : Option (List Turn)) (waited waiting : List ℕ) (next : NextBlock) (ended : Bool) → waited ≡ [] → next ≡ TooLong → HeardNext old new waited waiting next ended
    → IsHeaderStop rows old new (refused.Scenario 0 why.Limit)
next_long rows old new waited waiting next ended none is (text, heard, after) =
    so (subst (λ (w : List ℕ). IsHeard old new w text) none heard) (subst (λ (n : NextBlock). IsNext n text waiting ended) is after)
  where
    so : IsHeard old new [] text → IsNext TooLong text waiting ended → IsHeaderStop rows old new (refused.Scenario 0 why.Limit)
    so heard (block, found, long) = long_header rows old new text block waiting heard found long

pub next_long_rest : (rows : List Row) (old new : Option (List Turn)) (waited waiting : List ℕ) (next : NextBlock) (ended : Bool) → waited ≡ [] → next ≡ EndedTooLong → HeardNext old new waited waiting next ended
    → IsHeaderStop rows old new (refused.Scenario 0 why.Limit)
next_long_rest rows old new waited waiting next ended none is (text, heard, after) =
    so (subst (λ (w : List ℕ). IsHeard old new w text) none heard) (subst (λ (n : NextBlock). IsNext n text waiting ended) is after)
  where
    so : IsHeard old new [] text → IsNext EndedTooLong text waiting ended → IsHeaderStop rows old new (refused.Scenario 0 why.Limit)
    so heard (open_, over, emptied, long) = long_rest_header rows old new text heard open_ long

pub next_rest : (rows : List Row) (old new : Option (List Turn)) (waited waiting : List ℕ) (next : NextBlock) (ended : Bool) → waited ≡ [] → next ≡ Ended → HeardNext old new waited waiting next ended
    → IsHeaderStop rows old new (refused.Scenario (last_line waiting) why.Unfinished)
next_rest rows old new waited waiting next ended none is (text, heard, after) =
    so (subst (λ (w : List ℕ). IsHeard old new w text) none heard) (subst (λ (n : NextBlock). IsNext n text waiting ended) is after)
  where
    so : IsHeard old new [] text → IsNext Ended text waiting ended → IsHeaderStop rows old new (refused.Scenario (last_line waiting) why.Unfinished)
    so heard (open_, over, same, short) =
        subst (λ (w : List ℕ). IsHeaderStop rows old new (refused.Scenario (last_line w) why.Unfinished)) (sym same) (short_rest_header rows old new text heard open_ short)

-- why nothing comes next
pub next_trouble : (rows : List Row) (old new : Option (List Turn)) (waited waiting : List ℕ) (before now : ℕ) (why : Trouble) → waited ≡ []
    → ((text : List ℕ) × IsHeard old new waited text × (IsTrouble why text before now × Waits waiting text × HasNoBlock why text)) → IsHeaderStop rows old new (trouble_refusal why)
next_trouble rows old new waited waiting before now why none (text, heard, (is, waits, open_)) =
    trouble_header rows old new text why (subst (λ (w : List ℕ). IsHeard old new w text) none heard) endless
  where
    endless : why ≡ trouble.Endless → 2 ^ 64 - 1 ≤ length text
    endless same = let both = subst (λ (w : Trouble). IsTrouble w text before now) same is in both.1

-- ---- a refusal before the header was answered

-- the subscribers weren't read
pub early_subscribers : (told : Option (List File)) (subscribers : Option (List ℕ)) (seen : Option (List ℕ)) (refusal : Refusal) (now : Option (List Turn)) → Turns now now [] → SubscribersStop told subscribers refusal
    → IsEarly told subscribers seen refusal now now
early_subscribers told subscribers seen (refused.Subscribers row fault) now none (name, text, named, has, wrong) =
    record { turns = []; took = none; silent = refl; cause = (name, text, named, has, wrong, refl) }
early_subscribers told subscribers seen refused.TooLong now none long = record { turns = []; took = none; silent = refl; cause = inl long }
early_subscribers told subscribers seen refused.ReadFault now none stop = record { turns = []; took = none; silent = refl; cause = tt }
early_subscribers told subscribers seen refused.NoMemory now none stop = record { turns = []; took = none; silent = refl; cause = tt }
early_subscribers told subscribers seen (refused.Scenario line fault) now none stop = absurd stop
early_subscribers told subscribers seen refused.Usage now none stop = absurd stop
early_subscribers told subscribers seen refused.WriteFault now none stop = absurd stop
early_subscribers told subscribers seen refused.StoreFault now none stop = absurd stop
early_subscribers told subscribers seen (refused.NotJournal place) now none stop = absurd stop
early_subscribers told subscribers seen refused.StoreFull now none stop = absurd stop

-- the header wasn't read
pub early_header : (told : Option (List File)) (subscribers : Option (List ℕ)) (seen : Option (List ℕ)) (rows : List Row) (refusal : Refusal) (old new : Option (List Turn)) → BeginsWith told subscribers rows
    → IsHeaderStop rows old new refusal → IsEarly told subscribers seen refusal old new
early_header told subscribers seen rows (refused.Scenario line fault) old new begins (turns, took, silent, wrong) = record { turns = turns; took = took; silent = silent; cause = (rows, begins, wrong) }
early_header told subscribers seen rows refused.ReadFault old new begins (turns, took, silent) = record { turns = turns; took = took; silent = silent; cause = tt }
early_header told subscribers seen rows refused.NoMemory old new begins (turns, took, silent) = record { turns = turns; took = took; silent = silent; cause = tt }
early_header told subscribers seen rows refused.TooLong old new begins (turns, took, silent, long) = record { turns = turns; took = took; silent = silent; cause = inr long }
early_header told subscribers seen rows (refused.Subscribers row fault) old new begins stop = absurd stop
early_header told subscribers seen rows refused.Usage old new begins stop = absurd stop
early_header told subscribers seen rows refused.WriteFault old new begins stop = absurd stop
early_header told subscribers seen rows refused.StoreFault old new begins stop = absurd stop
early_header told subscribers seen rows (refused.NotJournal place) old new begins stop = absurd stop
early_header told subscribers seen rows refused.StoreFull old new begins stop = absurd stop
