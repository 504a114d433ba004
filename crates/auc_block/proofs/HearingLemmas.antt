-- Hearing a block: pieces that are heard one after the other, the search for the end of a block, and what is kept of one that is too long.
use Rattle.std.proofs.Common.{ℕ, ◌≡◌, ◌<◌, ◌≤◌, ◌+◌, ◌-◌, ◌⊎◌, ◌∙◌, IsTrue, inl, inr, zero, suc, true, false, Bool, nat_eq, List, ◌∷◌, ◌++◌, [], length, map, take, drop, get_or, Option, Some, None, arith, ap, sym, refl, subst, take-append-drop, append-nil, append_assoc, length-append, length-drop, length-take, get_or-take}
use Rattle.std.specs.List.{concat, position}
use Rattle.std.proofs.lemmas.Bool.{cases_lt}
use Rattle.std.proofs.lemmas.Bool.Decides.{nat_tests}
use Rattle.std.proofs.lemmas.List.{map-append, nil_from_length, drop_more, take-append-le, take_all, take_at, drop_at}
use Rattle.std.proofs.lemmas.List.Elements.{All-append, All-nil}
use Rattle.std.proofs.lemmas.List.Folds.{concat-append}
use Rattle.std.proofs.lemmas.List.Quantifiers.{position-Some}
use Rattle.std.proofs.lemmas.List.Sums.{fails_before_first}
use Rattle.auc_block.specs.Block.{begun, first_block, is_end}
use Rattle.auc_block.specs.Hearing.{HasNoBlock, IsHeard, IsNext, IsTrouble, Waits}
use Rattle.auc_block.specs.InnerHearing.{EndAlike, IsFound, IsGathered, IsLeft, IsOpen, IsSearched, IsSkipped, IsTaken, Passes, rest_of}
use Rattle.auc_block.specs.Turns.{Says, Turns}
use Rattle.auc_block.specs.declared.blocks.Gathered.TheVariants.{Long}
use Rattle.auc_block.specs.declared.next_block.NextBlock.{NextBlock}
use Rattle.auc_block.specs.declared.next_block.NextBlock.TheVariants.{Whole, TooLong, Ended, EndedTooLong}
use Rattle.auc_block.specs.declared.search.Found.TheVariants.{End, Open}
use Rattle.auc_block.specs.declared.trouble.Trouble.{Trouble}
use Rattle.auc_block.specs.declared.trouble.Trouble.TheVariants.{Failed, NoMemory, Endless}
use Rattle.auc_block.specs.declared.turn.Turn.{Turn}
use Rattle.auc_block.specs.declared.turn.Turn.TheVariants.{Heard, Said}
use Rattle.auc_block.proofs.BlockLemmas.{block_long, long_other, open_none, other_first, passes_end, passes_line, passes_none, passes_open, split_line}

-- no turns
pub turns_none : (old : Option (List Turn)) → Turns old old []
turns_none None = refl
turns_none (Some old) = ap Some (sym (append-nil old))

-- turns and further ones
pub turns_more : (old mid new : Option (List Turn)) (a b : List Turn) → Turns old mid a → Turns mid new b → Turns old new (a ++ b)
turns_more None None new a b first second = second
turns_more None (Some mid) new a b first second = absurd (cc)
turns_more (Some old) None new a b first second = absurd (cc)
turns_more (Some old) (Some mid) new a b first second =
    let is : mid ≡ old ++ a = cc in
    second ∙ ap (λ (all : List Turn). Some (all ++ b)) is ∙ ap Some (append_assoc old a b)

-- what is left of the rest after its first bytes
pub rest_more : (front rest bytes : List ℕ) (count : ℕ) → front ++ rest ≡ bytes → (front ++ take count rest) ++ take (length rest - count) (drop count rest) ≡ bytes
rest_more front rest bytes count whole =
    append_assoc front _ _
    ∙ ap (λ (all : List ℕ). front ++ (take count rest ++ all)) (take_all (length rest - count) (drop count rest) (omega (arith, length-drop count rest)))
    ∙ ap (λ (all : List ℕ). front ++ all) (take-append-drop count rest) ∙ whole

-- nothing was said yet
pub says_none : (turns : Option (List Turn)) → Says turns turns []
says_none turns = record { pieces = []; turns = turns_none turns; whole = refl }

-- one more piece was said
pub says_more : (old mid new : Option (List Turn)) (front piece : List ℕ) → Says old mid front → Turns mid new (Said piece ∷ []) → Says old new (front ++ piece)
says_more old mid new front piece said more = record {
  pieces = said.pieces ++ piece ∷ [];
  turns = subst T (sym (map-append Said said.pieces (piece ∷ []))) (turns_more old mid new (map Said said.pieces) (Said piece ∷ []) said.turns more);
  whole = concat-append said.pieces (piece ∷ []) ∙ ap (λ (all : List ℕ). concat said.pieces ++ all) (append-nil piece) ∙ ap (λ (all : List ℕ). all ++ piece) said.whole;
}
  where
    T : List Turn → Type 0
    T all = Turns old new all

-- nothing was heard yet
pub heard_none : (turns : Option (List Turn)) (waited : List ℕ) → IsHeard turns turns waited waited
heard_none turns waited = record {
  pieces = [];
  turns = turns_none turns;
  whole = sym (append-nil waited);
  prompt = λ k within. absurd (omega arith);
}

-- a piece that was heard because no block was whole
pub heard_one : (old new : Option (List Turn)) (text piece : List ℕ) → Turns old new (Heard piece ∷ []) → first_block text ≡ None → IsHeard old new text (text ++ piece)
heard_one old new text piece turns none = record {
  pieces = piece ∷ [];
  turns = turns;
  whole = ap (λ (all : List ℕ). text ++ all) (sym (append-nil piece));
  prompt = only;
}
  where
    only : (k : ℕ) → k < 1 → first_block (text ++ concat (take k (piece ∷ []))) ≡ None
    only zero within = ap first_block (append-nil text) ∙ none
    only (suc k) within = absurd (omega arith)

-- the first pieces of a list and of another one behind it
take_behind : (k : ℕ) (a b : List (List ℕ)) → length a ≤ k → take k (a ++ b) ≡ a ++ take (k - length a) b
take_behind k [] b within = ap (λ (n : ℕ). take n b) (omega arith)
take_behind zero (x ∷ a) b within = absurd (omega arith)
take_behind (suc k) (x ∷ a) b within = ap (λ (rest : List (List ℕ)). x ∷ rest) (take_behind k a b (omega arith) ∙ ap (λ (n : ℕ). a ++ take n b) (omega arith))

-- pieces and further ones
pub heard_more : (old mid new : Option (List Turn)) (waited text next : List ℕ) → IsHeard old mid waited text → IsHeard mid new text next → IsHeard old new waited next
heard_more old mid new waited text next a b = record {
  pieces = a.pieces ++ b.pieces;
  turns = subst T (sym (map-append Heard a.pieces b.pieces)) (turns_more old mid new (map Heard a.pieces) (map Heard b.pieces) a.turns b.turns);
  whole = b.whole ∙ joined b.pieces;
  prompt = λ k within. by_place k within (cases_lt k (length a.pieces));
}
  where
    T : List Turn → Type 0
    T all = Turns old new all

    -- the text and pieces behind it
    joined : (c : List (List ℕ)) → text ++ concat c ≡ waited ++ concat (a.pieces ++ c)
    joined c = ap (λ (all : List ℕ). all ++ concat c) a.whole ∙ append_assoc waited (concat a.pieces) (concat c) ∙ ap (λ (all : List ℕ). waited ++ all) (sym (concat-append a.pieces c))

    by_place : (k : ℕ) → k < length (a.pieces ++ b.pieces) → (k < length a.pieces) ⊎ (length a.pieces ≤ k) → first_block (waited ++ concat (take k (a.pieces ++ b.pieces))) ≡ None
    by_place k within (inl early) = ap (λ (all : List (List ℕ)). first_block (waited ++ concat all)) (take-append-le k a.pieces b.pieces (omega arith)) ∙ a.prompt k early
    by_place k within (inr late) =
        ap (λ (all : List (List ℕ)). first_block (waited ++ concat all)) (take_behind k a.pieces b.pieces late)
        ∙ ap first_block (sym (joined (take (k - length a.pieces) b.pieces)))
        ∙ b.prompt (k - length a.pieces) (omega (arith, length-append a.pieces b.pieces))

-- a piece behind a text without a whole block was heard
pub heard_next : (old mid new : Option (List Turn)) (waited text slice next piece : List ℕ) → slice ≡ text → next ≡ text ++ piece → IsHeard old mid waited text → Turns mid new (Heard piece ∷ []) → first_block slice ≡ None → IsHeard old new waited next
heard_next old mid new waited text slice next piece same grown heard turns none =
    let P : List ℕ → Type 0 = λ all. IsHeard old new waited all in
    subst P (sym grown) (heard_more old mid new waited text (text ++ piece) heard (heard_one mid new text piece turns (ap first_block (sym same) ∙ none)))

-- nothing was searched yet
pub searched_none : (text : List ℕ) → IsSearched text 0 0
searched_none text = record {
  front = [];
  line = [];
  rest = text;
  whole = refl;
  from = refl;
  upto = refl;
  passes = passes_none;
  is_open = All-nil (λ (byte : ℕ). nat_eq byte 10 ≡ false);
}

-- a text that was searched is searched as far with more behind it
pub searched_more : (text more : List ℕ) (begin place : ℕ) → IsSearched text begin place → IsSearched (text ++ more) begin place
searched_more text more begin place s = record {
  front = s.front;
  line = s.line;
  rest = s.rest ++ more;
  whole = ap (λ (all : List ℕ). all ++ more) s.whole ∙ simp append_assoc;
  from = s.from;
  upto = s.upto;
  passes = s.passes;
  is_open = s.is_open;
}

-- the same of a slice of what waits
pub searched_next : (slice text next piece : List ℕ) (begin place : ℕ) → slice ≡ text → next ≡ text ++ piece → place ≡ length text → IsSearched slice begin (length slice) → IsSearched next begin place
searched_next slice text next piece begin place same grown at s =
    let P : List ℕ → Type 0 = λ all. IsSearched all begin place in
    let Q : ℕ → Type 0 = λ n. IsSearched slice begin n in
    let here : IsSearched slice begin place = subst Q (ap length same ∙ sym at) s in
    subst P (ap (λ (all : List ℕ). all ++ piece) same ∙ sym grown) (searched_more slice piece begin place here)

-- what is behind the place
behind_place : (text : List ℕ) (begin place : ℕ) → (s : IsSearched text begin place) → drop place text ≡ s.rest
behind_place text begin place s =
    ap (drop place) (s.whole ∙ sym (append_assoc s.front s.line s.rest)) ∙ drop_at (s.front ++ s.line) s.rest place (length-append s.front s.line ∙ s.upto)

-- the place is within the text
pub place_within : (text : List ℕ) (begin place : ℕ) → IsSearched text begin place → (begin ≤ place) × (place ≤ length text)
place_within text begin place s =
    let size = ap length s.whole in
    (omega (arith, s.from, s.upto), omega (arith, s.upto, size, length-append s.front (s.line ++ s.rest), length-append s.line s.rest))

-- a text has whole lines without `end`, and a line that ends with the LF at a place
pub record IsLine (text : List ℕ) (begin lf : ℕ) : Type 0 where
  pub front : List ℕ
  pub line : List ℕ
  pub behind : List ℕ
  pub whole : text ≡ front ++ (line ++ 10 ∷ behind)
  pub from : length front ≡ begin
  pub upto : length front + length line ≡ lf
  pub passes : Passes front
  pub is_open : IsOpen line

-- the next LF ends the present line
pub line_at : (text : List ℕ) (begin place size : ℕ) → IsSearched text begin place → position (λ byte. nat_eq byte 10) (drop place text) ≡ Some size → IsLine text begin (place + size)
line_at text begin place size s found =
    let p : ℕ → Bool = λ byte. nat_eq byte 10 in
    let here : position p s.rest ≡ Some size = ap (position p) (sym (behind_place text begin place s)) ∙ found in
    let at = position-Some p s.rest size 0 here in
    let is_lf : get_or s.rest size 0 ≡ 10 = lf_is (get_or s.rest size 0) at.1 in
    let split : take size s.rest ++ 10 ∷ drop (size + 1) s.rest ≡ s.rest =
    ap (λ (byte : ℕ). take size s.rest ++ byte ∷ drop (size + 1) s.rest) (sym is_lf) ∙ ap (λ (all : List ℕ). take size s.rest ++ all) (sym (drop_more s.rest size 0 at.0)) ∙ take-append-drop size s.rest in
    record {
      front = s.front;
      line = s.line ++ take size s.rest;
      behind = drop (size + 1) s.rest;
      whole = s.whole ∙ ap (λ (all : List ℕ). s.front ++ (s.line ++ all)) (sym split) ∙ ap (λ (all : List ℕ). s.front ++ all) (sym (append_assoc s.line (take size s.rest) (10 ∷ drop (size + 1) s.rest)));
      from = s.from;
      upto = omega (arith, s.upto, length-append s.line (take size s.rest), length-take size s.rest, at.0);
      passes = s.passes;
      is_open = All-append (λ (byte : ℕ). nat_eq byte 10 ≡ false) s.line (take size s.rest) s.is_open
          (λ k d within. before size s.rest here k d (omega (arith, length-take size s.rest)));
    }
  where
    lf_is : (byte : ℕ) → nat_eq byte 10 ≡ true → byte ≡ 10
    lf_is byte e = grind (arith, nat_tests)

    before : (size : ℕ) (rest : List ℕ) → position (λ byte. nat_eq byte 10) rest ≡ Some size → (k d : ℕ) → k < size → nat_eq (get_or (take size rest) k d) 10 ≡ false
    before size rest here k d early = rw (get_or-take size rest k d early) ((position-Some (λ byte. nat_eq byte 10) rest size d here).2 k early)

-- the bytes of the present line
pub line_is : (text : List ℕ) (begin lf : ℕ) → (l : IsLine text begin lf) → take (lf - begin) (drop begin text) ≡ l.line
line_is text begin lf l =
    let rest : drop begin text ≡ l.line ++ 10 ∷ l.behind = ap (drop begin) l.whole ∙ drop_at l.front (l.line ++ 10 ∷ l.behind) begin l.from in
    ap (take (lf - begin)) rest ∙ take_at l.line (10 ∷ l.behind) (lf - begin) (omega (arith, l.from, l.upto))

-- a line that isn't `end` is passed
pub searched_line : (text : List ℕ) (begin lf : ℕ) → (l : IsLine text begin lf) → is_end l.line ≡ false → IsSearched text (lf + 1) (lf + 1)
searched_line text begin lf l other =
    let size : length (l.front ++ (l.line ++ 10 ∷ [])) ≡ lf + 1 = omega (arith, length-append l.front (l.line ++ 10 ∷ []), length-append l.line (10 ∷ []), l.upto) in
    record {
      front = l.front ++ (l.line ++ 10 ∷ []);
      line = [];
      rest = l.behind;
      whole = l.whole ∙ sym (simp append_assoc);
      from = size;
      upto = omega (arith, size);
      passes = passes_line l.front l.line l.passes l.is_open other;
      is_open = All-nil (λ (byte : ℕ). nat_eq byte 10 ≡ false);
    }

-- the line is within the text
pub lf_within : (text : List ℕ) (begin lf : ℕ) → IsLine text begin lf → (begin ≤ lf) × (lf < length text)
lf_within text begin lf l =
    let size = ap length l.whole in
    (omega (arith, l.from, l.upto), omega (arith, l.upto, size, length-append l.front (l.line ++ 10 ∷ l.behind), length-append l.line (10 ∷ l.behind)))

-- a line `end` ends the search
pub found_end : (text : List ℕ) (begin lf : ℕ) → (l : IsLine text begin lf) → is_end l.line ≡ true → IsFound (End begin (lf + 1)) text
found_end text begin lf l ends =
    let within = lf_within text begin lf l in
    let front : take begin text ≡ l.front = ap (take begin) l.whole ∙ take_at l.front (l.line ++ 10 ∷ l.behind) begin l.from in
    let size : length (l.front ++ (l.line ++ 10 ∷ [])) ≡ lf + 1 = omega (arith, length-append l.front (l.line ++ 10 ∷ []), length-append l.line (10 ∷ []), l.upto) in
    let regroup : text ≡ (l.front ++ (l.line ++ 10 ∷ [])) ++ l.behind = l.whole ∙ sym (simp append_assoc) in
    let behind : drop (lf + 1) text ≡ l.behind = ap (drop (lf + 1)) regroup ∙ drop_at (l.front ++ (l.line ++ 10 ∷ [])) l.behind (lf + 1) size in
    let cut : first_block text ≡ Some (l.front, l.behind) = ap first_block l.whole ∙ passes_end l.front l.line l.behind l.passes l.is_open ends in
    (cut ∙ sym (λ i. Some (front i, behind i)), omega (arith, within.0, within.1), omega (arith, within.1))

-- a text whose present line has no LF has no whole block
pub found_open : (text : List ℕ) (begin place : ℕ) → IsSearched text begin place → position (λ byte. nat_eq byte 10) (drop place text) ≡ None → IsFound (Open begin) text
found_open text begin place s none =
    let p : ℕ → Bool = λ byte. nat_eq byte 10 in
    let here : position p s.rest ≡ None = ap (position p) (sym (behind_place text begin place s)) ∙ none in
    let all_open : IsOpen (s.line ++ s.rest) = All-append (λ (byte : ℕ). nat_eq byte 10 ≡ false) s.line s.rest s.is_open (λ k d within. nowhere s.rest here k d within) in
    let whole : text ≡ s.front ++ ((s.line ++ s.rest) ++ []) = s.whole ∙ ap (λ (all : List ℕ). s.front ++ all) (sym (append-nil (s.line ++ s.rest))) in (
      ap first_block s.whole ∙ passes_open s.front (s.line ++ s.rest) s.passes all_open,
      record {
        front = s.front;
        line = s.line ++ s.rest;
        rest = [];
        whole = whole;
        from = s.from;
        upto = sym (ap length s.whole ∙ length-append s.front (s.line ++ s.rest));
        passes = s.passes;
        is_open = all_open;
      },
    )
  where
    nowhere : (rest : List ℕ) → position (λ byte. nat_eq byte 10) rest ≡ None → (k d : ℕ) → k < length rest → nat_eq (get_or rest k d) 10 ≡ false
    nowhere rest here k d within = fails_before_first (λ byte. nat_eq byte 10) rest k d (grind (arith, nat_tests))

-- what is in front of a block changes nothing of what is behind it
rest_begun : (front : List ℕ) (found : Option (List ℕ × List ℕ)) → rest_of (begun front found) ≡ rest_of found
rest_begun front None = refl
rest_begun front (Some found) = refl

-- a line that isn't `end` changes nothing of what is behind the block
rest_other : (line behind : List ℕ) → IsOpen line → 5 ≤ length line → rest_of (first_block (line ++ 10 ∷ behind)) ≡ rest_of (first_block behind)
rest_other line behind is_open long =
    ap rest_of (other_first line behind is_open (long_other line long)) ∙ rest_begun (line ++ 10 ∷ []) (first_block behind)

-- five bytes of a long line show as much as the line
alike_line : (line : List ℕ) → IsOpen line → EndAlike line (take 5 line)
alike_line line is_open more = by_size (cases_lt 5 (length line))
  where
    N : ℕ → Type 0
    N byte = nat_eq byte 10 ≡ false

    front_open : IsOpen (take 5 line)
    front_open k d within = rw (get_or-take 5 line k d (omega (arith, length-take 5 line))) (is_open k d (omega (arith, length-take 5 line)))

    long_by : 5 < length line → (IsOpen more ⊎ ((mid : List ℕ) × (behind : List ℕ) × (more ≡ mid ++ 10 ∷ behind) × IsOpen mid)) → rest_of (first_block (line ++ more)) ≡ rest_of (first_block (take 5 line ++ more))
    long_by long (inl more_open) =
        ap rest_of (open_none (line ++ more) (All-append N line more is_open more_open) ∙ sym (open_none (take 5 line ++ more) (All-append N (take 5 line) more front_open more_open)))
    long_by long (inr (mid, behind, is, mid_open)) =
        let at : (front : List ℕ) → front ++ more ≡ (front ++ mid) ++ 10 ∷ behind = λ front. ap (λ (all : List ℕ). front ++ all) is ∙ sym (append_assoc front mid (10 ∷ behind)) in
        ap (λ (all : List ℕ). rest_of (first_block all)) (at line)
        ∙ rest_other (line ++ mid) behind (All-append N line mid is_open mid_open) (omega (arith, length-append line mid))
        ∙ sym (ap (λ (all : List ℕ). rest_of (first_block all)) (at (take 5 line))
        ∙ rest_other (take 5 line ++ mid) behind (All-append N (take 5 line) mid front_open mid_open) (omega (arith, length-append (take 5 line) mid, length-take 5 line)))

    by_size : (5 < length line) ⊎ (length line ≤ 5) → rest_of (first_block (line ++ more)) ≡ rest_of (first_block (take 5 line ++ more))
    by_size (inl long) = long_by long (split_line more)
    by_size (inr short) = ap (λ (front : List ℕ). rest_of (first_block (front ++ more))) (sym (take_all 5 line short))

-- a text that was searched whole
whole_open : (text : List ℕ) (begin : ℕ) → (s : IsSearched text begin (length text)) → text ≡ s.front ++ s.line
whole_open text begin s =
    let size = ap length s.whole in
    let nothing : s.rest ≡ [] = nil_from_length s.rest (omega (arith, size, s.upto, length-append s.front (s.line ++ s.rest), length-append s.line s.rest)) in
    s.whole ∙ ap (λ (all : List ℕ). s.front ++ (s.line ++ all)) nothing ∙ ap (λ (all : List ℕ). s.front ++ all) (append-nil s.line)

-- it has no whole block
none_open : (text : List ℕ) (begin : ℕ) → IsSearched text begin (length text) → first_block text ≡ None
none_open text begin s = ap first_block (whole_open text begin s) ∙ passes_open s.front s.line s.passes s.is_open

-- the front of the present line shows as much as the text
pub alike_open : (text : List ℕ) (begin : ℕ) → IsSearched text begin (length text) → EndAlike text (take 5 (drop begin text))
alike_open text begin s more =
    let whole = whole_open text begin s in
    let present : drop begin text ≡ s.line = ap (drop begin) whole ∙ drop_at s.front s.line begin s.from in
    ap (λ (all : List ℕ). rest_of (first_block (all ++ more))) whole ∙ ap (λ (all : List ℕ). rest_of (first_block all)) (append_assoc s.front s.line more)
    ∙ ap rest_of (s.passes (s.line ++ more)) ∙ rest_begun s.front (first_block (s.line ++ more))
    ∙ alike_line s.line s.is_open more ∙ ap (λ (all : List ℕ). rest_of (first_block (take 5 all ++ more))) (sym present)

-- two texts that show as much do so with more behind them
pub alike_more : (text kept piece : List ℕ) → EndAlike text kept → EndAlike (text ++ piece) (kept ++ piece)
alike_more text kept piece alike more =
    ap (λ (all : List ℕ). rest_of (first_block all)) (append_assoc text piece more) ∙ alike (piece ++ more)
    ∙ sym (ap (λ (all : List ℕ). rest_of (first_block all)) (append_assoc kept piece more))

-- one text shows as much as another one, and that as a third
pub alike_then : (a b c : List ℕ) → EndAlike a b → EndAlike b c → EndAlike a c
alike_then a b c first second more = first more ∙ second more

-- what is behind the block of a text that shows as much
pub alike_now : (text kept : List ℕ) → EndAlike text kept → rest_of (first_block text) ≡ rest_of (first_block kept)
alike_now text kept alike =
    sym (ap (λ (all : List ℕ). rest_of (first_block all)) (append-nil text)) ∙ alike [] ∙ ap (λ (all : List ℕ). rest_of (first_block all)) (append-nil kept)

-- nothing behind a block is no block
pub none_is : (found : Option (List ℕ × List ℕ)) → rest_of found ≡ None → found ≡ None
none_is None e = refl
none_is (Some found) e = absurd (cc)

-- something behind a block is behind some block
pub some_rest : (found : Option (List ℕ × List ℕ)) (rest : List ℕ) → rest_of found ≡ Some rest → (block : List ℕ) × (found ≡ Some (block, rest))
some_rest None rest e = absurd (cc)
some_rest (Some found) rest e =
    let is : found.1 ≡ rest = cc in
    (found.0, ap (λ (behind : List ℕ). Some (found.0, behind)) is)

-- a block that is too long is heard: what was heard so far, of which only so much is kept as shows where it ends
pub record IsSkipping (old new : Option (List Turn)) (waited kept : List ℕ) (count : ℕ) : Type 0 where
  pub text : List ℕ
  pub heard : IsHeard old new waited text
  pub alike : EndAlike text kept
  pub none : first_block text ≡ None
  pub long : count ≤ length text

-- nothing was heard yet
pub skipping_none : (turns : Option (List Turn)) (waited kept : List ℕ) (begin : ℕ) → IsSearched waited begin (length waited) → kept ≡ take 5 (drop begin waited) → IsSkipping turns turns waited kept 0
skipping_none turns waited kept begin s is = record {
  text = waited;
  heard = heard_none turns waited;
  alike = let P : List ℕ → Type 0 = λ all. EndAlike waited all in subst P (sym is) (alike_open waited begin s);
  none = none_open waited begin s;
  long = omega arith;
}

-- fewer bytes were heard
pub skipping_less : (old new : Option (List Turn)) (waited kept : List ℕ) (count less : ℕ) → less ≤ count → IsSkipping old new waited kept count → IsSkipping old new waited kept less
skipping_less old new waited kept count less within s = record { text = s.text; heard = s.heard; alike = s.alike; none = s.none; long = omega (arith, s.long) }

-- a further piece was heard
pub record IsGrown (old new : Option (List Turn)) (waited kept : List ℕ) (count : ℕ) : Type 0 where
  pub text : List ℕ
  pub heard : IsHeard old new waited text
  pub alike : EndAlike text kept
  pub long : count ≤ length text

-- one more piece
pub skipping_heard : (old mid new : Option (List Turn)) (waited kept next piece : List ℕ) (count : ℕ) → next ≡ kept ++ piece → Turns mid new (Heard piece ∷ []) → IsSkipping old mid waited kept count → IsGrown old new waited next (count + length piece)
skipping_heard old mid new waited kept next piece count grown turns s = record {
  text = s.text ++ piece;
  heard = heard_more old mid new waited s.text (s.text ++ piece) s.heard (heard_one mid new s.text piece turns s.none);
  alike = let P : List ℕ → Type 0 = λ all. EndAlike (s.text ++ piece) all in subst P (sym grown) (alike_more s.text kept piece s.alike);
  long = omega (arith, length-append s.text piece, s.long);
}

-- the input ended
pub skipping_ended : (old mid new : Option (List Turn)) (waited kept : List ℕ) (count : ℕ) → Turns mid new (Heard [] ∷ []) → IsSkipping old mid waited kept count
    → (text : List ℕ) × IsHeard old new waited text × (first_block text ≡ None)
skipping_ended old mid new waited kept count turns s =
    (s.text ++ [], heard_more old mid new waited s.text (s.text ++ []) s.heard (heard_one mid new s.text [] turns s.none), ap first_block (append-nil s.text) ∙ s.none)

-- the end of the block was heard
pub skipping_end : (old new : Option (List Turn)) (waited kept slice left : List ℕ) (begin behind count : ℕ) → slice ≡ kept → left ≡ drop behind kept → IsGrown old new waited kept count → first_block slice ≡ Some (take begin slice, drop behind slice)
    → (text : List ℕ) × IsHeard old new waited text × ((block : List ℕ) × (first_block text ≡ Some (block, left)))
skipping_end old new waited kept slice left begin behind count same is s found =
    let rest : rest_of (first_block s.text) ≡ Some left =
    alike_now s.text kept s.alike ∙ ap (λ (all : List ℕ). rest_of (first_block all)) (sym same) ∙ ap rest_of found ∙ ap (λ (all : List ℕ). Some (drop behind all)) same ∙ ap Some (sym is) in
    (s.text, s.heard, some_rest (first_block s.text) left rest)

-- no end was heard
pub skipping_more : (old new : Option (List Turn)) (waited kept slice next : List ℕ) (begin count : ℕ) → slice ≡ kept → next ≡ take 5 (drop begin kept) → IsGrown old new waited kept count → IsFound (Open begin) slice → IsSkipping old new waited next count
skipping_more old new waited kept slice next begin count same is s found =
    let P : List ℕ → Type 0 = λ all. IsFound (Open begin) all in
    let here : IsFound (Open begin) kept = subst P same found in
    let Q : List ℕ → Type 0 = λ all. EndAlike s.text all in
    record {
      text = s.text;
      heard = s.heard;
      alike = subst Q (sym is) (alike_then s.text kept (take 5 (drop begin kept)) s.alike (alike_open kept begin here.1));
      none = none_is (first_block s.text) (alike_now s.text kept s.alike ∙ ap rest_of here.0);
      long = s.long;
    }

-- a trouble over nothing is one over any text
pub trouble_any : (why : Trouble) (text : List ℕ) (before mid now : ℕ) → mid ≡ before → IsTrouble why [] mid now → IsTrouble why text before now
trouble_any Failed text before mid now same is = rw (← same) is
trouble_any NoMemory text before mid now same is = is ∙ same
trouble_any Endless text before mid now same is = absurd (omega (arith, is.1))

-- what is answered of a whole block
pub next_taken : (next : NextBlock) (text waiting : List ℕ) (begin behind : ℕ) (ended : Bool) → first_block text ≡ Some (take begin text, drop behind text) → waiting ≡ drop behind text → IsTaken next (take begin text) → IsNext next text waiting ended
next_taken (Whole block) text waiting begin behind ended found is taken =
    (found ∙ (λ i. Some (sym taken.0 i, sym is i)), rw taken.0 taken.1)
next_taken TooLong text waiting begin behind ended found is taken = (take begin text, found ∙ ap (λ (rest : List ℕ). Some (take begin text, rest)) (sym is), taken)
next_taken Ended text waiting begin behind ended found is taken = absurd taken
next_taken EndedTooLong text waiting begin behind ended found is taken = absurd taken

-- what is answered at the end of the input
pub next_left : (next : NextBlock) (text waiting : List ℕ) (ended : Bool) → first_block text ≡ None → IsTrue ended → IsLeft next text waiting → IsNext next text waiting ended
next_left (Whole block) text waiting ended none end left = absurd left
next_left TooLong text waiting ended none end left = absurd left
next_left Ended text waiting ended none end left = (none, end, left.0, left.1)
next_left EndedTooLong text waiting ended none end left = (none, end, left.0, left.1)

-- what is answered of a block that is too long
pub next_skipped : (next : NextBlock) (front more text waiting : List ℕ) (ended : Bool) → text ≡ front ++ more → first_block front ≡ None → 1048580 < length front → IsSkipped next text waiting ended → IsNext next text waiting ended
next_skipped (Whole block) front more text waiting ended is none long skipped = absurd skipped
next_skipped TooLong front more text waiting ended is none long skipped =
    let most = block_long front more skipped.0 waiting none (ap first_block (sym is) ∙ skipped.1) in
    (skipped.0, skipped.1, omega arith)
next_skipped Ended front more text waiting ended is none long skipped = absurd skipped
next_skipped EndedTooLong front more text waiting ended is none long skipped =
    (skipped.0, skipped.1, skipped.2, omega (arith, ap length is, length-append front more))

-- a text whose block is too long doesn't wait
pub waits_overlong : (front more text waiting : List ℕ) → text ≡ front ++ more → first_block front ≡ None → 1048580 < length front → Waits waiting text
waits_overlong front more text waiting is none long = inr (record { front = front; rest = more; whole = sym is; long = long; open_ = none })

-- what is answered after a block that is too long was gathered and skipped
pub long_next : (old mid new : Option (List Turn)) (waited front waiting : List ℕ) (before ended : Bool) (next : NextBlock) (begin : ℕ) → IsHeard old mid waited front → IsGathered (Long begin) front before
    → ((text : List ℕ) × IsHeard mid new front text × IsSkipped next text waiting ended) → (text : List ℕ) × IsHeard old new waited text × IsNext next text waiting ended
long_next old mid new waited front waiting before ended next begin heard long skipped = (
  skipped.0,
  heard_more old mid new waited front skipped.0 heard skipped.1,
  next_skipped next front (concat skipped.1.pieces) skipped.0 waiting ended skipped.1.whole long.0.0 long.1 skipped.2,
)

-- a text without a whole block, for any trouble
pub no_block : (why : Trouble) (text : List ℕ) → first_block text ≡ None → HasNoBlock why text
no_block Failed text none = none
no_block NoMemory text none = tt
no_block Endless text none = none

-- why none is
pub long_trouble : (old mid new : Option (List Turn)) (waited front waiting : List ℕ) (before : Bool) (why : Trouble) (begin first then now : ℕ) → IsHeard old mid waited front → IsGathered (Long begin) front before → then ≡ first
    → ((text : List ℕ) × IsHeard mid new front text × (IsTrouble why text then now × (first_block text ≡ None))) → (text : List ℕ) × IsHeard old new waited text × (IsTrouble why text first now × Waits waiting text × HasNoBlock why text)
long_trouble old mid new waited front waiting before why begin first then now heard long same trouble =
    let P : ℕ → Type 0 = λ n. IsTrouble why trouble.0 n now in (
      trouble.0,
      heard_more old mid new waited front trouble.0 heard trouble.1,
      (subst P same trouble.2.0, waits_overlong front (concat trouble.1.pieces) trouble.0 waiting trouble.1.whole long.0.0 long.1, no_block why trouble.0 trouble.2.1),
    )
