-- Blocks: lines in front of a text, where a first block ends, and all blocks of a text.
use Rattle.std.proofs.Common.{ℕ, ◌≡◌, ◌<◌, ◌≤◌, ◌+◌, ◌⊎◌, ◌∙◌, inl, inr, zero, suc, true, false, Bool, nat_eq, cond, List, ◌∷◌, ◌++◌, [], length, take, drop, Option, Some, None, arith, ap, sym, refl, subst, take-append-drop, append-nil, append_assoc, length-append}
use Rattle.std.specs.List.{join_with_byte, slice_split}
use Rattle.std.specs.Str.{bytes_eq}
use Rattle.std.proofs.lemmas.Bool.Decides.{nat_tests}
use Rattle.std.proofs.lemmas.List.{take-append-le, take_at}
use Rattle.std.proofs.lemmas.List.Elements.{All-cons, All-nil}
use Rattle.std.proofs.lemmas.List.Splits.{slice_split_none, slice_split_at, length-slice_split, join_with_byte-slice_split}
use Rattle.std.proofs.lemmas.Slice.Eq.{bytes_eq-Decides}
use Rattle.auc_block.specs.Block.{Blocks, and_those, begun, block_among, blocks_in, blocks_up_to, first_block, is_end}
use Rattle.auc_block.specs.InnerHearing.{IsOpen, Passes}

-- what two values in `Some` are
some_is : {A : Type 0} (x y : A) → Some x ≡ Some y → x ≡ y
some_is x y e = cc

-- a text without LF has no whole block
pub open_none : (line : List ℕ) → IsOpen line → first_block line ≡ None
open_none line is_open = ap block_among (slice_split_none (λ byte. nat_eq byte 10) line is_open)

-- a line among parts
among : (line : List ℕ) (parts : List (List ℕ)) → 0 < length parts → block_among (line ∷ parts) ≡ cond (is_end line) (Some ([], join_with_byte 10 parts)) (begun (line ++ 10 ∷ []) (block_among parts))
among line [] some = absurd (omega arith)
among line (next ∷ more) some = refl

-- a line with its LF in front of a text: the block ends there, or the line is the first one of it
pub line_first : (line behind : List ℕ) → IsOpen line → first_block (line ++ 10 ∷ behind) ≡ cond (is_end line) (Some ([], behind)) (begun (line ++ 10 ∷ []) (first_block behind))
line_first line behind is_open =
    let p : ℕ → Bool = λ byte. nat_eq byte 10 in
    ap block_among (slice_split_at p line 10 behind is_open refl)
    ∙ among line (slice_split p behind) (omega (arith, length-slice_split p behind))
    ∙ ap (λ (joined : List ℕ). cond (is_end line) (Some (the_pair [] joined)) (begun (line ++ 10 ∷ []) (first_block behind))) (join_with_byte-slice_split 10 behind)
  where
    the_pair : List ℕ → List ℕ → List ℕ × List ℕ
    the_pair a b = (a, b)

-- a line that is `end` ends the block
pub end_first : (line behind : List ℕ) → IsOpen line → is_end line ≡ true → first_block (line ++ 10 ∷ behind) ≡ Some ([], behind)
end_first line behind is_open ends = line_first line behind is_open ∙ rw ends refl

-- another line is the first one of the block
pub other_first : (line behind : List ℕ) → IsOpen line → is_end line ≡ false → first_block (line ++ 10 ∷ behind) ≡ begun (line ++ 10 ∷ []) (first_block behind)
other_first line behind is_open other = line_first line behind is_open ∙ rw other refl

-- nothing in front
begun_nil : (found : Option (List ℕ × List ℕ)) → begun [] found ≡ found
begun_nil None = refl
begun_nil (Some found) = refl

-- two parts in front are one
begun_begun : (a b : List ℕ) (found : Option (List ℕ × List ℕ)) → begun a (begun b found) ≡ begun (a ++ b) found
begun_begun a b None = refl
begun_begun a b (Some found) = ap (λ (front : List ℕ). Some (front, found.1)) (sym (append_assoc a b found.0))

-- no lines are passed
pub passes_none : Passes []
passes_none more = sym (begun_nil (first_block more))

-- one more line is passed
pub passes_line : (front line : List ℕ) → Passes front → IsOpen line → is_end line ≡ false → Passes (front ++ (line ++ 10 ∷ []))
passes_line front line passes is_open other more =
    let regroup : (front ++ (line ++ 10 ∷ [])) ++ more ≡ front ++ (line ++ 10 ∷ more) = simp append_assoc in
    ap first_block regroup ∙ passes (line ++ 10 ∷ more) ∙ ap (begun front) (other_first line more is_open other)
    ∙ begun_begun front (line ++ 10 ∷ []) (first_block more)

-- a line `end` behind lines that are passed ends the block
pub passes_end : (front line behind : List ℕ) → Passes front → IsOpen line → is_end line ≡ true → first_block (front ++ (line ++ 10 ∷ behind)) ≡ Some (front, behind)
passes_end front line behind passes is_open ends =
    passes (line ++ 10 ∷ behind) ∙ ap (begun front) (end_first line behind is_open ends) ∙ ap (λ (block : List ℕ). Some (block, behind)) (append-nil front)

-- a line without its LF behind lines that are passed is no block
pub passes_open : (front line : List ℕ) → Passes front → IsOpen line → first_block (front ++ line) ≡ None
passes_open front line passes is_open = passes line ∙ ap (begun front) (open_none line is_open)

-- a text is one part, or a line with its LF and what is behind it
pub split_line : (text : List ℕ) → IsOpen text ⊎ ((line : List ℕ) × (behind : List ℕ) × (text ≡ line ++ 10 ∷ behind) × IsOpen line)
split_line [] = inl (All-nil (λ (byte : ℕ). nat_eq byte 10 ≡ false))
split_line (x ∷ xs) = by_test (nat_eq x 10) refl (split_line xs)
  where
    by_rest : nat_eq x 10 ≡ false → (IsOpen xs ⊎ ((line : List ℕ) × (behind : List ℕ) × (xs ≡ line ++ 10 ∷ behind) × IsOpen line)) → IsOpen (x ∷ xs) ⊎ ((line : List ℕ) × (behind : List ℕ) × (x ∷ xs ≡ line ++ 10 ∷ behind) × IsOpen line)
    by_rest e (inl is_open) = inl (All-cons (λ (byte : ℕ). nat_eq byte 10 ≡ false) x xs e is_open)
    by_rest e (inr (line, behind, is, is_open)) = inr (x ∷ line, behind, ap (λ (rest : List ℕ). x ∷ rest) is, All-cons (λ (byte : ℕ). nat_eq byte 10 ≡ false) x line e is_open)

    by_test : (b : Bool) → nat_eq x 10 ≡ b → (IsOpen xs ⊎ ((line : List ℕ) × (behind : List ℕ) × (xs ≡ line ++ 10 ∷ behind) × IsOpen line)) → IsOpen (x ∷ xs) ⊎ ((line : List ℕ) × (behind : List ℕ) × (x ∷ xs ≡ line ++ 10 ∷ behind) × IsOpen line)
    by_test true e rest = let is : x ≡ 10 = grind (arith, nat_tests) in inr ([], xs, ap (λ (byte : ℕ). byte ∷ xs) is, All-nil (λ (byte : ℕ). nat_eq byte 10 ≡ false))
    by_test false e rest = by_rest e rest

-- a text is a block, a line `end` and the bytes behind it
pub record IsCut (text block rest : List ℕ) : Type 0 where
  pub line : List ℕ
  pub whole : text ≡ block ++ (line ++ 10 ∷ rest)
  pub passes : Passes block
  pub is_open : IsOpen line
  pub ends : is_end line ≡ true

-- a cut is the first block
pub cut_is : (text block rest : List ℕ) → IsCut text block rest → first_block text ≡ Some (block, rest)
cut_is text block rest cut = ap first_block cut.whole ∙ passes_end block cut.line rest cut.passes cut.is_open cut.ends

-- a cut behind one more line
cut_behind : (line behind block rest : List ℕ) → IsOpen line → is_end line ≡ false → IsCut behind block rest → IsCut (line ++ 10 ∷ behind) ((line ++ 10 ∷ []) ++ block) rest
cut_behind line behind block rest is_open other cut = record {
  line = cut.line;
  whole = ap (λ (all : List ℕ). line ++ 10 ∷ all) cut.whole ∙ sym (simp append_assoc);
  passes = λ more.
      let regroup : ((line ++ 10 ∷ []) ++ block) ++ more ≡ line ++ 10 ∷ (block ++ more) = simp append_assoc in
      ap first_block regroup ∙ other_first line (block ++ more) is_open other ∙ ap (begun (line ++ 10 ∷ [])) (cut.passes more)
      ∙ begun_begun (line ++ 10 ∷ []) block (first_block more);
  is_open = cut.is_open;
  ends = cut.ends;
}

-- a first block that begins with a line ends where that of what is behind the line does
cut_found : (line behind block rest : List ℕ) (found : Option (List ℕ × List ℕ)) → IsOpen line → is_end line ≡ false → first_block behind ≡ found → begun (line ++ 10 ∷ []) found ≡ Some (block, rest)
    → ((block rest : List ℕ) → first_block behind ≡ Some (block, rest) → IsCut behind block rest) → IsCut (line ++ 10 ∷ behind) block rest
cut_found line behind block rest None is_open other is gives earlier = absurd (cc)
cut_found line behind block rest (Some found) is_open other is gives earlier =
    let same : ((line ++ 10 ∷ []) ++ found.0, found.1) ≡ (block, rest) = some_is _ _ gives in
    let P : List ℕ × List ℕ → Type 0 = λ p. IsCut (line ++ 10 ∷ behind) p.0 p.1 in
    subst P same (cut_behind line behind found.0 found.1 is_open other (earlier found.0 found.1 is))

-- the first block of a text that begins with a line
cut_tested : (line behind block rest : List ℕ) (test : Bool) → is_end line ≡ test → IsOpen line → first_block (line ++ 10 ∷ behind) ≡ Some (block, rest)
    → ((block rest : List ℕ) → first_block behind ≡ Some (block, rest) → IsCut behind block rest) → IsCut (line ++ 10 ∷ behind) block rest
cut_tested line behind block rest true ends is_open found earlier =
    let same : ([], behind) ≡ (block, rest) = some_is _ _ (sym (end_first line behind is_open ends) ∙ found) in
    let P : List ℕ × List ℕ → Type 0 = λ p. IsCut (line ++ 10 ∷ behind) p.0 p.1 in
    subst P same (record { line = line; whole = refl; passes = passes_none; is_open = is_open; ends = ends })
cut_tested line behind block rest false other is_open found earlier =
    cut_found line behind block rest (first_block behind) is_open other refl (sym (other_first line behind is_open other) ∙ found) earlier

-- the first block of a text of at most so many bytes is a cut of it
cut_up_to : (n : ℕ) (text block rest : List ℕ) → length text ≤ n → first_block text ≡ Some (block, rest) → IsCut text block rest
cut_up_to zero [] block rest within found = absurd (cc)
cut_up_to zero (x ∷ xs) block rest within found = absurd (omega arith)
cut_up_to (suc n) text block rest within found = by_line (λ behind b r. cut_up_to n behind b r) (split_line text)
  where
    by_line : ((behind b r : List ℕ) → length behind ≤ n → first_block behind ≡ Some (b, r) → IsCut behind b r) → (IsOpen text ⊎ ((line : List ℕ) × (behind : List ℕ) × (text ≡ line ++ 10 ∷ behind) × IsOpen line)) → IsCut text block rest
    by_line earlier (inl is_open) = absurd (cc (open_none text is_open))
    by_line earlier (inr (line, behind, is, is_open)) =
        let size : length text ≡ length line + suc (length behind) = ap length is ∙ length-append line (10 ∷ behind) in
        let P : List ℕ → Type 0 = λ all. IsCut all block rest in
        subst P (sym is) (cut_tested line behind block rest (is_end line) refl is_open (sym (ap first_block is) ∙ found) (λ b r. earlier behind b r (omega arith)))

-- the first block of a text is a cut of it
pub cut_of : (text block rest : List ℕ) → first_block text ≡ Some (block, rest) → IsCut text block rest
cut_of text block rest found = cut_up_to (length text) text block rest (omega arith) found

-- more text behind a first block changes nothing of it
pub stands : (text more block rest : List ℕ) → first_block text ≡ Some (block, rest) → first_block (text ++ more) ≡ Some (block, rest ++ more)
stands text more block rest found =
    let cut = cut_of text block rest found in
    cut_is (text ++ more) block (rest ++ more) (record {
      line = cut.line;
      whole = ap (λ (all : List ℕ). all ++ more) cut.whole ∙ simp append_assoc;
      passes = cut.passes;
      is_open = cut.is_open;
      ends = cut.ends;
    })

-- a line `end` has at most four bytes without its LF
end_short : (line : List ℕ) → is_end line ≡ true → length line ≤ 4
end_short line ends = by_test (bytes_eq line (101 ∷ 110 ∷ 100 ∷ [])) refl ends
  where
    by_test : (b : Bool) → bytes_eq line (101 ∷ 110 ∷ 100 ∷ []) ≡ b → is_end line ≡ true → length line ≤ 4
    by_test true e all = omega (arith, ap length ((bytes_eq-Decides line (101 ∷ 110 ∷ 100 ∷ [])).0 e))
    by_test false e all =
        let other : bytes_eq line (101 ∷ 110 ∷ 100 ∷ 13 ∷ []) ≡ true = rw e at all in
        omega (arith, ap length ((bytes_eq-Decides line (101 ∷ 110 ∷ 100 ∷ 13 ∷ [])).0 other))

-- a longer line isn't `end`
pub long_other : (line : List ℕ) → 5 ≤ length line → is_end line ≡ false
long_other line long = by_test (is_end line) refl
  where
    by_test : (b : Bool) → is_end line ≡ b → b ≡ false
    by_test true e = let short = end_short line e in absurd (omega arith)
    by_test false e = refl

-- a block that ends behind a text without a whole block has nearly all bytes of the text
pub block_long : (text more block rest : List ℕ) → first_block text ≡ None → first_block (text ++ more) ≡ Some (block, rest) → length text ≤ length block + 4
block_long text more block rest none found = by_size (cut_of (text ++ more) block rest found)
  where
    short : (cut : IsCut (text ++ more) block rest) → length block + length cut.line + 1 ≤ length text → ⊥
    short cut within =
        let n = length block + length cut.line + 1 in
        let front : List ℕ = block ++ (cut.line ++ 10 ∷ []) in
        let size : length front ≡ n = length-append block (cut.line ++ 10 ∷ []) ∙ omega (arith, length-append cut.line (10 ∷ [])) in
        let regroup : block ++ (cut.line ++ 10 ∷ rest) ≡ front ++ rest = sym (simp append_assoc) in
        let begins : take n text ≡ front = sym (take-append-le n text more within) ∙ ap (take n) (cut.whole ∙ regroup) ∙ take_at front rest n size in
        let whole : text ≡ block ++ (cut.line ++ 10 ∷ drop n text) = sym (take-append-drop n text) ∙ ap (λ (all : List ℕ). all ++ drop n text) begins ∙ simp append_assoc in
        let again = cut_is text block (drop n text) (record { line = cut.line; whole = whole; passes = cut.passes; is_open = cut.is_open; ends = cut.ends }) in
        absurd (cc)

    by_size : IsCut (text ++ more) block rest → length text ≤ length block + 4
    by_size cut =
        let line_short = end_short cut.line cut.ends in
        let late : (length block + length cut.line + 1 ≤ length text → ⊥) = short cut in
        omega arith

-- fewer bytes are behind a first block
pub rest_shorter : (text block rest : List ℕ) → first_block text ≡ Some (block, rest) → length rest < length text
rest_shorter text block rest found =
    let cut = cut_of text block rest found in
    omega (arith, ap length cut.whole, length-append block (cut.line ++ 10 ∷ rest), length-append cut.line (10 ∷ rest))

-- two bounds on the number of blocks give the same ones
enough : (n m : ℕ) (text : List ℕ) → length text ≤ n → length text ≤ m → blocks_up_to n text ≡ blocks_up_to m text
enough zero zero text a b = refl
enough zero (suc m) [] a b = refl
enough zero (suc m) (x ∷ xs) a b = absurd (omega arith)
enough (suc n) zero [] a b = refl
enough (suc n) zero (x ∷ xs) a b = absurd (omega arith)
enough (suc n) (suc m) text a b = by_found (λ behind. enough n m behind) (first_block text) refl
  where
    by_found : ((behind : List ℕ) → length behind ≤ n → length behind ≤ m → blocks_up_to n behind ≡ blocks_up_to m behind) → (found : Option (List ℕ × List ℕ)) → first_block text ≡ found → and_those (blocks_up_to n) text found ≡ and_those (blocks_up_to m) text found
    by_found earlier None is = refl
    by_found earlier (Some found) is =
        let less = rest_shorter text found.0 found.1 is in
        let same = earlier found.1 (omega arith) (omega arith) in
        ap (λ (blocks : Blocks). record { whole = found.0 ∷ blocks.whole; left = blocks.left }) same

-- the blocks of a text are its first one and those of what is behind it
pub split_off : (text : List ℕ) → blocks_in text ≡ and_those blocks_in text (first_block text)
split_off [] = refl
split_off (x ∷ xs) = by_found (first_block (x ∷ xs)) refl
  where
    by_found : (found : Option (List ℕ × List ℕ)) → first_block (x ∷ xs) ≡ found → and_those (blocks_up_to (length xs)) (x ∷ xs) found ≡ and_those blocks_in (x ∷ xs) found
    by_found None is = refl
    by_found (Some found) is =
        let less : length found.1 < length (x ∷ xs) = rest_shorter (x ∷ xs) found.0 found.1 is in
        let same = enough (length xs) (length found.1) found.1 (omega arith) (omega arith) in
        ap (λ (blocks : Blocks). record { whole = found.0 ∷ blocks.whole; left = blocks.left }) same

-- earlier blocks, and those of what is left of them and of what is more
abbrev pub with_more : Blocks → List ℕ → Blocks
with_more blocks more = record { whole = blocks.whole ++ (blocks_in (blocks.left ++ more)).whole; left = (blocks_in (blocks.left ++ more)).left }

-- the earlier blocks of a text of at most so many bytes stand
earlier_up_to : (n : ℕ) (text more : List ℕ) → length text ≤ n → blocks_in (text ++ more) ≡ with_more (blocks_in text) more
earlier_up_to zero [] more within = refl
earlier_up_to zero (x ∷ xs) more within = absurd (omega arith)
earlier_up_to (suc n) text more within = by_found (λ behind. earlier_up_to n behind more) (first_block text) refl
  where
    by_found : ((behind : List ℕ) → length behind ≤ n → blocks_in (behind ++ more) ≡ with_more (blocks_in behind) more) → (found : Option (List ℕ × List ℕ)) → first_block text ≡ found → blocks_in (text ++ more) ≡ with_more (blocks_in text) more
    by_found earlier None is =
        let none : blocks_in text ≡ record { whole = []; left = text } = split_off text ∙ ap (and_those blocks_in text) is in
        sym (ap (λ (blocks : Blocks). with_more blocks more) none)
    by_found earlier (Some found) is =
        let less = rest_shorter text found.0 found.1 is in
        let first : blocks_in text ≡ record { whole = found.0 ∷ (blocks_in found.1).whole; left = (blocks_in found.1).left } = split_off text ∙ ap (and_those blocks_in text) is in
        let found_more = stands text more found.0 found.1 is in
        let all : blocks_in (text ++ more) ≡ record { whole = found.0 ∷ (blocks_in (found.1 ++ more)).whole; left = (blocks_in (found.1 ++ more)).left } = split_off (text ++ more) ∙ ap (and_those blocks_in (text ++ more)) found_more in
        all ∙ ap (λ (blocks : Blocks). record { whole = found.0 ∷ blocks.whole; left = blocks.left }) (earlier found.1 (omega arith))
        ∙ sym (ap (λ (blocks : Blocks). with_more blocks more) first)

-- the earlier blocks of a text stand if there is more
pub earlier_stand : (text more : List ℕ) → blocks_in (text ++ more) ≡ with_more (blocks_in text) more
earlier_stand text more = earlier_up_to (length text) text more (omega arith)
