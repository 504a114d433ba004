-- What the reading of a scenario says of its lines, for the laws.
use Rattle.std.proofs.Common.{ℕ, ◌≡◌, ◌≢◌, ◌<◌, ◌+◌, ◌-◌, List, ◌++◌, ◌∷◌, [], length, take, drop, get_or, Result, Ok, Err, Bool, true, false, nat_eq, suc, arith, refl, sym, ◌∙◌, ap, append-nil, append_assoc, length-append, take-append-drop}
use Rattle.std.specs.List.{All, flat_map, join_with_byte, onto_first, slice_split}
use Rattle.std.proofs.Math.Seq.{get_or-append_seam}
use Rattle.std.proofs.lemmas.Bool.Decides.{nat_tests}
use Rattle.std.proofs.lemmas.List.{drop_all, drop_more, take_at}
use Rattle.std.proofs.lemmas.List.Elements.{All-cons, All-head, All-nil, All-push, All-tail, All-take}
use Rattle.std.proofs.lemmas.List.Splits.{join_with_byte-slice_split, slice_split-cons_no, slice_split-cons_yes, slice_split_at, slice_split_none}
use Rattle.auc_subs.specs.declared.row.Row.{Row}
use Rattle.auc_script.specs.declared.script.Script.{Script}
use Rattle.auc_script.specs.declared.refusal.ScriptRefusal.{ScriptRefusal}
use Rattle.auc_script.specs.declared.refusal.ScriptRefusal.TheVariants as refusal
use Rattle.auc_reading.specs.declared.refusal.ScriptWhy.{ScriptWhy}
use Rattle.auc_text.specs.Text.{ended, lines_of, without_cr}
use Rattle.auc_script.specs.Scenario.{Scenario, after_line}
use Rattle.auc_script.specs.Reading.{AreRight, after, beginning, read_lines, script_from, script_in}
use Rattle.auc_script.specs.Law.{EachRefusedLineIsTheFirstWrong, EachRightTextIsReadWhole, EachTextThatIsReadIsRight, Ended, IsEnded, IsFirstWrong, HasNoLf, all_lines, ended_text, whole_text}
use Rattle.auc_script.proofs.ReadingLemmas.{read_on}
use Rattle.auc_text.proofs.Facts.{has_part, line_first, line_last}

-- a line has no byte at which a text is cut
no_mark : (line : List ℕ) → HasNoLf line → All (λ byte. nat_eq byte 10 ≡ false) line
no_mark line none k d within = let other = none k d within in grind (arith, nat_tests)

-- the place of the last byte
last_place : (line : List ℕ) (byte : ℕ) → length (line ++ byte ∷ []) - 1 ≡ length line
last_place line byte = omega (arith, length-append line (byte ∷ []))

-- the CR of a CRLF is cut off
cr_cut : (line : List ℕ) → without_cr (line ++ 13 ∷ []) ≡ line
cr_cut line = rw (last_place line 13, get_or-append_seam line 13 [] 0) (take_at line (13 ∷ []) (length line) refl)

-- another byte stays
other_kept : (line : List ℕ) → get_or line (length line - 1) 0 ≢ 13 → without_cr line ≡ line
other_kept line other =
    let test : nat_eq (get_or line (length line - 1) 0) 13 ≡ false = differs (get_or line (length line - 1) 0) other in
    rw test refl
  where
    differs : (byte : ℕ) → byte ≢ 13 → nat_eq byte 13 ≡ false
    differs byte other = grind (arith, nat_tests)

-- the first line of a text that goes on behind an LF
cut_line : (line rest : List ℕ) → HasNoLf line → lines_of (line ++ 10 ∷ rest) ≡ without_cr line ∷ lines_of rest
cut_line line rest is = line_first (line ++ 10 ∷ rest) line rest (slice_split_at (λ byte. nat_eq byte 10) line 10 rest (no_mark line is) refl)

-- the first line of a text that goes on behind its end
line_ended : (line : List ℕ) (crlf : Bool) (rest : List ℕ) → IsEnded (record { line = line; crlf = crlf }) → lines_of (ended_text (record { line = line; crlf = crlf }) ++ rest) ≡ line ∷ lines_of rest
line_ended line true rest is =
    let text : (line ++ 13 ∷ 10 ∷ []) ++ rest ≡ (line ++ 13 ∷ []) ++ 10 ∷ rest = append_assoc line (13 ∷ 10 ∷ []) rest ∙ sym (append_assoc line (13 ∷ []) (10 ∷ rest)) in
    let none : HasNoLf (line ++ 13 ∷ []) = All-push (λ byte. byte ≢ 10) line 13 is.line (λ same. cc) in
    ap lines_of text ∙ cut_line (line ++ 13 ∷ []) rest none ∙ ap (λ first. first ∷ lines_of rest) (cr_cut line)
line_ended line false rest is =
    ap lines_of (append_assoc line (10 ∷ []) rest) ∙ cut_line line rest is.line ∙ ap (λ first. first ∷ lines_of rest) (other_kept line (is.cr refl))

-- the lines of a text of lines
lines_of_text : (lines : List Ended) (last : List ℕ) → All IsEnded lines → HasNoLf last → lines_of (whole_text lines last) ≡ all_lines lines last
lines_of_text [] last all rest = line_last last (slice_split_none (λ byte. nat_eq byte 10) last (no_mark last rest))
lines_of_text (e ∷ more) last all rest =
    ap lines_of (append_assoc (ended_text e) (flat_map ended_text more) last)
    ∙ line_ended e.line e.crlf (whole_text more last) (All-head IsEnded e more all)
    ∙ ap (λ lines. e.line ∷ lines) (lines_of_text more last (All-tail IsEnded e more all) rest)

-- right lines are read
read_all : (number : ℕ) (s : Scenario) (lines : List (List ℕ)) (t : Scenario) → AreRight s lines t → read_lines number s lines ≡ Ok t
read_all number s lines t right = let reads = read_on number s lines t [] right in rw (append-nil lines) at reads

-- lines that are each right are read whole
pub right_text_is_read_whole : EachRightTextIsReadWhole
right_text_is_read_whole rows lines last s all rest right =
    let reads : read_lines 1 (beginning rows) (lines_of (whole_text lines last)) ≡ Ok s =
    rw (lines_of_text lines last all rest) (read_all 1 (beginning rows) (all_lines lines last) s right)
    in rw reads refl

-- the parts of a text have no LF
parts_are_lines : (text : List ℕ) → All HasNoLf (slice_split (λ byte. nat_eq byte 10) text)
parts_are_lines [] = All-cons HasNoLf [] [] (All-nil (λ byte. byte ≢ 10)) (All-nil HasNoLf)
parts_are_lines (x ∷ xs) = which (nat_eq x 10) refl (parts_are_lines xs)
  where
    onto : (parts : List (List ℕ)) → x ≢ 10 → All HasNoLf parts → All HasNoLf (onto_first x parts)
    onto [] other all = All-cons HasNoLf (x ∷ []) [] (All-cons (λ byte. byte ≢ 10) x [] other (All-nil (λ byte. byte ≢ 10))) (All-nil HasNoLf)
    onto (part ∷ parts) other all = All-cons HasNoLf (x ∷ part) parts (All-cons (λ byte. byte ≢ 10) x part other (All-head HasNoLf part parts all)) (All-tail HasNoLf part parts all)

    which : (b : Bool) → nat_eq x 10 ≡ b → All HasNoLf (slice_split (λ byte. nat_eq byte 10) xs) → All HasNoLf (slice_split (λ byte. nat_eq byte 10) (x ∷ xs))
    which true is others = rw (slice_split-cons_yes (λ byte. nat_eq byte 10) x xs is) (All-cons HasNoLf [] (slice_split (λ byte. nat_eq byte 10) xs) (All-nil (λ byte. byte ≢ 10)) others)
    which false is others = rw (slice_split-cons_no (λ byte. nat_eq byte 10) x xs is) (onto (slice_split (λ byte. nat_eq byte 10) xs) (λ same. grind (arith, nat_tests)) others)

-- a part of a text as a line with its end
record AsEnded (part : List ℕ) : Type 0 where
  e : Ended
  is : IsEnded e
  text_is : ended_text e ≡ part ++ 10 ∷ []
  line_is : e.line ≡ without_cr part

-- a text that ends with a byte
ends_with : (part : List ℕ) (byte : ℕ) → get_or part (length part - 1) 0 ≡ suc byte → part ≡ take (length part - 1) part ++ suc byte ∷ []
ends_with [] byte last = absurd cc
ends_with (x ∷ xs) byte last =
    let rest = drop_more (x ∷ xs) (length (x ∷ xs) - 1) 0 (omega arith) in
    let none : drop (length (x ∷ xs) - 1 + 1) (x ∷ xs) ≡ [] = drop_all (length (x ∷ xs) - 1 + 1) (x ∷ xs) (omega arith) in
    sym (take-append-drop (length (x ∷ xs) - 1) (x ∷ xs)) ∙ ap (λ behind. take (length (x ∷ xs) - 1) (x ∷ xs) ++ behind) (rw (last, none) at rest)

as_ended : (part : List ℕ) → HasNoLf part → AsEnded part
as_ended part is = which (nat_eq (get_or part (length part - 1) 0) 13) refl
  where
    which : (b : Bool) → nat_eq (get_or part (length part - 1) 0) 13 ≡ b → AsEnded part
    which true test =
        let last : get_or part (length part - 1) 0 ≡ 13 = grind (arith, nat_tests) in
        let whole : part ≡ take (length part - 1) part ++ 13 ∷ [] = ends_with part 12 last in
        record {
          e = record { line = take (length part - 1) part; crlf = true };
          is = record { line = All-take (λ byte. byte ≢ 10) (length part - 1) part is; cr = λ same. absurd cc };
          text_is = sym (append_assoc (take (length part - 1) part) (13 ∷ []) (10 ∷ [])) ∙ ap (λ text. text ++ 10 ∷ []) (sym whole);
          line_is = rw test refl;
        }
    which false test = record {
      e = record { line = part; crlf = false };
      is = record { line = is; cr = λ same last. grind (arith, nat_tests) };
      text_is = refl;
      line_is = rw test refl;
    }

-- the parts of a text as lines with their ends, and what stands behind them
record AsText (parts : List (List ℕ)) : Type 0 where
  lines : List Ended
  last : List ℕ
  all : All IsEnded lines
  rest : HasNoLf last
  text_is : join_with_byte 10 parts ≡ whole_text lines last
  lines_are : ended parts ≡ all_lines lines last

as_text : (parts : List (List ℕ)) → All HasNoLf parts → 0 < length parts → AsText parts
as_text [] all some = absurd (omega arith)
as_text (last ∷ []) all some = record { lines = []; last = last; all = All-nil IsEnded; rest = All-head HasNoLf last [] all; text_is = refl; lines_are = refl }
as_text (part ∷ next ∷ more) all some =
    let first = as_ended part (All-head HasNoLf part (next ∷ more) all) in
    let others = as_text (next ∷ more) (All-tail HasNoLf part (next ∷ more) all) (omega arith) in
    record {
      lines = first.e ∷ others.lines;
      last = others.last;
      all = All-cons IsEnded first.e others.lines first.is others.all;
      rest = others.rest;
      text_is = ap (λ text. part ++ 10 ∷ text) others.text_is
          ∙ sym (append_assoc part (10 ∷ []) (whole_text others.lines others.last))
          ∙ ap (λ text. text ++ whole_text others.lines others.last) (sym first.text_is)
          ∙ sym (append_assoc (ended_text first.e) (flat_map ended_text others.lines) others.last);
      lines_are = rw (others.lines_are, first.line_is) refl;
    }

-- lines that are read are right
are_read : (number : ℕ) (s : Scenario) (lines : List (List ℕ)) (t : Scenario) → read_lines number s lines ≡ Ok t → AreRight s lines t
are_read number s [] t reads = cc
are_read number s (line ∷ more) t reads = from_first (after_line s line) refl reads (λ u rest. are_read (number + 1) u more t rest)
  where
    from_first : (o : Result Scenario ScriptWhy) → after_line s line ≡ o → after number o (λ u. read_lines (number + 1) u more) ≡ Ok t
        → ((u : Scenario) → read_lines (number + 1) u more ≡ Ok t → AreRight u more t) → AreRight s (line ∷ more) t
    from_first (Err why) is reads others = absurd cc
    from_first (Ok u) is reads others = (u, is, others u reads)

-- a scenario as its script and its subscribers
abbrev read_of : Scenario → Script × List Row
read_of s = (script_from s, s.rows)

-- what is read as a scenario, where it gives a script
scenario_of : (read : Result Scenario ScriptRefusal) (script : Script) (rows : List Row) → script_in read ≡ Ok (script, rows)
    → (s : Scenario) × (read ≡ Ok s) × (script ≡ script_from s) × (rows ≡ s.rows)
scenario_of (Ok s) script rows is =
    let pair : read_of s ≡ (script, rows) = cc in
    (s, refl, sym (ap (λ (read : Script × List Row). read.0) pair), sym (ap (λ (read : Script × List Row). read.1) pair))
scenario_of (Err refused) script rows is = absurd cc

-- a text that is read consists of right lines
pub text_that_is_read_is_right : EachTextThatIsReadIsRight
text_that_is_read_is_right rows text script after is =
    let read = scenario_of (read_lines 1 (beginning rows) (lines_of text)) script after is in
    let parts = as_text (slice_split (λ byte. nat_eq byte 10) text) (parts_are_lines text) (has_part (λ byte. nat_eq byte 10) text) in (
      read.0,
      record {
        lines = parts.lines;
        last = parts.last;
        ended = parts.all;
        rest = parts.rest;
        text_is = sym (join_with_byte-slice_split 10 text) ∙ parts.text_is;
        right = rw (← parts.lines_are) (are_read 1 (beginning rows) (lines_of text) read.0 read.1);
      },
      read.2,
      read.3,
    )

-- a refused line is the first wrong one
first_wrong : (first : ℕ) (s : Scenario) (lines : List (List ℕ)) (number : ℕ) (why : ScriptWhy) → read_lines first s lines ≡ Err (refusal.Line number why) → IsFirstWrong s lines first number why
first_wrong first s [] number why reads = absurd cc
first_wrong first s (line ∷ more) number why reads =
    from_first (after_line s line) refl reads (λ u rest. first_wrong (first + 1) u more number why rest)
  where
    from_first : (o : Result Scenario ScriptWhy) → after_line s line ≡ o → after first o (λ u. read_lines (first + 1) u more) ≡ Err (refusal.Line number why)
        → ((u : Scenario) → read_lines (first + 1) u more ≡ Err (refusal.Line number why) → IsFirstWrong u more (first + 1) number why)
        → IsFirstWrong s (line ∷ more) first number why
    from_first (Err cause) is read others =
        let place : first ≡ number = cc in
        let same : cause ≡ why = cc in
        record { front = []; line = line; behind = more; before = s; split = refl; place = omega (arith, place); right = refl; wrong = rw (← same) is }
    from_first (Ok u) is read others =
        let rest = others u read in
        record { front = line ∷ rest.front; line = rest.line; behind = rest.behind; before = rest.before; split = ap (λ lines. line ∷ lines) rest.split; place = omega (arith, rest.place); right = (u, is, rest.right); wrong = rest.wrong }

-- what is refused as a scenario, where it gives a refusal
refused_of : (read : Result Scenario ScriptRefusal) (refused : ScriptRefusal) → script_in read ≡ Err refused → read ≡ Err refused
refused_of (Ok s) refused is = absurd cc
refused_of (Err refused') refused is = cc

pub refused_line_is_the_first_wrong : EachRefusedLineIsTheFirstWrong
refused_line_is_the_first_wrong rows text number why is =
    first_wrong 1 (beginning rows) (lines_of text) number why (refused_of (read_lines 1 (beginning rows) (lines_of text)) (refusal.Line number why) is)
