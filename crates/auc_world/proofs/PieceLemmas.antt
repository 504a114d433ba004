-- For Pieces: if the pieces split a history, so does the round.
use Rattle.std.proofs.Common.{◌≡◌, ℕ, ◌+◌, ◌≤◌, ◌==◌, ◌||◌, ◌&&◌, nat_lt, nat_le, Bool, true, false, cond, if◌then◌else◌, List, [], ◌∷◌, ◌++◌, arith, refl, sym, ap, ◌∙◌, inr, ⊎_elim, eq-eqb}
use Rattle.std.proofs.lemmas.Bool.{cases_Bool, eqb-true, false≢true, or_cases, or_from, or_left, or_right}
use Rattle.std.proofs.lemmas.List.Concat.{flat_map-append}
use Rattle.std.proofs.lemmas.List.Folds.{list_any-append}
use Rattle.auc_history.specs.declared.entry.Entry.{Entry}
use Rattle.auc_history.specs.declared.entry.Entry.TheVariants.{Drawn, Moved, Look}
use Rattle.auc_history.specs.History.{covers, covered}
use Rattle.auc_history.specs.Recut.{LeavesOutLooks, EachLeavesOutLooks}
use Rattle.auc_history.specs.Split.{all_entries, times}
use Rattle.auc_history.proofs.Facts.{leaves_out-append, leaves_out_none, split_without_looks_is_a_split, times-append, times-cons}
use Rattle.auc_record.specs.declared.record.LineRecord.{LineRecord}
use Rattle.std.specs.Prelude.{Option, Some, None}
use Rattle.auc_vector.specs.declared.notes.NumberNote.{NumberNote}
use Rattle.auc_vector.specs.declared.notes.NumberNote.TheVariants as number
use Rattle.auc_vector.specs.declared.notes.ResyncNote.{ResyncNote}
use Rattle.auc_vector.specs.declared.notes.ResyncNote.TheVariants as resync
use Rattle.auc_record.specs.Event.{is_exhausted}
use Rattle.auc_record.specs.Entries.{reports, is_reported, entries_of_number, entries_of_resync, entries_of_line, entries_of_lines, entries_of_jobs}
use Rattle.auc_record.specs.Lines.{number_by, resync_by}
use Rattle.auc_world.specs.Pieces.{Piece, lines_of_pieces, entries_of_pieces, ReportsAreEarlier, PiecesSplitTheRound}

-- ---- lines after a worker's earlier lines, and after those of all earlier jobs

-- the reports of a worker's earlier lines are among those of all earlier lines; of the words that the lines now
-- report, both report the same
record IsAmong (sub : ℕ) (own all lines : List LineRecord) : Type 0 where
  pub more : (word : ℕ) → is_reported sub word own ≡ true → is_reported sub word all ≡ true
  pub apart : (word : ℕ) → is_reported sub word lines ≡ true → is_reported sub word all ≡ true → is_reported sub word own ≡ true

-- what is reported after one more line
reported_after : (sub word : ℕ) (before : List LineRecord) (line : LineRecord)
    → is_reported sub word (before ++ line ∷ []) ≡ (is_reported sub word before || (reports sub word line || false))
reported_after sub word before line = list_any-append (reports sub word) before (line ∷ [])

-- the same after one more line
among_next : (sub : ℕ) (own all : List LineRecord) (line : LineRecord) (lines : List LineRecord) → IsAmong sub own all (line ∷ lines)
    → IsAmong sub (own ++ line ∷ []) (all ++ line ∷ []) lines
among_next sub own all line lines among = record {
  more = λ w is. reported_after sub w all line ∙ ⊎_elim
      (λ (was : is_reported sub w own ≡ true). or_left (is_reported sub w all) (reports sub w line || false) (among.more w was))
      (λ (now : (reports sub w line || false) ≡ true). or_right (is_reported sub w all) (reports sub w line || false) now)
      (or_cases (is_reported sub w own) (reports sub w line || false) (sym (reported_after sub w own line) ∙ is));
  apart = λ w says is. reported_after sub w own line ∙ ⊎_elim
      (λ (was : is_reported sub w all ≡ true). or_left (is_reported sub w own) (reports sub w line || false) (among.apart w (or_right (reports sub w line) (is_reported sub w lines) says) was))
      (λ (now : (reports sub w line || false) ≡ true). or_right (is_reported sub w own) (reports sub w line || false) now)
      (or_cases (is_reported sub w all) (reports sub w line || false) (sym (reported_after sub w all line) ∙ is));
}

-- a mark stays, since both report its word or neither does
mark_stays : (own all : Bool) (es : List Entry) → (own ≡ true → all ≡ true) → (all ≡ true → own ≡ true)
    → LeavesOutLooks (if own then [] else es) (if all then [] else es)
mark_stays true true es more apart = refl
mark_stays true false es more apart = absurd (false≢true (more refl))
mark_stays false true es more apart = absurd (false≢true (apart refl))
mark_stays false false es more apart = leaves_out_none es

-- a look is left out if all earlier lines report its word and the worker's don't
look_left_out : (own all : Bool) (seen : ℕ) → (own ≡ true → all ≡ true)
    → LeavesOutLooks (if own then [] else Look seen ∷ []) (if all then [] else Look seen ∷ [])
look_left_out true true seen more = refl
look_left_out true false seen more = absurd (false≢true (more refl))
look_left_out false true seen more = inr (tt, refl)
look_left_out false false seen more = leaves_out_none (Look seen ∷ [])

-- the entries of a resynchronisation, and of a number that was asked for
resync_leaves_out : (sub : ℕ) (own all : List LineRecord) (note : Option ResyncNote) → ((word : ℕ) → is_reported sub word own ≡ true → is_reported sub word all ≡ true)
    → LeavesOutLooks (entries_of_resync sub own note) (entries_of_resync sub all note)
resync_leaves_out sub own all None more = refl
resync_leaves_out sub own all (Some (resync.Moved from to)) more = leaves_out_none (Moved from to ∷ [])
resync_leaves_out sub own all (Some (resync.InRange seen seq)) more = look_left_out (is_reported sub seen own) (is_reported sub seen all) seen (more seen)
resync_leaves_out sub own all (Some (resync.Beyond seen seq)) more = look_left_out (is_reported sub seen own) (is_reported sub seen all) seen (more seen)
resync_leaves_out sub own all (Some resync.BadAuts) more = refl

number_leaves_out : (sub : ℕ) (own all : List LineRecord) (note : Option NumberNote) → ((word : ℕ) → is_reported sub word own ≡ true → is_reported sub word all ≡ true)
    → ((word : ℕ) → is_exhausted word note ≡ true → is_reported sub word all ≡ true → is_reported sub word own ≡ true)
    → LeavesOutLooks (entries_of_number sub own note) (entries_of_number sub all note)
number_leaves_out sub own all None more apart = refl
number_leaves_out sub own all (Some (number.Drew n)) more apart = leaves_out_none (Drawn n ∷ [])
number_leaves_out sub own all (Some (number.Exhausted word)) more apart =
    mark_stays (is_reported sub word own) (is_reported sub word all) (Drawn (word + 1) ∷ []) (more word) (apart word (eq-eqb word word refl))
number_leaves_out sub own all (Some (number.Withheld n stop)) more apart = leaves_out_none (Drawn n ∷ [])

-- the entries of a line
line_leaves_out : (sub : ℕ) (own all : List LineRecord) (line : LineRecord) (lines : List LineRecord) → IsAmong sub own all (line ∷ lines)
    → LeavesOutLooks (entries_of_line sub own line) (entries_of_line sub all line)
line_leaves_out sub own all line lines among =
    leaves_out-append (entries_of_resync sub own (resync_by sub line)) (entries_of_resync sub all (resync_by sub line))
    (entries_of_number sub own (number_by sub line)) (entries_of_number sub all (number_by sub line))
    (resync_leaves_out sub own all (resync_by sub line) among.more)
    (number_leaves_out sub own all (number_by sub line) among.more
    (λ word says is. among.apart word (or_left (reports sub word line) (is_reported sub word lines) says) is))

-- the entries of some lines
lines_leave_out : (sub : ℕ) (own all lines : List LineRecord) → IsAmong sub own all lines → LeavesOutLooks (entries_of_lines sub own lines) (entries_of_lines sub all lines)
lines_leave_out sub own all [] among = refl
lines_leave_out sub own all (line ∷ lines) among =
    leaves_out-append (entries_of_line sub own line) (entries_of_line sub all line) (entries_of_lines sub (own ++ line ∷ []) lines) (entries_of_lines sub (all ++ line ∷ []) lines)
    (line_leaves_out sub own all line lines among) (lines_leave_out sub (own ++ line ∷ []) (all ++ line ∷ []) lines (among_next sub own all line lines among))

-- ---- one mark for each word

-- how often the mark after a word stands in some entries
abbrev marks : ℕ → List Entry → ℕ
marks word es = times (word + 1) (covered es)

-- in two lists of entries, one after the other
marks-append : (word : ℕ) (xs ys : List Entry) → marks word (xs ++ ys) ≡ marks word xs + marks word ys
marks-append word xs ys = ap (times (word + 1)) (flat_map-append covers xs ys) ∙ times-append (word + 1) (covered xs) (covered ys)

-- the mark itself stands once
mark_once : (word : ℕ) → marks word (Drawn (word + 1) ∷ []) ≡ 1
mark_once word = times-cons (word + 1) (word + 1) [] ∙ by (word + 1 == word + 1) (eq-eqb (word + 1) (word + 1) refl)
  where
    by : (b : Bool) → b ≡ true → ◌≡◌ {A = ℕ} (cond b 1 0 + 0) 1
    by true is = refl
    by false is = absurd (false≢true is)

-- a number that was asked for stands for the mark after the word that is reported first
number_marks : (sub word : ℕ) (own : List LineRecord) (note : Option NumberNote) → is_reported sub word own ≡ false → is_exhausted word note ≡ true
    → 1 ≤ marks word (entries_of_number sub own note)
number_marks sub word own None fresh says = absurd (false≢true says)
number_marks sub word own (Some (number.Drew n)) fresh says = absurd (false≢true says)
number_marks sub word own (Some (number.Exhausted read)) fresh says =
    let here : entries_of_number sub own (Some (number.Exhausted read)) ≡ Drawn (word + 1) ∷ [] =
    ap (λ k. if is_reported sub k own then [] else Drawn (k + 1) ∷ []) (eqb-true read word says) ∙ ap (λ b. if b then [] else Drawn (word + 1) ∷ []) fresh in
    omega (arith, ap (marks word) here, mark_once word)
number_marks sub word own (Some (number.Withheld n stop)) fresh says = absurd (false≢true says)

-- the first line that reports a word stands for the mark after it
line_marks : (sub word : ℕ) (own : List LineRecord) (line : LineRecord) → is_reported sub word own ≡ false → reports sub word line ≡ true → 1 ≤ marks word (entries_of_line sub own line)
line_marks sub word own line fresh says =
    let mark = number_marks sub word own (number_by sub line) fresh says in
    omega (arith, marks-append word (entries_of_resync sub own (resync_by sub line)) (entries_of_number sub own (number_by sub line)), mark)

-- lines that report a word first stand for the mark after it
lines_mark : (sub word : ℕ) (own lines : List LineRecord) → is_reported sub word own ≡ false → is_reported sub word lines ≡ true → 1 ≤ marks word (entries_of_lines sub own lines)
lines_mark sub word own [] fresh says = absurd (false≢true says)
lines_mark sub word own (line ∷ lines) fresh says =
    by (reports sub word line) refl (λ still. lines_mark sub word (own ++ line ∷ []) lines (reported_after sub word own line ∙ still))
  where
    later : (b : Bool) → b ≡ false → (b || is_reported sub word lines) ≡ true → is_reported sub word lines ≡ true
    later true is all = absurd (false≢true (sym is))
    later false is all = all

    by : (b : Bool) → reports sub word line ≡ b
        → ((is_reported sub word own || (reports sub word line || false)) ≡ false → is_reported sub word lines ≡ true → 1 ≤ marks word (entries_of_lines sub (own ++ line ∷ []) lines))
        → 1 ≤ marks word (entries_of_lines sub own (line ∷ lines))
    by true here rest = omega (arith, marks-append word (entries_of_line sub own line) (entries_of_lines sub (own ++ line ∷ []) lines), line_marks sub word own line fresh here)
    by false quiet rest =
        let more = rest (or_from (is_reported sub word own) (reports sub word line || false) fresh (or_from (reports sub word line) false quiet refl)) (later (reports sub word line) quiet says) in
        omega (arith, marks-append word (entries_of_line sub own line) (entries_of_lines sub (own ++ line ∷ []) lines), more)

-- ---- pieces

-- the entries of the jobs are those of the pieces without some of the looks; `made` counts the marks that the lines of
-- the earlier jobs stand for
pieces_leave_out : (sub : ℕ) (all : List LineRecord) (made : ℕ → ℕ) (pieces : List Piece) → ReportsAreEarlier sub all pieces
    → ((word : ℕ) → is_reported sub word all ≡ true → 1 ≤ made word) → ((word : ℕ) → made word + marks word (all_entries (entries_of_pieces sub pieces)) ≤ 1)
    → EachLeavesOutLooks (entries_of_pieces sub pieces) (entries_of_jobs sub all (lines_of_pieces pieces))
pieces_leave_out sub all made [] earlier told once = refl
pieces_leave_out sub all made (piece ∷ pieces) (more, earlier) told once =
    let here = entries_of_lines sub piece.earlier piece.lines in
    let rest = all_entries (entries_of_pieces sub pieces) in
    let among : IsAmong sub piece.earlier all piece.lines = record {
      more = more;
      apart = λ w says is. ⊎_elim
          (λ (yes : is_reported sub w piece.earlier ≡ true). yes)
          (λ (fresh : is_reported sub w piece.earlier ≡ false). absurd (let mark = lines_mark sub w piece.earlier piece.lines fresh says in omega (arith, told w is, once w, marks-append w here rest, mark)))
          (cases_Bool (is_reported sub w piece.earlier));
    } in (
      entries_of_lines sub all piece.lines,
      entries_of_jobs sub (all ++ piece.lines) (lines_of_pieces pieces),
      refl,
      lines_leave_out sub piece.earlier all piece.lines among,
      pieces_leave_out sub (all ++ piece.lines) (λ w. made w + marks w here) pieces earlier
          (λ w is. ⊎_elim
          (λ (was : is_reported sub w all ≡ true). omega (arith, told w was))
          (λ (now : is_reported sub w piece.lines ≡ true). ⊎_elim
          (λ (yes : is_reported sub w piece.earlier ≡ true). omega (arith, told w (more w yes)))
          (λ (fresh : is_reported sub w piece.earlier ≡ false). omega (arith, lines_mark sub w piece.earlier piece.lines fresh now))
          (cases_Bool (is_reported sub w piece.earlier)))
          (or_cases (is_reported sub w all) (is_reported sub w piece.lines) (sym (list_any-append (reports sub w) all piece.lines) ∙ is)))
          (λ w. omega (arith, once w, marks-append w here rest)),
    )

-- a number is covered at most once
at_most_one : (b : Bool) → (if b then 1 else 0) ≤ 1
at_most_one true = omega arith
at_most_one false = omega arith

-- if the pieces split a history, so does the round: a word that two workers reported would have two marks
pub pieces_split_the_round : PiecesSplitTheRound
pieces_split_the_round top opening closing sub pieces earlier splits =
    split_without_looks_is_a_split top opening closing (entries_of_pieces sub pieces) (entries_of_jobs sub [] (lines_of_pieces pieces)) splits
    (pieces_leave_out sub [] (λ w. 0) pieces earlier (λ w is. absurd (false≢true is))
    (λ w. let one = splits.once (w + 1) in omega (arith, one, at_most_one (nat_lt opening (w + 1) && nat_le (w + 1) closing))))
