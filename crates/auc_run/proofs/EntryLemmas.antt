-- For a load: the entries for which lines stand, and the words that lines of draws tell of them.
use Rattle.std.proofs.Common.{◌≡◌, ℕ, zero, suc, ◌+◌, ◌-◌, ◌<◌, ◌≤◌, ◌⊎◌, Bool, true, false, List, [], ◌∷◌, ◌++◌, length, get_or, All, Any, Some, None, refl, sym, ◌∙◌, ap, append_assoc, append-nil, arith, inl, inr}
use Rattle.std.specs.Prelude.{◌==◌, ◌||◌, if◌then◌else◌}
use Rattle.std.specs.List.{list_any}
use Rattle.std.proofs.lemmas.Bool.{false≢true}
use Rattle.std.proofs.lemmas.Bool.Decides.{nat_tests}
use Rattle.std.proofs.lemmas.List.Elements.{All-nil, All-cons, All-head, All-tail}
use Rattle.std.proofs.lemmas.List.Folds.{list_any-append}
use Rattle.auc_history.specs.History.{covers, covered, last_of, IsMove, IsFound}
use Rattle.auc_history.specs.Split.{Splits, all_entries, times}
use Rattle.auc_history.specs.declared.entry.Entry.{Entry}
use Rattle.auc_history.specs.declared.entry.Entry.TheVariants.{Drawn, Moved, Look}
use Rattle.auc_history.proofs.Facts.{times-append, times-numbers_after}
use Rattle.auc_sqn.specs.Number.{max_seq}
use Rattle.auc_record.specs.Entries.{reports, entries_of_line, entries_of_lines, entries_of_jobs, entries_of_number}
use Rattle.auc_record.specs.Event.{is_exhausted}
use Rattle.auc_record.specs.Lines.{all_lines}
use Rattle.auc_record.specs.declared.record.LineRecord.{LineRecord}
use Rattle.auc_record.specs.declared.record.LineRecord.TheVariants.{Number, Sync, Give, Further, Event}
use Rattle.auc_vector.specs.declared.notes.NumberNote.{NumberNote}
use Rattle.auc_vector.specs.declared.notes.NumberNote.TheVariants as number

-- the entries of lines and of further ones
entries_of_lines-append : (sub : ℕ) (before xs ys : List LineRecord)
    → entries_of_lines sub before (xs ++ ys) ≡ entries_of_lines sub before xs ++ entries_of_lines sub (before ++ xs) ys
entries_of_lines-append sub before [] ys = ap (λ (b : List LineRecord). entries_of_lines sub b ys) (sym (append-nil before))
entries_of_lines-append sub before (x ∷ xs) ys =
    ap (λ (es : List Entry). entries_of_line sub before x ++ es)
    (entries_of_lines-append sub (before ++ x ∷ []) xs ys
    ∙ ap (λ (b : List LineRecord). entries_of_lines sub (before ++ x ∷ []) xs ++ entries_of_lines sub b ys) (append_assoc before (x ∷ []) xs))
    ∙ sym (append_assoc (entries_of_line sub before x) (entries_of_lines sub (before ++ x ∷ []) xs) (entries_of_lines sub (before ++ x ∷ xs) ys))

-- the entries of all jobs are those of all lines
pub all_entries-of_jobs : (sub : ℕ) (before : List LineRecord) (jobs : List (List LineRecord))
    → all_entries (entries_of_jobs sub before jobs) ≡ entries_of_lines sub before (all_lines jobs)
all_entries-of_jobs sub before [] = refl
all_entries-of_jobs sub before (job ∷ jobs) =
    ap (λ (es : List Entry). entries_of_lines sub before job ++ es) (all_entries-of_jobs sub (before ++ job) jobs)
    ∙ sym (entries_of_lines-append sub before job (all_lines jobs))

-- ---- how far entries reach

-- the numbers of an entry are at most a word
abbrev pub IsWithin : ℕ → Entry → Type 0
IsWithin word (Drawn n) = n ≤ word
IsWithin word (Moved from to) = (from ≤ word) × (to ≤ word)
IsWithin word (Look seen) = seen ≤ word

-- what an entry covers is covered
covered_at : (n : ℕ) (entries : List Entry) (k : ℕ) (d : Entry) → k < length entries → times n (covers (get_or entries k d)) ≤ times n (covered entries)
covered_at n [] k d inside = absurd (omega arith)
covered_at n (e ∷ entries) zero d inside = let cut = times-append n (covers e) (covered entries) in omega (arith, cut)
covered_at n (e ∷ entries) (suc k) d inside =
    let cut = times-append n (covers e) (covered entries) in
    let rest = covered_at n entries k d (omega arith) in
    omega (arith, cut, rest)

-- the last number of an entry is one that it covers
last_covered : (top n : ℕ) (e : Entry) → IsMove top e → last_of e ≡ Some n → 1 ≤ times n (covers e)
last_covered top n (Drawn m) move last = let same : m ≡ n = cc in grind (arith, nat_tests)
last_covered top n (Moved from to) move last =
    let same : to ≡ n = cc in
    let count = times-numbers_after n (to - from) from in
    let up = move.0 in
    grind (arith, nat_tests)
last_covered top n (Look seen) move last = absurd (cc)

-- a number that a split covers is at most its closing
covered_within : (top n opening closing : ℕ) (lists : List (List Entry)) → Splits top opening closing lists
    → 1 ≤ times n (covered (all_entries lists)) → n ≤ closing
covered_within top n opening closing lists splits once = let window = splits.once n in grind (arith, nat_tests)

-- the entries of a split reach no further than its closing
pub splits_within : (top opening closing : ℕ) (lists : List (List Entry)) → Splits top opening closing lists → All (IsWithin closing) (all_entries lists)
splits_within top opening closing lists splits k d inside =
    within (get_or (all_entries lists) k d) (splits.moves k d inside) (splits.looks k d inside)
    (λ n last. last_within n k d inside last)
  where
    last_within : (n k : ℕ) (d : Entry) → k < length (all_entries lists) → last_of (get_or (all_entries lists) k d) ≡ Some n → n ≤ closing
    last_within n k d inside last =
        let some = last_covered top n (get_or (all_entries lists) k d) (splits.moves k d inside) last in
        let part = covered_at n (all_entries lists) k d inside in
        covered_within top n opening closing lists splits (omega (arith, some, part))

    found : (seen : ℕ) → (seen ≡ opening) ⊎ Any (λ e. last_of e ≡ Some seen) (all_entries lists) → seen ≤ closing
    found seen (inl same) = let forward = splits.forward in omega (arith, forward)
    found seen (inr (k, e, inside, is, last)) = last_within seen k e inside (ap last_of is ∙ last)

    within : (e : Entry) → IsMove top e → IsFound opening (all_entries lists) e → ((n : ℕ) → last_of e ≡ Some n → n ≤ closing) → IsWithin closing e
    within (Drawn n) move is last = last n refl
    within (Moved from to) move is last = let at = last to refl in let up = move.0 in (omega (arith, at, up), at)
    within (Look seen) move is last = found seen is

-- ---- the words that draws tell

-- a line of a draw: a word that it tells is that of a spent subscriber
abbrev pub IsOfDraw : LineRecord → Type 0
IsOfDraw (Number s (number.Drew n)) = Unit {0}
IsOfDraw (Number s (number.Withheld n stop)) = Unit {0}
IsOfDraw (Number s (number.Exhausted word)) = max_seq ≤ word
IsOfDraw (Sync s note) = ⊥
IsOfDraw (Give s n answer) = ⊥
IsOfDraw (Further said) = ⊥
IsOfDraw (Event r) = ⊥

-- its subscriber
abbrev pub sub_of : LineRecord → ℕ
sub_of (Number s note) = s
sub_of (Sync s note) = s
sub_of (Give s n answer) = s
sub_of (Further said) = 0
sub_of (Event r) = 0

-- a word that it tells is at most another
abbrev pub WordWithin : ℕ → LineRecord → Type 0
WordWithin closing (Number s (number.Drew n)) = Unit {0}
WordWithin closing (Number s (number.Withheld n stop)) = Unit {0}
WordWithin closing (Number s (number.Exhausted word)) = word ≤ closing
WordWithin closing (Sync s note) = Unit {0}
WordWithin closing (Give s n answer) = Unit {0}
WordWithin closing (Further said) = Unit {0}
WordWithin closing (Event r) = Unit {0}

-- the words that lines reported of a subscriber are at most a word
abbrev pub ReportsWithin : ℕ → ℕ → List LineRecord → Type 0
ReportsWithin sub closing before = (word : ℕ) → list_any (reports sub word) before ≡ true → word ≤ closing

-- a mark that is there if no line reported its word
mark_within : (told : Bool) (closing word : ℕ) → (told ≡ true → word ≤ closing) → All (IsWithin closing) (if told then [] else Drawn (word + 1) ∷ []) → word ≤ closing
mark_within true closing word reported within = reported refl
mark_within false closing word reported within = let above = All-head (IsWithin closing) (Drawn (word + 1)) [] within in omega (arith, above)

-- the entries of a number that was asked for, for the subscriber
named_entries : (there : Bool) (sub closing : ℕ) (before : List LineRecord) (note : NumberNote) → there ≡ true
    → All (IsWithin closing) (entries_of_number sub before (if there then Some note else None)) → All (IsWithin closing) (entries_of_number sub before (Some note))
named_entries true sub closing before note is within = within
named_entries false sub closing before note is within = absurd (false≢true is)

-- a line of the subscriber whose entry reaches no further
line_within : (sub closing : ℕ) (before : List LineRecord) (line : LineRecord) → IsOfDraw line → ReportsWithin sub closing before
    → All (IsWithin closing) (entries_of_line sub before line) → sub_of line ≡ sub → WordWithin closing line
line_within sub closing before (Number s (number.Drew n)) is reported within named = tt
line_within sub closing before (Number s (number.Withheld n stop)) is reported within named = tt
line_within sub closing before (Number s (number.Exhausted word)) is reported within named =
    mark_within (list_any (reports sub word) before) closing word (reported word)
    (named_entries (s == sub) sub closing before (number.Exhausted word) (grind (arith, nat_tests)) within)
line_within sub closing before (Sync s note) is reported within named = tt
line_within sub closing before (Give s n answer) is reported within named = tt
line_within sub closing before (Further said) is reported within named = tt
line_within sub closing before (Event r) is reported within named = tt

-- a word that a line tells of the subscriber, if it names the subscriber
told_named : (there : Bool) (word : ℕ) (note : NumberNote) → is_exhausted word (if there then Some note else None) ≡ true → (there ≡ true) × (is_exhausted word (Some note) ≡ true)
told_named true word note told = (refl, told)
told_named false word note told = absurd (false≢true told)

-- the words that lines and one more reported
reports_more : (sub closing : ℕ) (before : List LineRecord) (line : LineRecord) → IsOfDraw line → ReportsWithin sub closing before
    → (sub_of line ≡ sub → WordWithin closing line) → ReportsWithin sub closing (before ++ line ∷ [])
reports_more sub closing before line is reported here word told =
    either (list_any (reports sub word) before) (reports sub word line) (sym (list_any-append (reports sub word) before (line ∷ [])) ∙ told)
    (reported word) (λ reports_it. tells line is here reports_it)
  where
    either : (a b : Bool) → (a || (b || false)) ≡ true → (a ≡ true → word ≤ closing) → (b ≡ true → word ≤ closing) → word ≤ closing
    either true b is first second = first refl
    either false true is first second = second refl
    either false false is first second = absurd (cc)

    noted : (s : ℕ) (note : NumberNote) → WordWithin closing (Number s note) → is_exhausted word (Some note) ≡ true → word ≤ closing
    noted s (number.Drew n) within told = absurd (false≢true told)
    noted s (number.Withheld n stop) within told = absurd (false≢true told)
    noted s (number.Exhausted read) within told = let at : read ≡ word = grind (arith, nat_tests) in omega (arith, at, within)

    tells : (line : LineRecord) → IsOfDraw line → (sub_of line ≡ sub → WordWithin closing line) → reports sub word line ≡ true → word ≤ closing
    tells (Number s note) of_draw here is =
        let (there, told) = told_named (s == sub) word note is in
        let same : s ≡ sub = grind (arith, nat_tests) in
        noted s note (here same) told
    tells (Sync s note) of_draw here is = absurd of_draw
    tells (Give s n answer) of_draw here is = absurd of_draw
    tells (Further said) of_draw here is = absurd of_draw
    tells (Event r) of_draw here is = absurd of_draw

-- the lines of the subscriber tell words that are no higher than where its entries end
pub lines_within : (sub closing : ℕ) (before lines : List LineRecord) → All IsOfDraw lines → ReportsWithin sub closing before
    → All (IsWithin closing) (entries_of_lines sub before lines) → All (λ line. sub_of line ≡ sub → WordWithin closing line) lines
lines_within sub closing before [] of_draw reported within = All-nil (λ line. sub_of line ≡ sub → WordWithin closing line)
lines_within sub closing before (line ∷ lines) of_draw reported within =
    let is = All-head IsOfDraw line lines of_draw in
    let here : sub_of line ≡ sub → WordWithin closing line =
    line_within sub closing before line is reported (All-left (IsWithin closing) (entries_of_line sub before line) (entries_of_lines sub (before ++ line ∷ []) lines) within) in
    All-cons (λ line. sub_of line ≡ sub → WordWithin closing line) line lines here
    (lines_within sub closing (before ++ line ∷ []) lines (All-tail IsOfDraw line lines of_draw) (reports_more sub closing before line is reported here)
    (All-right (IsWithin closing) (entries_of_line sub before line) (entries_of_lines sub (before ++ line ∷ []) lines) within))
  where
    All-left : {X : Type 0} (P : X → Type 0) (xs ys : List X) → All P (xs ++ ys) → All P xs
    All-left P [] ys all = All-nil P
    All-left P (x ∷ xs) ys all = All-cons P x xs (All-head P x (xs ++ ys) all) (All-left P xs ys (All-tail P x (xs ++ ys) all))

    All-right : {X : Type 0} (P : X → Type 0) (xs ys : List X) → All P (xs ++ ys) → All P ys
    All-right P [] ys all = all
    All-right P (x ∷ xs) ys all = All-right P xs ys (All-tail P x (xs ++ ys) all)
