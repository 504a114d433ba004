-- For a load: the numbers at which its round closes the subscribers.
use Rattle.std.proofs.Common.{◌≡◌, ℕ, zero, suc, ◌+◌, ◌*◌, ◌%◌, ◌<◌, ◌≤◌, Bool, true, false, cond, List, [], ◌∷◌, ◌++◌, length, get_or, map, All, AllPairs, Option, Some, None, Result, Ok, Err, IfOk, refl, sym, ◌∙◌, ap, subst, append-nil, arith}
use Rattle.std.specs.Prelude.{◌==◌, if◌then◌else◌, count_by, flat_map}
use Rattle.std.specs.List.{range_with_len}
use Rattle.std.proofs.lemmas.Bool.Decides.{nat_tests}
use Rattle.std.proofs.lemmas.Grind.{flat_map-append}
use Rattle.std.proofs.lemmas.List.{length-append, length-map}
use Rattle.std.proofs.lemmas.List.Concat.{length-flat_map}
use Rattle.std.proofs.lemmas.List.Elements.{All-nil, All-cons, All-head, All-tail, All-append, All-same, All-weaker}
use Rattle.std.proofs.lemmas.List.FromFn.{get_or-map-range_with_len, length-map-range_with_len}
use Rattle.std.proofs.lemmas.List.Sums.{get_or-le-sum_by, sum_by-append, sum_by-cons}
use Rattle.std.proofs.lemmas.Simd.{map-map}
use Rattle.auc_memory.specs.declared.stop.Stop.{Stop}
use Rattle.auc_history.specs.History.{drawn, drawn_by, skipped, skipped_by}
use Rattle.auc_history.specs.Split.{all_entries}
use Rattle.auc_history.specs.declared.entry.Entry.TheVariants.{Drawn}
use Rattle.auc_history.proofs.Facts.{split_counts_its_numbers}
use Rattle.auc_jobs.specs.Round.{ServesRound}
use Rattle.auc_jobs.specs.Serving.{AreAllKnown, AreKnown, IsKnownLine}
use Rattle.auc_jobs.specs.State.{Standing}
use Rattle.auc_journal.specs.Journal.{JournalState}
use Rattle.auc_lines.specs.Part.{AreApart, holds}
use Rattle.auc_lines.specs.declared.part.Line.{Line}
use Rattle.auc_lines.specs.declared.part.Line.TheVariants.{Draw}
use Rattle.auc_load.specs.Input.{job_at, load_jobs, load_key, load_rows, row_at, vectors_of_a_job}
use Rattle.auc_load.specs.Summary.{closing_with, drawn_for, load_closings}
use Rattle.auc_load.specs.Words.{IsLoad}
use Rattle.auc_load.specs.declared.words.LoadWords.{LoadWords}
use Rattle.auc_sqn.specs.Number.{max_seq, top_of}
use Rattle.auc_sqn.proofs.Facts.{top_of-5}
use Rattle.auc_subs.specs.Subscriber.{top_at}
use Rattle.auc_subs.specs.declared.row.Row.{Row}
use Rattle.auc_record.specs.Entries.{is_reported, entries_of_line, entries_of_lines, entries_of_jobs, entries_of_number}
use Rattle.auc_record.specs.Event.{number_released, number_withheld}
use Rattle.auc_record.specs.Draws.{DrawGives}
use Rattle.auc_world.specs.Given.{JobsGive}
use Rattle.auc_record.specs.Lines.{all_lines, number_by, numbers_of, released_by, withheld_by, withheld_of}
use Rattle.auc_world.specs.Net.{Net}
use Rattle.auc_world.specs.Round.{IsLawfulRound, closing_of, closings_from}
use Rattle.auc_subs.specs.Setting.{Setting}
use Rattle.auc_world.specs.Start.{Kept}
use Rattle.auc_record.specs.declared.record.Closing.{Closing}
use Rattle.auc_record.specs.declared.record.LineRecord.{LineRecord}
use Rattle.auc_record.specs.declared.record.LineRecord.TheVariants.{Number, Sync, Give, Further, Event}
use Rattle.auc_vector.specs.declared.notes.NumberNote.{NumberNote}
use Rattle.auc_vector.specs.declared.notes.NumberNote.TheVariants as number
use Rattle.auc_record.specs.declared.record.RoundRecord.{RoundRecord}
use Rattle.auc_run.proofs.EntryLemmas.{IsOfDraw, IsWithin, WordWithin, all_entries-of_jobs, splits_within, lines_within, sub_of}

-- ---- what jobs give that draw

no_lines : (lines : List LineRecord) → lines ≡ [] → All IsOfDraw lines
no_lines lines none = All-same IsOfDraw lines [] none (All-nil IsOfDraw)

draw_lines : (set : Setting) (sub count : ℕ) (lines : List LineRecord) → top_at set.rows sub ≡ max_seq → DrawGives set sub count lines → All IsOfDraw lines
draw_lines set sub zero lines top gives = no_lines lines gives
draw_lines set sub (suc count) [] top gives = absurd gives
draw_lines set sub (suc count) (Number s (number.Drew n) ∷ lines) top (same, is, more) = All-cons IsOfDraw (Number s (number.Drew n)) lines tt (draw_lines set sub count lines top more)
draw_lines set sub (suc count) (Number s (number.Withheld n stop) ∷ lines) top (same, first, last, none) = All-cons IsOfDraw (Number s (number.Withheld n stop)) lines tt (no_lines lines none)
draw_lines set sub (suc count) (Number s (number.Exhausted word) ∷ lines) top (same, spent, none) =
    All-cons IsOfDraw (Number s (number.Exhausted word)) lines (subst (λ (n : ℕ). n ≤ word) top spent) (no_lines lines none)
draw_lines set sub (suc count) (Sync s note ∷ lines) top gives = absurd gives
draw_lines set sub (suc count) (Give s n answer ∷ lines) top gives = absurd gives
draw_lines set sub (suc count) (Further said ∷ lines) top gives = absurd gives
draw_lines set sub (suc count) (Event r ∷ lines) top gives = absurd gives

-- its lines are of its subscriber
draw_named : (set : Setting) (total sub count : ℕ) (lines : List LineRecord) → sub < total → DrawGives set sub count lines
    → All (λ line. sub_of line < total) lines
draw_named set total sub zero lines inside gives = All-same (λ line. sub_of line < total) lines [] gives (All-nil (λ line. sub_of line < total))
draw_named set total sub (suc count) [] inside gives = absurd gives
draw_named set total sub (suc count) (Number s (number.Drew n) ∷ lines) inside (same, is, more) =
    All-cons (λ line. sub_of line < total) (Number s (number.Drew n)) lines (omega (arith, same, inside)) (draw_named set total sub count lines inside more)
draw_named set total sub (suc count) (Number s (number.Withheld n stop) ∷ lines) inside (same, first, last, none) =
    All-cons (λ line. sub_of line < total) (Number s (number.Withheld n stop)) lines (omega (arith, same, inside))
    (All-same (λ line. sub_of line < total) lines [] none (All-nil (λ line. sub_of line < total)))
draw_named set total sub (suc count) (Number s (number.Exhausted word) ∷ lines) inside (same, spent, none) =
    All-cons (λ line. sub_of line < total) (Number s (number.Exhausted word)) lines (omega (arith, same, inside))
    (All-same (λ line. sub_of line < total) lines [] none (All-nil (λ line. sub_of line < total)))
draw_named set total sub (suc count) (Sync s note ∷ lines) inside gives = absurd gives
draw_named set total sub (suc count) (Give s n answer ∷ lines) inside gives = absurd gives
draw_named set total sub (suc count) (Further said ∷ lines) inside gives = absurd gives
draw_named set total sub (suc count) (Event r ∷ lines) inside gives = absurd gives

-- there are no more lines than vectors were asked for
draw_few : (set : Setting) (sub count : ℕ) (lines : List LineRecord) → DrawGives set sub count lines → length lines ≤ count
draw_few set sub zero lines gives = let none = ap length gives in omega (arith, none)
draw_few set sub (suc count) [] gives = absurd gives
draw_few set sub (suc count) (Number s (number.Drew n) ∷ lines) (same, is, more) = let rest = draw_few set sub count lines more in omega (arith, rest)
draw_few set sub (suc count) (Number s (number.Withheld n stop) ∷ lines) (same, first, last, none) = let rest = ap length none in omega (arith, rest)
draw_few set sub (suc count) (Number s (number.Exhausted word) ∷ lines) (same, spent, none) = let rest = ap length none in omega (arith, rest)
draw_few set sub (suc count) (Sync s note ∷ lines) gives = absurd gives
draw_few set sub (suc count) (Give s n answer ∷ lines) gives = absurd gives
draw_few set sub (suc count) (Further said ∷ lines) gives = absurd gives
draw_few set sub (suc count) (Event r ∷ lines) gives = absurd gives

-- jobs of which each draws so many vectors for the subscriber of its place in a list
abbrev pub DrawsEach : Setting → ℕ → List ℕ → List (List LineRecord) → Type 0
DrawsEach set count [] records = records ≡ []
DrawsEach set count (s ∷ ss) [] = ⊥
DrawsEach set count (s ∷ ss) (lines ∷ records) = DrawGives set s count lines × DrawsEach set count ss records

pub draws_each : (set : Setting) (early : List LineRecord) (kept : List Kept) (beside : List LineRecord) (count : ℕ) (ss : List ℕ) (records : List (List LineRecord)) (nets : List Net)
    → JobsGive set early kept beside (map (λ s. Draw s count ∷ []) ss) records nets → DrawsEach set count ss records
draws_each set early kept beside count [] records nets gives = gives.0
draws_each set early kept beside count (s ∷ ss) [] nets gives = absurd gives
draws_each set early kept beside count (s ∷ ss) (lines ∷ records) [] gives = absurd gives
draws_each set early kept beside count (s ∷ ss) (lines ∷ records) (net ∷ nets) ((front, rest, mid, cut, (gives, same), (none, last)), more) = (
  subst (DrawGives set s count) (sym (cut ∙ ap (λ (r : List LineRecord). front ++ r) none ∙ append-nil front)) gives,
  draws_each set early kept (beside ++ lines) count ss records nets more,
)

-- the greatest number of a subscriber is that of all
abbrev pub IsWide : Setting → ℕ → Type 0
IsWide set s = top_at set.rows s ≡ max_seq

all_of_draw : (set : Setting) (count : ℕ) (ss : List ℕ) (records : List (List LineRecord)) → All (IsWide set) ss → DrawsEach set count ss records → All IsOfDraw (all_lines records)
all_of_draw set count [] records wide gives = no_lines (all_lines records) (ap all_lines gives)
all_of_draw set count (s ∷ ss) [] wide gives = absurd gives
all_of_draw set count (s ∷ ss) (lines ∷ records) wide (here, more) =
    All-append IsOfDraw lines (all_lines records) (draw_lines set s count lines (All-head (IsWide set) s ss wide) here)
    (all_of_draw set count ss records (All-tail (IsWide set) s ss wide) more)

all_named : (set : Setting) (total count : ℕ) (ss : List ℕ) (records : List (List LineRecord)) → All (λ s. s < total) ss → DrawsEach set count ss records
    → All (λ line. sub_of line < total) (all_lines records)
all_named set total count [] records inside gives =
    All-same (λ line. sub_of line < total) (all_lines records) [] (ap all_lines gives) (All-nil (λ line. sub_of line < total))
all_named set total count (s ∷ ss) [] inside gives = absurd gives
all_named set total count (s ∷ ss) (lines ∷ records) inside (here, more) =
    All-append (λ line. sub_of line < total) lines (all_lines records) (draw_named set total s count lines (All-head (λ s. s < total) s ss inside) here)
    (all_named set total count ss records (All-tail (λ s. s < total) s ss inside) more)

few_lines : (set : Setting) (count : ℕ) (ss : List ℕ) (records : List (List LineRecord)) → DrawsEach set count ss records
    → length (all_lines records) ≤ count * length ss
few_lines set count [] records gives = let none = ap (λ (rs : List (List LineRecord)). length (all_lines rs)) gives in omega (arith, none)
few_lines set count (s ∷ ss) [] gives = absurd gives
few_lines set count (s ∷ ss) (lines ∷ records) (here, more) =
    let first = draw_few set s count lines here in
    let rest = few_lines set count ss records more in
    let cut = length-append lines (all_lines records) in
    omega (arith, first, rest, cut)

-- ---- no number is skipped, and few are drawn

number_draws : (sub : ℕ) (before : List LineRecord) (note : Option NumberNote) → length (drawn (entries_of_number sub before note)) ≤ 1
number_draws sub before None = omega arith
number_draws sub before (Some (number.Drew n)) = omega arith
number_draws sub before (Some (number.Withheld n stop)) = omega arith
number_draws sub before (Some (number.Exhausted word)) = mark (is_reported sub word before)
  where
    mark : (told : Bool) → length (drawn (if told then [] else Drawn (word + 1) ∷ [])) ≤ 1
    mark true = omega arith
    mark false = omega arith

line_draws : (sub : ℕ) (before : List LineRecord) (line : LineRecord) → IsOfDraw line → length (drawn (entries_of_line sub before line)) ≤ 1
line_draws sub before (Number s note) is = number_draws sub before (number_by sub (Number s note))
line_draws sub before (Sync s note) is = absurd is
line_draws sub before (Give s n answer) is = absurd is
line_draws sub before (Further said) is = absurd is
line_draws sub before (Event r) is = absurd is

number_skips : (sub : ℕ) (before : List LineRecord) (note : Option NumberNote) → skipped (entries_of_number sub before note) ≡ 0
number_skips sub before None = refl
number_skips sub before (Some (number.Drew n)) = refl
number_skips sub before (Some (number.Withheld n stop)) = refl
number_skips sub before (Some (number.Exhausted word)) = mark (is_reported sub word before)
  where
    mark : (told : Bool) → skipped (if told then [] else Drawn (word + 1) ∷ []) ≡ 0
    mark true = refl
    mark false = refl

line_skips : (sub : ℕ) (before : List LineRecord) (line : LineRecord) → IsOfDraw line → skipped (entries_of_line sub before line) ≡ 0
line_skips sub before (Number s note) is = number_skips sub before (number_by sub (Number s note))
line_skips sub before (Sync s note) is = absurd is
line_skips sub before (Give s n answer) is = absurd is
line_skips sub before (Further said) is = absurd is
line_skips sub before (Event r) is = absurd is

lines_draw : (sub : ℕ) (before lines : List LineRecord) → All IsOfDraw lines → length (drawn (entries_of_lines sub before lines)) ≤ length lines
lines_draw sub before [] all = omega arith
lines_draw sub before (line ∷ lines) all =
    let first = line_draws sub before line (All-head IsOfDraw line lines all) in
    let rest = lines_draw sub (before ++ line ∷ []) lines (All-tail IsOfDraw line lines all) in
    let cut = ap length (flat_map-append drawn_by (entries_of_line sub before line) (entries_of_lines sub (before ++ line ∷ []) lines)) in
    let both = length-append (drawn (entries_of_line sub before line)) (drawn (entries_of_lines sub (before ++ line ∷ []) lines)) in
    omega (arith, first, rest, cut, both)

lines_skip : (sub : ℕ) (before lines : List LineRecord) → All IsOfDraw lines → skipped (entries_of_lines sub before lines) ≡ 0
lines_skip sub before [] all = refl
lines_skip sub before (line ∷ lines) all =
    let first = line_skips sub before line (All-head IsOfDraw line lines all) in
    let rest = lines_skip sub (before ++ line ∷ []) lines (All-tail IsOfDraw line lines all) in
    let cut = sum_by-append skipped_by (entries_of_line sub before line) (entries_of_lines sub (before ++ line ∷ []) lines) in
    omega (arith, first, rest, cut)

-- ---- all lines are vectors

-- a line that releases a vector
abbrev pub IsVector : LineRecord → Type 0
IsVector (Number s (number.Drew n)) = Unit {0}
IsVector (Number s (number.Withheld n stop)) = ⊥
IsVector (Number s (number.Exhausted word)) = ⊥
IsVector (Sync s note) = ⊥
IsVector (Give s n answer) = ⊥
IsVector (Further said) = ⊥
IsVector (Event r) = ⊥

-- a line of a draw that tells no word as high as the greatest number and withholds nothing
vector_is : (closing : ℕ) (line : LineRecord) → closing < max_seq → IsOfDraw line → WordWithin closing line
    → withheld_by (sub_of line) line ≡ [] → IsVector line
vector_is closing (Number s (number.Drew n)) small is within none = tt
vector_is closing (Number s (number.Withheld n stop)) small is within none = absurd (held (s == s) (grind (arith, nat_tests)) none)
  where
    held : (same : Bool) → same ≡ true → number_withheld (if same then Some (number.Withheld n stop) else None) ≡ [] → ⊥
    held true is none = cc
    held false is none = cc
vector_is closing (Number s (number.Exhausted word)) small is within none = absurd (omega (arith, small, is, within))
vector_is closing (Sync s note) small is within none = is
vector_is closing (Give s n answer) small is within none = is
vector_is closing (Further said) small is within none = is
vector_is closing (Event r) small is within none = is

-- what lists joined are empty
none_at : (sub : ℕ) (lines : List LineRecord) (k : ℕ) (d : LineRecord) → k < length lines → withheld_of sub lines ≡ []
    → withheld_by sub (get_or lines k d) ≡ []
none_at sub lines k d inside none =
    let whole = length-flat_map (withheld_by sub) lines in
    let part = get_or-le-sum_by (λ (line : LineRecord). length (withheld_by sub line)) lines k d inside in
    let zero_is = ap length none in
    empty (withheld_by sub (get_or lines k d)) (omega (arith, whole, part, zero_is))
  where
    empty : (numbers : List ℕ) → length numbers ≤ 0 → numbers ≡ []
    empty [] few = refl
    empty (n ∷ more) few = absurd (omega (arith, few))

-- ---- a load's round

-- a lawful round of such jobs, which opens each subscriber at 0
pub record IsLoadRound (set : Setting) (count : ℕ) (ss openings : List ℕ) (round : RoundRecord) (words : List ℕ) : Type 0 where
  pub kept : List Kept
  pub lawful : IsLawfulRound set None [] kept openings (map (λ s. Draw s count ∷ []) ss) round words
  pub named : All (λ s. s < length openings) ss
  pub wide : All (IsWide set) ss
  pub opens : (sub : ℕ) → sub < length openings → get_or openings sub 0 ≡ 0
  pub few : count * length ss < max_seq

-- the closing word is small
closes_low : (set : Setting) (count : ℕ) (ss openings : List ℕ) (round : RoundRecord) (words : List ℕ) → IsLoadRound set count ss openings round words
    → (sub : ℕ) → sub < length openings → get_or words sub 0 < max_seq
closes_low set count ss openings round words is sub inside =
    let draws = draws_each set [] is.kept [] count ss round.jobs is.lawful.nets is.lawful.given in
    let all = all_of_draw set count ss round.jobs is.wide draws in
    let lines = few_lines set count ss round.jobs draws in
    let whole = split_counts_its_numbers (top_at set.rows sub) (get_or openings sub 0) (get_or words sub 0) (entries_of_jobs sub [] round.jobs) (is.lawful.split sub inside) in
    let entries = all_entries-of_jobs sub [] round.jobs in
    let draw = lines_draw sub [] (all_lines round.jobs) all in
    let skip = lines_skip sub [] (all_lines round.jobs) all in
    let same_draw = ap (λ es. length (drawn es)) entries in
    let same_skip = ap skipped entries in
    let opens = is.opens sub inside in
    let few = is.few in
    omega (arith, lines, whole, draw, skip, same_draw, same_skip, opens, few)

only_vectors : (set : Setting) (count : ℕ) (ss openings : List ℕ) (round : RoundRecord) (words : List ℕ) → IsLoadRound set count ss openings round words
    → All IsVector (all_lines round.jobs)
only_vectors set count ss openings round words is k d inside =
    let line = get_or (all_lines round.jobs) k d in
    let draws = draws_each set [] is.kept [] count ss round.jobs is.lawful.nets is.lawful.given in
    let sub = sub_of line in
    let named : sub < length openings = all_named set (length openings) count ss round.jobs is.named draws k d inside in
    let closing = get_or words sub 0 in
    let entries = subst (All (IsWithin closing)) (all_entries-of_jobs sub [] round.jobs)
    (splits_within (top_at set.rows sub) (get_or openings sub 0) closing (entries_of_jobs sub [] round.jobs) (is.lawful.split sub named)) in
    let of_draw = all_of_draw set count ss round.jobs is.wide draws in
    let words_are = lines_within sub closing [] (all_lines round.jobs) of_draw (λ word told. absurd (cc)) entries in
    vector_is closing line (closes_low set count ss openings round words is sub named) (of_draw k d inside) (words_are k d inside refl)
    (none_at sub (all_lines round.jobs) k d inside (is.lawful.withheld sub))

-- ---- how many vectors each subscriber gets

left : (xs ys : List LineRecord) → All IsVector (xs ++ ys) → All IsVector xs
left [] ys all = All-nil IsVector
left (x ∷ xs) ys all = All-cons IsVector x xs (All-head IsVector x (xs ++ ys) all) (left xs ys (All-tail IsVector x (xs ++ ys) all))

right : (xs ys : List LineRecord) → All IsVector (xs ++ ys) → All IsVector ys
right [] ys all = all
right (x ∷ xs) ys all = right xs ys (All-tail IsVector x (xs ++ ys) all)

-- the entries of a job's vectors, and its vectors
job_draws : (set : Setting) (count s sub : ℕ) (before lines : List LineRecord) → DrawGives set s count lines → All IsVector lines
    → length (drawn (entries_of_lines sub before lines)) ≡ count * cond (s == sub) 1 0
job_draws set zero s sub before lines gives all = let none = ap (λ ls. length (drawn (entries_of_lines sub before ls))) gives in omega (arith, none)
job_draws set (suc count) s sub before [] gives all = absurd gives
job_draws set (suc count) s sub before (Number t (number.Drew n) ∷ lines) (same, is, more) all =
    let first : length (drawn (entries_of_line sub before (Number t (number.Drew n)))) ≡ cond (t == sub) 1 0 = one (t == sub) in
    let rest = job_draws set count s sub (before ++ Number t (number.Drew n) ∷ []) lines more (All-tail IsVector (Number t (number.Drew n)) lines all) in
    let cut = ap length (flat_map-append drawn_by (entries_of_line sub before (Number t (number.Drew n))) (entries_of_lines sub (before ++ Number t (number.Drew n) ∷ []) lines)) in
    let both = length-append (drawn (entries_of_line sub before (Number t (number.Drew n)))) (drawn (entries_of_lines sub (before ++ Number t (number.Drew n) ∷ []) lines)) in
    let of_s = ap {B = ℕ} (λ (k : ℕ). cond (k == sub) 1 0) same in
    omega (arith, first, rest, cut, both, of_s)
  where
    one : (there : Bool) → length (drawn (entries_of_number sub before (if there then Some (number.Drew n) else None))) ≡ cond there 1 0
    one true = refl
    one false = refl
job_draws set (suc count) s sub before (Number t (number.Withheld n stop) ∷ lines) gives all = absurd (All-head IsVector (Number t (number.Withheld n stop)) lines all)
job_draws set (suc count) s sub before (Number t (number.Exhausted word) ∷ lines) gives all = absurd (All-head IsVector (Number t (number.Exhausted word)) lines all)
job_draws set (suc count) s sub before (Sync t note ∷ lines) gives all = absurd gives
job_draws set (suc count) s sub before (Give t n answer ∷ lines) gives all = absurd gives
job_draws set (suc count) s sub before (Further said ∷ lines) gives all = absurd gives
job_draws set (suc count) s sub before (Event r ∷ lines) gives all = absurd gives

job_releases : (set : Setting) (count s sub : ℕ) (lines : List LineRecord) → DrawGives set s count lines → All IsVector lines
    → length (numbers_of sub lines) ≡ count * cond (s == sub) 1 0
job_releases set zero s sub lines gives all = let none = ap (λ ls. length (numbers_of sub ls)) gives in omega (arith, none)
job_releases set (suc count) s sub [] gives all = absurd gives
job_releases set (suc count) s sub (Number t (number.Drew n) ∷ lines) (same, is, more) all =
    let first : length (released_by sub (Number t (number.Drew n))) ≡ cond (t == sub) 1 0 = one (t == sub) in
    let rest = job_releases set count s sub lines more (All-tail IsVector (Number t (number.Drew n)) lines all) in
    let both = length-append (released_by sub (Number t (number.Drew n))) (numbers_of sub lines) in
    let of_s = ap {B = ℕ} (λ (k : ℕ). cond (k == sub) 1 0) same in
    omega (arith, first, rest, both, of_s)
  where
    one : (there : Bool) → length (number_released (if there then Some (number.Drew n) else None)) ≡ cond there 1 0
    one true = refl
    one false = refl
job_releases set (suc count) s sub (Number t (number.Withheld n stop) ∷ lines) gives all = absurd (All-head IsVector (Number t (number.Withheld n stop)) lines all)
job_releases set (suc count) s sub (Number t (number.Exhausted word) ∷ lines) gives all = absurd (All-head IsVector (Number t (number.Exhausted word)) lines all)
job_releases set (suc count) s sub (Sync t note ∷ lines) gives all = absurd gives
job_releases set (suc count) s sub (Give t n answer ∷ lines) gives all = absurd gives
job_releases set (suc count) s sub (Further said ∷ lines) gives all = absurd gives
job_releases set (suc count) s sub (Event r ∷ lines) gives all = absurd gives

-- those of all jobs
jobs_draw : (set : Setting) (count sub : ℕ) (before : List LineRecord) (ss : List ℕ) (records : List (List LineRecord)) → DrawsEach set count ss records
    → All IsVector (all_lines records) → length (drawn (all_entries (entries_of_jobs sub before records))) ≡ count * count_by (λ s. s == sub) ss
jobs_draw set count sub before [] records gives all =
    let none = ap (λ rs. length (drawn (all_entries (entries_of_jobs sub before rs)))) gives in omega (arith, none)
jobs_draw set count sub before (s ∷ ss) [] gives all = absurd gives
jobs_draw set count sub before (s ∷ ss) (lines ∷ records) (here, more) all =
    let first = job_draws set count s sub before lines here (left lines (all_lines records) all) in
    let rest = jobs_draw set count sub (before ++ lines) ss records more (right lines (all_lines records) all) in
    let cut = ap length (flat_map-append drawn_by (entries_of_lines sub before lines) (all_entries (entries_of_jobs sub (before ++ lines) records))) in
    let both = length-append (drawn (entries_of_lines sub before lines)) (drawn (all_entries (entries_of_jobs sub (before ++ lines) records))) in
    let more : count * count_by (λ s. s == sub) (s ∷ ss) ≡ count * (cond (s == sub) 1 0 + count_by (λ s. s == sub) ss) =
    ap (λ (n : ℕ). count * n) (sum_by-cons (λ (t : ℕ). cond (t == sub) 1 0) s ss) in
    omega (arith, first, rest, cut, both, more)

jobs_release : (set : Setting) (count sub : ℕ) (ss : List ℕ) (records : List (List LineRecord)) → DrawsEach set count ss records
    → All IsVector (all_lines records) → length (numbers_of sub (all_lines records)) ≡ count * count_by (λ s. s == sub) ss
jobs_release set count sub [] records gives all =
    let none = ap (λ rs. length (numbers_of sub (all_lines rs))) gives in omega (arith, none)
jobs_release set count sub (s ∷ ss) [] gives all = absurd gives
jobs_release set count sub (s ∷ ss) (lines ∷ records) (here, more) all =
    let first = job_releases set count s sub lines here (left lines (all_lines records) all) in
    let rest = jobs_release set count sub ss records more (right lines (all_lines records) all) in
    let cut = ap length (flat_map-append (released_by sub) lines (all_lines records)) in
    let both = length-append (numbers_of sub lines) (numbers_of sub (all_lines records)) in
    let more : count * count_by (λ s. s == sub) (s ∷ ss) ≡ count * (cond (s == sub) 1 0 + count_by (λ s. s == sub) ss) =
    ap (λ (n : ℕ). count * n) (sum_by-cons (λ (t : ℕ). cond (t == sub) 1 0) s ss) in
    omega (arith, first, rest, cut, both, more)

-- ---- the closings

closing_same : (sub opening word draws skips releases withholds n : ℕ) → opening ≡ 0 → word ≡ n → draws ≡ n → skips ≡ 0 → releases ≡ n → withholds ≡ 0
    → (if opening == word then [] else record { sub = sub; first = opening; last = word; drawn = draws; skipped = skips; released = releases; withheld = withholds } ∷ [])
    ≡ closing_with sub n
closing_same sub opening word draws skips releases withholds n eo ew ed es er eh = rw (eo, ew, ed, es, er, eh) refl

closing_is : (set : Setting) (count : ℕ) (ss openings : List ℕ) (round : RoundRecord) (words : List ℕ) → IsLoadRound set count ss openings round words
    → (sub : ℕ) → sub < length openings
    → closing_of sub (get_or openings sub 0) (get_or words sub 0) round.jobs ≡ closing_with sub (count * count_by (λ s. s == sub) ss)
closing_is set count ss openings round words is sub inside =
    let draws = draws_each set [] is.kept [] count ss round.jobs is.lawful.nets is.lawful.given in
    let all = only_vectors set count ss openings round words is in
    let whole = split_counts_its_numbers (top_at set.rows sub) (get_or openings sub 0) (get_or words sub 0) (entries_of_jobs sub [] round.jobs) (is.lawful.split sub inside) in
    let draw = jobs_draw set count sub [] ss round.jobs draws all in
    let skip = ap skipped (all_entries-of_jobs sub [] round.jobs) ∙ lines_skip sub [] (all_lines round.jobs) (all_of_draw set count ss round.jobs is.wide draws) in
    let opens = is.opens sub inside in
    closing_same sub (get_or openings sub 0) (get_or words sub 0) (length (drawn (all_entries (entries_of_jobs sub [] round.jobs))))
    (skipped (all_entries (entries_of_jobs sub [] round.jobs))) (length (numbers_of sub (all_lines round.jobs))) (length (withheld_of sub (all_lines round.jobs)))
    (count * count_by (λ s. s == sub) ss) opens (omega (arith, whole, draw, skip, opens)) draw skip
    (jobs_release set count sub ss round.jobs draws all) (ap length (is.lawful.withheld sub))

closings_are : (f : ℕ → List Closing) (k : ℕ) (openings words : List ℕ) (jobs : List (List LineRecord)) → length words ≡ length openings
    → ((i : ℕ) → i < length openings → closing_of (k + i) (get_or openings i 0) (get_or words i 0) jobs ≡ f (k + i))
    → closings_from k openings words jobs ≡ flat_map f (range_with_len k (length openings))
closings_are f k [] words jobs sizes each = refl
closings_are f k (opening ∷ openings) [] jobs sizes each = absurd (omega (arith, sizes))
closings_are f k (opening ∷ openings) (word ∷ words) jobs sizes each =
    let here : k + 0 ≡ k = omega arith in
    let first = subst (λ (s : ℕ). closing_of s opening word jobs ≡ f s) here (each 0 (omega arith)) in
    let rest = closings_are f (k + 1) openings words jobs (omega (arith, sizes)) (λ i less.
    let there : k + suc i ≡ k + 1 + i = omega arith in
    subst (λ (s : ℕ). closing_of s (get_or openings i 0) (get_or words i 0) jobs ≡ f s) there (each (suc i) (omega arith))) in
    ap (λ (cs : List Closing). cs ++ closings_from (k + 1) openings words jobs) first ∙ ap (λ (cs : List Closing). f k ++ cs) rest

-- a load's round closes each subscriber after the vectors that its jobs draw
pub load_closes : (set : Setting) (count : ℕ) (ss openings : List ℕ) (round : RoundRecord) (words : List ℕ) → IsLoadRound set count ss openings round words
    → round.closings ≡ flat_map (λ sub. closing_with sub (count * count_by (λ s. s == sub) ss)) (range_with_len 0 (length openings))
load_closes set count ss openings round words is =
    is.lawful.closings
    ∙ closings_are (λ sub. closing_with sub (count * count_by (λ s. s == sub) ss)) 0 openings words round.jobs is.lawful.sizes
    (λ i less. let here : i ≡ 0 + i = omega arith in
    subst (λ (s : ℕ). closing_of s (get_or openings i 0) (get_or words i 0) round.jobs ≡ closing_with s (count * count_by (λ t. t == s) ss)) here
    (closing_is set count ss openings round words is i less))

-- ---- what a load asks for

-- the subscribers of its jobs
abbrev pub subs_of_jobs : LoadWords → List ℕ
subs_of_jobs load = map (λ j. j % load.subscribers) (range_with_len 0 load.jobs)

jobs_are : (load : LoadWords) → load_jobs load ≡ map (λ s. Draw s vectors_of_a_job ∷ []) (subs_of_jobs load)
jobs_are load = sym (map-map (λ s. Draw s vectors_of_a_job ∷ []) (λ j. j % load.subscribers) (range_with_len 0 load.jobs))

job_is : (load : LoadWords) (k : ℕ) (d : List Line) → k < length (load_jobs load) → get_or (load_jobs load) k d ≡ job_at load.subscribers k
job_is load k d inside =
    let many = length-map-range_with_len (job_at load.subscribers) 0 load.jobs in
    get_or-map-range_with_len (job_at load.subscribers) 0 load.jobs k k d (omega (arith, many, inside)) (omega arith)

subs_named : (load : LoadWords) → IsLoad load → All (λ s. s < load.subscribers) (subs_of_jobs load)
subs_named load is k d inside =
    let many = length-map-range_with_len (λ j. j % load.subscribers) 0 load.jobs in
    let at = get_or-map-range_with_len (λ j. j % load.subscribers) 0 load.jobs k k d (omega (arith, many, inside)) (omega arith) in
    let some = is.one_subscriber in
    let below : k % load.subscribers < load.subscribers = omega (arith, some) in
    omega (arith, at, below)

-- how many subscribers there are
pub rows_of_load : (load : LoadWords) (rows : List Row) → rows ≡ load_rows load → length rows ≡ load.subscribers
rows_of_load load rows same = ap length same ∙ length-map-range_with_len (row_at (load_key load.key)) 0 load.subscribers

-- each of its lines is of a subscriber, and no job holds a USIM
pub load_known : (load : LoadWords) (rows : List Row) → IsLoad load → rows ≡ load_rows load → AreAllKnown rows (load_jobs load)
load_known load rows is same k d inside =
    let some = is.one_subscriber in
    let count = rows_of_load load rows same in
    let below : k % load.subscribers < length rows = omega (arith, some, count) in
    subst (AreKnown rows) (sym (job_is load k d inside))
    (All-cons (IsKnownLine rows) (Draw (k % load.subscribers) vectors_of_a_job) [] below (All-nil (IsKnownLine rows)))

pub load_apart : (load : LoadWords) → AllPairs AreApart (load_jobs load)
load_apart load i j d less inside = λ sub gives. ap (holds sub) (job_is load j d inside)

pub load_few : (load : LoadWords) → IsLoad load → length (load_jobs load) ≤ 200000
load_few load is =
    let many = length-map-range_with_len (job_at load.subscribers) 0 load.jobs in
    let jobs = is.jobs in
    omega (arith, many, jobs)

-- each subscriber begins at 0
opens_at : (load : LoadWords) (sub : ℕ) → sub < load.subscribers → get_or (map (λ (row : Row). row.seq) (load_rows load)) sub 0 ≡ 0
opens_at load sub inside =
    let key = load_key load.key in
    ap (λ (openings : List ℕ). get_or openings sub 0) (map-map (λ (row : Row). row.seq) (row_at key) (range_with_len 0 load.subscribers))
    ∙ get_or-map-range_with_len (λ i. (row_at key i).seq) 0 load.subscribers sub sub 0 inside (omega arith)

-- each has an index of 5 bits, and so the greatest number of all
wide_at : (load : LoadWords) (set : Setting) (sub : ℕ) → set.rows ≡ load_rows load → sub < load.subscribers → IsWide set sub
wide_at load set sub rows inside =
    let key = load_key load.key in
    ap (λ (rs : List Row). top_at rs sub) rows
    ∙ ap (λ (tops : List ℕ). get_or tops sub 0) (map-map (λ (row : Row). top_of row.bits) (row_at key) (range_with_len 0 load.subscribers))
    ∙ get_or-map-range_with_len (λ i. top_of (row_at key i).bits) 0 load.subscribers sub sub 0 inside (omega arith) ∙ top_of-5

-- a lawful round of it closes the subscribers as the summary has to be told
pub load_round_closes : (load : LoadWords) (set : Setting) (kept : List Kept) (round : RoundRecord) (words : List ℕ) → IsLoad load → set.rows ≡ load_rows load
    → IsLawfulRound set None [] kept (map (λ (row : Row). row.seq) (load_rows load)) (load_jobs load) round words → round.closings ≡ load_closings load
load_round_closes load set kept round words is same_rows lawful =
    let openings = map (λ (row : Row). row.seq) (load_rows load) in
    let rows = length-map (load_rows load) (λ (row : Row). row.seq) in
    let many = length-map-range_with_len (row_at (load_key load.key)) 0 load.subscribers in
    let count : length openings ≡ load.subscribers = rows ∙ many in
    let jobs = length-map-range_with_len (λ j. j % load.subscribers) 0 load.jobs in
    let bound = is.jobs in
    let round_is : IsLoadRound set vectors_of_a_job (subs_of_jobs load) openings round words = record {
      kept = kept;
      lawful = subst (λ (js : List (List Line)). IsLawfulRound set None [] kept openings js round words) (jobs_are load) lawful;
      named = subst (λ (n : ℕ). All (λ s. s < n) (subs_of_jobs load)) (sym count) (subs_named load is);
      wide = All-weaker (λ s. s < load.subscribers) (IsWide set) (λ s inside. wide_at load set s same_rows inside) (subs_of_jobs load) (subs_named load is);
      opens = λ sub inside. opens_at load sub (omega (arith, count, inside));
      few = omega (arith, jobs, bound);
    } in
    load_closes set vectors_of_a_job (subs_of_jobs load) openings round words round_is
    ∙ ap (λ (n : ℕ). flat_map (λ sub. closing_with sub (drawn_for load sub)) (range_with_len 0 n)) count

-- a round that was served is lawful from the state's words, which are the numbers of the rows
pub served_lawful : {D : Type 0} (seen : D → Option (List ℕ)) (may_leave : D → List ℕ → Type 0) (moment : D → ℕ) (left_since : D → ℕ → List ℕ → Type 0) (set : Setting) (state next : Standing) (jobs : List (List Line)) (round : RoundRecord) (stop : Option Stop)
    (journal after : JournalState D) → state.words ≡ map (λ (row : Row). row.seq) set.rows → ServesRound seen may_leave moment left_since set [] state jobs round stop journal next after
    → (kept : List Kept) × (words : List ℕ) × IsLawfulRound set stop [] kept (map (λ (row : Row). row.seq) set.rows) jobs round words
served_lawful seen may_leave moment left_since set state next jobs round stop journal after same serves =
    (state.kept, serves.words, subst (λ (os : List ℕ). IsLawfulRound set stop [] state.kept os jobs round serves.words) same serves.lawful)

-- if reservations didn't end in the round of a load, its closings are those that the summary has to tell
pub load_ends : {E : Type 0} (load : LoadWords) (set : Setting) (jobs : List (List Line)) (round : RoundRecord) (stop : Option Stop) (result : Result (List Closing) E) → IsLoad load
    → set.rows ≡ load_rows load → jobs ≡ load_jobs load
    → ((kept : List Kept) × (words : List ℕ) × IsLawfulRound set stop [] kept (map (λ (row : Row). row.seq) set.rows) jobs round words)
    → IfOk result (λ closings. (stop ≡ None) × (closings ≡ round.closings)) → IfOk result (λ closings. closings ≡ load_closings load)
load_ends load set jobs round stop (Ok closings) is rows same served closes =
    let kept = served.0 in
    let words = served.1 in
    let whole = subst (λ (s : Option Stop). IsLawfulRound set s [] kept (map (λ (row : Row). row.seq) set.rows) jobs round words) closes.0 served.2 in
    let of_jobs = subst (λ (js : List (List Line)). IsLawfulRound set None [] kept (map (λ (row : Row). row.seq) set.rows) js round words) same whole in
    closes.1 ∙ load_round_closes load set kept round words is rows
    (subst (λ (os : List ℕ). IsLawfulRound set None [] kept os (load_jobs load) round words) (ap (λ (rows : List Row). map (λ (row : Row). row.seq) rows) rows) of_jobs)
load_ends load set jobs round stop (Err e) is rows same served closes = tt
