-- For the laws: what the entries of a subscriber in one round cover and draw.
use Rattle.std.proofs.Common.{◌≡◌, ℕ, ◌+◌, ◌≤◌, ◌&&◌, nat_lt, nat_le, Bool, true, false, Option, Some, None, List, [], ◌∷◌, ◌++◌, refl, sym, ◌∙◌, ap, arith, min, max, append_assoc, append-nil}
use Rattle.std.specs.Prelude.{if◌then◌else◌}
use Rattle.std.proofs.lemmas.Bool.Decides.{nat_tests}
use Rattle.std.proofs.lemmas.List.Concat.{flat_map-append}
use Rattle.auc_history.specs.declared.entry.Entry.{Entry}
use Rattle.auc_history.specs.declared.entry.Entry.TheVariants.{Drawn, Look}
use Rattle.auc_history.specs.History.{covers, covered, drawn, drawn_by}
use Rattle.auc_history.specs.Split.{all_entries, times}
use Rattle.auc_history.proofs.Facts.{times-append, times-cons}
use Rattle.auc_subs.specs.Subscriber.{top_at}
use Rattle.auc_vector.specs.declared.notes.NumberNote.{NumberNote}
use Rattle.auc_vector.specs.declared.notes.NumberNote.TheVariants as number
use Rattle.auc_vector.specs.declared.notes.ResyncNote.{ResyncNote}
use Rattle.auc_vector.specs.declared.notes.ResyncNote.TheVariants as resync
use Rattle.auc_record.specs.Event.{number_released, number_withheld}
use Rattle.auc_record.specs.declared.record.LineRecord.{LineRecord}
use Rattle.auc_record.specs.declared.record.RoundRecord.{RoundRecord}
use Rattle.auc_record.specs.Lines.{number_by, numbers_of, resync_by, withheld_of, all_lines}
use Rattle.auc_record.specs.Entries.{is_reported, entries_of_resync, entries_of_number, entries_of_line, entries_of_lines, entries_of_jobs}
use Rattle.auc_subs.specs.Setting.{Setting}
use Rattle.auc_world.specs.Transcript.{entries_of}
use Rattle.auc_transcript.proofs.EventLemmas.{IsNoteServed}
use Rattle.auc_transcript.proofs.LineLemmas.{times-numbers}
use Rattle.auc_transcript.proofs.ServedLemmas.{AreServed, note_of_line_served}

-- ---- what entries cover

-- entries of a subscriber with this greatest number cover each number above a low one up to a high one once, and no other
-- number that a vector may have
pub record CoversRange (top low high : ℕ) (entries : List Entry) : Type 0 where
  pub forward : low ≤ high
  pub once : (n : ℕ) → n ≤ top → times n (covered entries) ≡ (if nat_lt low n && nat_le n high then 1 else 0)

-- no entries cover nothing
nothing_between : (n low : ℕ) → ◌≡◌ {A = ℕ} 0 (if nat_lt low n && nat_le n low then 1 else 0)
nothing_between n low = grind (arith, nat_tests)

pub covers_nothing : (top low : ℕ) → CoversRange top low low []
covers_nothing top low = record { forward = omega arith; once = λ n within. nothing_between n low }

-- how often two lists of entries cover a number
times-covered-append : (n : ℕ) (xs ys : List Entry) → times n (covered (xs ++ ys)) ≡ times n (covered xs) + times n (covered ys)
times-covered-append n xs ys = ap (times n) (flat_map-append covers xs ys) ∙ times-append n (covered xs) (covered ys)

-- how often two lists of entries draw a number
pub times-drawn-append : (n : ℕ) (xs ys : List Entry) → times n (drawn (xs ++ ys)) ≡ times n (drawn xs) + times n (drawn ys)
times-drawn-append n xs ys = ap (times n) (flat_map-append drawn_by xs ys) ∙ times-append n (drawn xs) (drawn ys)

-- two ranges, one after the other
ranges_joined : (top n low closing next high : ℕ) → n ≤ top → next ≡ min top closing → low ≤ closing → next ≤ high
    → (if nat_lt low n && nat_le n closing then 1 else 0) + (if nat_lt next n && nat_le n high then 1 else 0) ≡ (if nat_lt low n && nat_le n (max low high) then 1 else 0)
ranges_joined top n low closing next high = grind (arith, nat_tests)

-- a range that a round covers, and the range of the rounds after it
pub round_joined : (top low closing next high : ℕ) (xs ys : List Entry) → next ≡ min top closing → low ≤ closing
    → ((n : ℕ) → times n (covered xs) ≡ (if nat_lt low n && nat_le n closing then 1 else 0)) → CoversRange top next high ys
    → CoversRange top low (max low high) (xs ++ ys)
round_joined top low closing next high xs ys again forward once covers =
    let up = covers.forward in record {
      forward = omega arith;
      once = λ n within.
          let cut = times-covered-append n xs ys in
          let first = once n in
          let others = covers.once n within in
          let joined = ranges_joined top n low closing next high within again forward up in
          omega (arith, cut, first, others, joined);
    }

-- ---- the entries of a round are those of all its lines

-- the entries of two lists of lines
entries_of_lines-append : (sub : ℕ) (before xs ys : List LineRecord) → entries_of_lines sub before (xs ++ ys) ≡ entries_of_lines sub before xs ++ entries_of_lines sub (before ++ xs) ys
entries_of_lines-append sub before [] ys = ap (λ (ls : List LineRecord). entries_of_lines sub ls ys) (sym (append-nil before))
entries_of_lines-append sub before (x ∷ xs) ys =
    ap (λ es. entries_of_line sub before x ++ es) (entries_of_lines-append sub (before ++ x ∷ []) xs ys
    ∙ ap (λ (ls : List LineRecord). entries_of_lines sub (before ++ x ∷ []) xs ++ entries_of_lines sub ls ys) (append_assoc before (x ∷ []) xs))
    ∙ sym (append_assoc (entries_of_line sub before x) (entries_of_lines sub (before ++ x ∷ []) xs) (entries_of_lines sub (before ++ x ∷ xs) ys))

-- the entries of all jobs
entries_of_jobs-lines : (sub : ℕ) (before : List LineRecord) (jobs : List (List LineRecord))
    → all_entries (entries_of_jobs sub before jobs) ≡ entries_of_lines sub before (all_lines jobs)
entries_of_jobs-lines sub before [] = refl
entries_of_jobs-lines sub before (job ∷ jobs) =
    ap (λ es. entries_of_lines sub before job ++ es) (entries_of_jobs-lines sub (before ++ job) jobs) ∙ sym (entries_of_lines-append sub before job (all_lines jobs))

-- the numbers of the vectors of a round are drawn by its entries
pub round_drawn : (n sub : ℕ) (round : RoundRecord) → times n (numbers_of sub (all_lines round.jobs)) ≤ times n (drawn (entries_of sub round))
round_drawn n sub round =
    let same = ap (λ es. times n (drawn es)) (entries_of_jobs-lines sub [] round.jobs) in
    let lines = times-numbers n sub [] (all_lines round.jobs) in omega (arith, same, lines)

-- ---- drawn numbers that vectors may have are released or withheld

-- a released number
told_drawn : (n m many : ℕ) (numbers : List ℕ) (entries : List Entry) → times n (drawn entries) ≤ times n numbers + many → times n (drawn (Drawn m ∷ entries)) ≤ times n (m ∷ numbers) + many
told_drawn n m many numbers entries rest =
    let these = times-cons n m (drawn entries) in let those = times-cons n m numbers in omega (arith, rest, these, those)

-- a withheld one
told_withheld : (n m many : ℕ) (numbers : List ℕ) (entries : List Entry) → times n (drawn entries) ≤ many + times n numbers → times n (drawn (Drawn m ∷ entries)) ≤ many + times n (m ∷ numbers)
told_withheld n m many numbers entries rest =
    let these = times-cons n m (drawn entries) in let those = times-cons n m numbers in omega (arith, rest, these, those)

-- a mark is above all of them
mark_apart : (top n word : ℕ) → n ≤ top → top ≤ word → times n ((word + 1) ∷ []) ≡ 0
mark_apart top n word within spent = let cut = times-cons n (word + 1) [] in grind (arith, nat_tests, cut)

no_mark : (known : Bool) (top n word : ℕ) → n ≤ top → top ≤ word → times n (drawn (if known then [] else Drawn (word + 1) ∷ [])) ≡ 0
no_mark true top n word within spent = refl
no_mark false top n word within spent = mark_apart top n word within spent

-- a resynchronisation draws nothing
no_look : (known : Bool) (n seen : ℕ) → times n (drawn (if known then [] else Look seen ∷ [])) ≡ 0
no_look true n seen = refl
no_look false n seen = refl

no_resync : (n sub : ℕ) (before : List LineRecord) (note : Option ResyncNote) → times n (drawn (entries_of_resync sub before note)) ≡ 0
no_resync n sub before None = refl
no_resync n sub before (Some (resync.Moved from to)) = refl
no_resync n sub before (Some (resync.InRange seen seq)) = no_look (is_reported sub seen before) n seen
no_resync n sub before (Some (resync.Beyond seen seq)) = no_look (is_reported sub seen before) n seen
no_resync n sub before (Some resync.BadAuts) = refl

-- entries that don't draw it change nothing
told_apart : (n many : ℕ) (xs ys : List Entry) → times n (drawn xs) ≡ 0 → times n (drawn ys) ≤ many → times n (drawn (xs ++ ys)) ≤ many
told_apart n many xs ys none rest = let cut = times-drawn-append n xs ys in omega (arith, cut, none, rest)

-- what a line's number draws, it releases or withholds, after a resynchronisation too
told_number : (top n sub : ℕ) (before : List LineRecord) (note : Option NumberNote) (numbers withheld : List ℕ) (entries : List Entry) → n ≤ top → IsNoteServed top note
    → times n (drawn entries) ≤ times n numbers + times n withheld
    → times n (drawn (entries_of_number sub before note ++ entries)) ≤ times n (number_released note ++ numbers) + times n (number_withheld note ++ withheld)
told_number top n sub before None numbers withheld entries within is rest = rest
told_number top n sub before (Some (number.Drew m)) numbers withheld entries within is rest = told_drawn n m (times n withheld) numbers entries rest
told_number top n sub before (Some (number.Exhausted word)) numbers withheld entries within is rest =
    told_apart n (times n numbers + times n withheld) (entries_of_number sub before (Some (number.Exhausted word))) entries (no_mark (is_reported sub word before) top n word within is) rest
told_number top n sub before (Some (number.Withheld m stop)) numbers withheld entries within is rest = told_withheld n m (times n numbers) withheld entries rest

told_synced : (top n sub : ℕ) (before : List LineRecord) (synced : Option ResyncNote) (note : Option NumberNote) (numbers withheld : List ℕ) (entries : List Entry) → n ≤ top
    → IsNoteServed top note → times n (drawn entries) ≤ times n numbers + times n withheld
    → times n (drawn ((entries_of_resync sub before synced ++ entries_of_number sub before note) ++ entries)) ≤ times n (number_released note ++ numbers) + times n (number_withheld note ++ withheld)
told_synced top n sub before synced note numbers withheld entries within is rest =
    let here = entries_of_resync sub before synced in
    let of_number = entries_of_number sub before note in
    let cut = ap (λ (es : List Entry). times n (drawn es)) (append_assoc here of_number entries) in
    let apart = told_apart n (times n (number_released note ++ numbers) + times n (number_withheld note ++ withheld)) here (of_number ++ entries) (no_resync n sub before synced)
    (told_number top n sub before note numbers withheld entries within is rest) in
    omega (arith, cut, apart)

-- what lines draw, they release or withhold
drawn_told : (set : Setting) (n sub : ℕ) (start before lines : List LineRecord) → n ≤ top_at set.rows sub → AreServed set start lines
    → times n (drawn (entries_of_lines sub before lines)) ≤ times n (numbers_of sub lines) + times n (withheld_of sub lines)
drawn_told set n sub start before [] within served = omega arith
drawn_told set n sub start before (line ∷ lines) within (is, more) =
    told_synced (top_at set.rows sub) n sub before (resync_by sub line) (number_by sub line) (numbers_of sub lines) (withheld_of sub lines) (entries_of_lines sub (before ++ line ∷ []) lines) within
    (note_of_line_served set start sub line is) (drawn_told set n sub (start ++ line ∷ []) (before ++ line ∷ []) lines within more)

-- what a round draws, it releases or withholds
pub round_told : (set : Setting) (n sub : ℕ) (early : List LineRecord) (round : RoundRecord) → n ≤ top_at set.rows sub → AreServed set early (all_lines round.jobs)
    → times n (drawn (entries_of sub round)) ≤ times n (numbers_of sub (all_lines round.jobs)) + times n (withheld_of sub (all_lines round.jobs))
round_told set n sub early round within served =
    let same = ap (λ es. times n (drawn es)) (entries_of_jobs-lines sub [] round.jobs) in
    let told = drawn_told set n sub early [] (all_lines round.jobs) within served in omega (arith, same, told)
