-- The law of vectors: no two vectors of a subscriber have the same SQN.
use Rattle.std.proofs.Common.{◌≡◌, ◌≢◌, ℕ, ◌<◌, ◌≤◌, ◌&&◌, nat_lt, nat_le, min, Option, Some, None, List, [], ◌∷◌, ◌++◌, length, get_or, map, All, AllPairs, ◌∙◌, ap, subst, arith, inl, inr, append_assoc, append-nil}
use Rattle.std.specs.Prelude.{if◌then◌else◌, slice_get}
use Rattle.std.proofs.lemmas.Bool.{cases_lt}
use Rattle.std.proofs.lemmas.Bool.Decides.{nat_tests}
use Rattle.std.proofs.lemmas.List.Elements.{All-nil, All-cons, All-head, All-tail, All-append, All-map}
use Rattle.std.proofs.lemmas.Option.{get_or_from_slice_get, slice_get_within}
use Rattle.auc_memory.specs.declared.stop.Stop.{Stop}
use Rattle.auc_history.specs.History.{covered}
use Rattle.auc_history.specs.Split.{times}
use Rattle.auc_history.proofs.Facts.{differ_from_times, AllPairs-cons, AllPairs-head, AllPairs-tail, times-drawn}
use Rattle.auc_sqn.specs.Number.{most_bits, sqn_bytes, top_of}
use Rattle.auc_sqn.proofs.Facts.{each_number_has_its_own_sqn}
use Rattle.auc_subs.specs.Subscriber.{AreSubscribers, IsRow, top_at}
use Rattle.auc_subs.specs.declared.row.Row.{Row}
use Rattle.auc_subs.proofs.Facts.{top_at-row}
use Rattle.auc_vector.specs.declared.notes.NumberNote.{NumberNote}
use Rattle.auc_vector.specs.declared.notes.NumberNote.TheVariants as number
use Rattle.auc_lines.specs.declared.part.Part.{Part}
use Rattle.auc_lines.specs.declared.part.Part.TheVariants.{Round, Restart}
use Rattle.auc_record.specs.declared.record.LineRecord.{LineRecord}
use Rattle.auc_record.specs.declared.record.PartRecord.{PartRecord}
use Rattle.auc_record.specs.declared.record.PartRecord.TheVariants as record_of
use Rattle.auc_record.specs.declared.record.RoundRecord.{RoundRecord}
use Rattle.auc_record.specs.Event.{number_released}
use Rattle.auc_record.specs.Lines.{number_by, numbers_of, released_by, all_lines}
use Rattle.auc_world.specs.Limits.{opened}
use Rattle.auc_subs.specs.Setting.{Setting}
use Rattle.auc_world.specs.Transcript.{Course, Leads, IsLawful, after_round, after_restart, beginning, lines_of, entries_of}
use Rattle.auc_record.specs.Openings.{reopened}
use Rattle.auc_transcript.specs.Headline.{EachTranscriptKeepsNumbersApart}
use Rattle.auc_transcript.proofs.EventLemmas.{IsNoteServed}
use Rattle.auc_transcript.proofs.LineLemmas.{All-times, times-numbers-append}
use Rattle.auc_record.proofs.Facts.{get_or-reopened, length-reopened}
use Rattle.auc_world.proofs.Facts.{length-opened, opened_above}
use Rattle.auc_transcript.proofs.ServedLemmas.{AreServed, note_of_line_served, round_served, parts_served}
use Rattle.auc_transcript.proofs.RoundLemmas.{round_drawn}

-- different numbers that vectors may have have different SQNs
pub sqns_differ : (bits : ℕ) (numbers : List ℕ) → bits ≤ most_bits → All (λ n. n ≤ top_of bits) numbers → AllPairs ◌≢◌ numbers → AllPairs ◌≢◌ (map (sqn_bytes bits) numbers)
sqns_differ bits [] few within differ = λ i j d i<j j<n. absurd (omega arith)
sqns_differ bits (n ∷ numbers) few within differ =
    let first = All-head (λ m. m ≤ top_of bits) n numbers within in
    let others = All-tail (λ m. m ≤ top_of bits) n numbers within in
    AllPairs-cons ◌≢◌ (sqn_bytes bits n) (map (sqn_bytes bits) numbers)
    (All-map (λ sqn. sqn_bytes bits n ≢ sqn) (sqn_bytes bits) numbers
    (λ k d k<n same. AllPairs-head ◌≢◌ n numbers differ k d k<n (each_number_has_its_own_sqn bits n (get_or numbers k d) few first (others k d k<n) same)))
    (sqns_differ bits numbers few others (AllPairs-tail ◌≢◌ n numbers differ))

-- the number that a line releases
released_within : (top : ℕ) (note : Option NumberNote) → IsNoteServed top note → All (λ m. m ≤ top) (number_released note)
released_within top None is = All-nil (λ m. m ≤ top)
released_within top (Some (number.Drew n)) is = All-cons (λ m. m ≤ top) n [] is (All-nil (λ m. m ≤ top))
released_within top (Some (number.Exhausted word)) is = All-nil (λ m. m ≤ top)
released_within top (Some (number.Withheld n stop)) is = All-nil (λ m. m ≤ top)

-- the numbers of all vectors of a subscriber are numbers that they may have
pub numbers_within : (set : Setting) (sub : ℕ) (before lines : List LineRecord) → AreServed set before lines → All (λ n. n ≤ top_at set.rows sub) (numbers_of sub lines)
numbers_within set sub before [] served = All-nil (λ n. n ≤ top_at set.rows sub)
numbers_within set sub before (line ∷ lines) (is, more) =
    All-append (λ n. n ≤ top_at set.rows sub) (released_by sub line) (numbers_of sub lines) (released_within (top_at set.rows sub) (number_by sub line) (note_of_line_served set before sub line is))
    (numbers_within set sub (before ++ line ∷ []) lines more)

-- what the lines of a lawful transcript are
pub transcript_served : (set : Setting) (reserved : List ℕ) (stop : Option Stop) (parts : List Part) (records : List PartRecord) → IsLawful set reserved stop parts records
    → AreServed set [] (lines_of records)
transcript_served set reserved stop parts records (end, leads) = parts_served set stop (beginning set.rows reserved) parts records end leads

-- ---- from part to part

-- each vector of a subscriber was released once so far, and its number is at most the word at which the next round opens
-- the subscriber
record AreApart (top sub : ℕ) (early : List LineRecord) (opening : ℕ) : Type 0 where
  once : (n : ℕ) → times n (numbers_of sub early) ≤ 1
  below : (n : ℕ) → 1 ≤ times n (numbers_of sub early) → (n ≤ opening) × (n ≤ top)

-- no number is counted twice in a range, and what is counted is in it
range_once : (often n low high : ℕ) → often ≤ (if nat_lt low n && nat_le n high then 1 else 0) → often ≤ 1
range_once often n low high = grind (arith, nat_tests)

in_range : (often n low high : ℕ) → 1 ≤ often → often ≤ (if nat_lt low n && nat_le n high then 1 else 0) → (low < n) × (n ≤ high)
in_range often n low high = grind (arith, nat_tests)

-- a number that a round releases stands once among those that it covers
round_counts : (sub opening closing n : ℕ) (round : RoundRecord) → ((n : ℕ) → times n (covered (entries_of sub round)) ≡ (if nat_lt opening n && nat_le n closing then 1 else 0))
    → times n (numbers_of sub (all_lines round.jobs)) ≤ (if nat_lt opening n && nat_le n closing then 1 else 0)
round_counts sub opening closing n round covers =
    let first = round_drawn n sub round in
    let second = times-drawn n (entries_of sub round) in
    let third = covers n in
    omega (arith, first, second, third)

-- it is above the round's opening and at most its closing
pub round_between : (sub opening closing n : ℕ) (round : RoundRecord) → ((n : ℕ) → times n (covered (entries_of sub round)) ≡ (if nat_lt opening n && nat_le n closing then 1 else 0))
    → 1 ≤ times n (numbers_of sub (all_lines round.jobs)) → (opening < n) × (n ≤ closing)
round_between sub opening closing n round covers some =
    in_range (times n (numbers_of sub (all_lines round.jobs))) n opening closing some (round_counts sub opening closing n round covers)

-- it is so after a round
apart_round : (top sub opening closing next : ℕ) (early : List LineRecord) (round : RoundRecord) → next ≡ min top closing → opening ≤ closing
    → ((n : ℕ) → times n (covered (entries_of sub round)) ≡ (if nat_lt opening n && nat_le n closing then 1 else 0))
    → All (λ n. n ≤ top) (numbers_of sub (all_lines round.jobs)) → AreApart top sub early opening → AreApart top sub (early ++ all_lines round.jobs) next
apart_round top sub opening closing next early round again forward covers within are = record {
  once = λ n.
      let cut = times-numbers-append n sub early (all_lines round.jobs) in
      let here = round_counts sub opening closing n round covers in
      let one = range_once (times n (numbers_of sub (all_lines round.jobs))) n opening closing here in
      let before = are.once n in
      elim (cases_lt 0 (times n (numbers_of sub (all_lines round.jobs)))) [
        | inl some ↦ (let (up, down) = round_between sub opening closing n round covers some in
            elim (cases_lt 0 (times n (numbers_of sub early))) [
              | inl twice ↦ absurd (let (low, few) = are.below n twice in omega arith)
              | inr none ↦ omega (arith, cut, one, none)
            ])
        | inr none ↦ omega (arith, cut, before, none)
      ];
  below = λ n some.
      let cut = times-numbers-append n sub early (all_lines round.jobs) in
      elim (cases_lt 0 (times n (numbers_of sub (all_lines round.jobs)))) [
        | inl here ↦ (let (up, down) = round_between sub opening closing n round covers here in
            let few = All-times (λ m. m ≤ top) n (numbers_of sub (all_lines round.jobs)) within here in (omega (arith, again, down, few), few))
        | inr none ↦ (let (low, few) = are.below n (omega (arith, cut, none, some)) in (omega (arith, again, low, few, forward), few))
      ];
}

-- it is so after a restart
apart_restart : (top sub opening next : ℕ) (early : List LineRecord) → ((n : ℕ) → n ≤ top → 1 ≤ times n (numbers_of sub early) → n ≤ next) → AreApart top sub early opening
    → AreApart top sub early next
apart_restart top sub opening next early above are = record { once = are.once; below = λ n some. let (low, few) = are.below n some in (above n few some, few) }

-- it is so at the end
parts_apart : (set : Setting) (stop : Option Stop) (sub : ℕ) (at : Course) (parts : List Part) (records : List PartRecord) (end : Course) → sub < length set.rows
    → length at.openings ≡ length set.rows → AreApart (top_at set.rows sub) sub at.early (get_or at.openings sub 0) → Leads set stop at parts records end
    → (n : ℕ) → times n (numbers_of sub (at.early ++ lines_of records)) ≤ 1
parts_apart set stop sub at [] records end inside sizes are (nothing, stands) n =
    let all : (at.early ++ lines_of records) ≡ at.early = ap (λ (rs : List PartRecord). at.early ++ lines_of rs) nothing ∙ append-nil at.early in
    let same = ap (λ (ls : List LineRecord). times n (numbers_of sub ls)) all in
    let one = are.once n in omega (arith, same, one)
parts_apart set stop sub at (part ∷ parts) [] end inside sizes are leads n = absurd leads
parts_apart set stop sub at (Round jobs ∷ parts) (record_of.Round round ∷ records) end inside sizes are (next, serves, rest) n =
    let words = serves.words in
    let more = subst (λ (c : Course). Leads set stop c parts records end) serves.leads rest in
    let same = serves.lawful.sizes in
    let splits = serves.lawful.split sub (omega (arith, inside, sizes)) in
    let within = numbers_within set sub at.early (all_lines round.jobs) (round_served set at.early at.kept jobs round.jobs serves.lawful.nets serves.lawful.given) in
    let here = apart_round (top_at set.rows sub) sub (get_or at.openings sub 0) (get_or words sub 0) (get_or (reopened set.rows words) sub 0) at.early round
    (get_or-reopened set.rows words sub inside (omega (arith, same, sizes, inside))) splits.forward splits.once within are in
    let further = parts_apart set stop sub (after_round set.rows at round words serves.lawful.nets) parts records end inside (length-reopened set.rows words) here more n in
    subst (λ (ls : List LineRecord). times n (numbers_of sub ls) ≤ 1) (append_assoc at.early (all_lines round.jobs) (lines_of records)) further
parts_apart set stop sub at (Round jobs ∷ parts) (record_of.Restart ∷ records) end inside sizes are (next, serves, rest) n = absurd serves
parts_apart set stop sub at (Restart ∷ parts) (record_of.Round round ∷ records) end inside sizes are (next, serves, rest) n = absurd serves
parts_apart set stop sub at (Restart ∷ parts) (record_of.Restart ∷ records) end inside sizes are (next, restarts, rest) n =
    let limits = restarts.limits in
    let more = subst (λ (c : Course). Leads set stop c parts records end) restarts.leads rest in
    let here = apart_restart (top_at set.rows sub) sub (get_or at.openings sub 0) (get_or (opened set.rows limits) sub 0) at.early
    (λ m within some.
    let low = All-times (λ (k : ℕ). k ≤ get_or limits sub 0) m (numbers_of sub at.early) (restarts.raises.released sub inside) some in
    let high = opened_above set.rows limits sub inside in omega (arith, low, within, high))
    are in
    parts_apart set stop sub (after_restart set.rows at limits) parts records end inside (length-opened set.rows limits) here more n

-- each vector of a subscriber is released once
pub released_once : (set : Setting) (reserved : List ℕ) (stop : Option Stop) (parts : List Part) (records : List PartRecord) (sub : ℕ) → IsLawful set reserved stop parts records
    → sub < length set.rows → (n : ℕ) → times n (numbers_of sub (lines_of records)) ≤ 1
released_once set reserved stop parts records sub lawful inside =
    let none : AreApart (top_at set.rows sub) sub [] (get_or (opened set.rows reserved) sub 0) = record { once = λ n. omega arith; below = λ n some. absurd (omega (arith, some)) } in
    parts_apart set stop sub (beginning set.rows reserved) parts records lawful.0 inside (length-opened set.rows reserved) none lawful.1

-- the numbers of all vectors of a row are numbers that they may have
pub row_within : (rows : List Row) (sub : ℕ) (row : Row) (numbers : List ℕ) → slice_get rows sub ≡ Some row → All (λ n. n ≤ top_at rows sub) numbers → All (λ n. n ≤ top_of row.bits) numbers
row_within rows sub row numbers there within = subst (λ (top : ℕ). All (λ n. n ≤ top) numbers) (top_at-row rows sub row there) within

-- a row of subscribers
pub row_is : (rows : List Row) (sub : ℕ) (row : Row) → AreSubscribers rows → slice_get rows sub ≡ Some row → IsRow row
row_is rows sub row are there = subst IsRow (get_or_from_slice_get rows sub row row there) (are.each sub row (slice_get_within rows sub row there))

-- no vector of a subscriber comes twice
pub keeps_numbers_apart : EachTranscriptKeepsNumbersApart
keeps_numbers_apart set reserved stop parts records are lawful sub row there =
    let inside = slice_get_within set.rows sub row there in
    let within = numbers_within set sub [] (lines_of records) (transcript_served set reserved stop parts records lawful) in
    sqns_differ row.bits (numbers_of sub (lines_of records)) (row_is set.rows sub row are there).few (row_within set.rows sub row (numbers_of sub (lines_of records)) there within)
    (differ_from_times (numbers_of sub (lines_of records)) (released_once set reserved stop parts records sub lawful inside))
