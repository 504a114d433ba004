-- For the law of leases: the numbers that a job releases for a subscriber rise, since its entries are a part of a history.
use Rattle.std.proofs.Common.{◌≡◌, ℕ, zero, ◌<◌, List, [], ◌∷◌, ◌++◌, length, get_or, All, Contains, Option, Some, None, refl, sym, subst, arith}
use Rattle.std.proofs.lemmas.List.Elements.{All-append, All-cons, All-head, All-nil, All-tail, Contains-append_left, Contains-append_right}
use Rattle.auc_memory.specs.declared.stop.Stop.{Stop}
use Rattle.auc_history.specs.History.{IsBefore, IsInOrder}
use Rattle.auc_history.specs.declared.entry.Entry.{Entry}
use Rattle.auc_history.specs.declared.entry.Entry.TheVariants.{Drawn}
use Rattle.auc_history.proofs.Facts.{AllPairs-cons}
use Rattle.auc_lines.specs.declared.part.Part.{Part}
use Rattle.auc_lines.specs.declared.part.Part.TheVariants.{Round, Restart}
use Rattle.auc_sites.specs.Lease.{IsRising}
use Rattle.auc_vector.specs.declared.notes.NumberNote.{NumberNote}
use Rattle.auc_vector.specs.declared.notes.NumberNote.TheVariants as number
use Rattle.auc_record.specs.Entries.{entries_of_jobs, entries_of_line, entries_of_lines, entries_of_number, entries_of_resync}
use Rattle.auc_record.specs.Event.{number_released}
use Rattle.auc_record.specs.Lines.{number_by, numbers_of, released_by, resync_by}
use Rattle.auc_subs.specs.Setting.{Setting}
use Rattle.auc_world.specs.Transcript.{Course, IsLawful, Leads, after_restart, after_round, beginning}
use Rattle.auc_record.specs.declared.record.LineRecord.{LineRecord}
use Rattle.auc_record.specs.declared.record.PartRecord.{PartRecord}
use Rattle.auc_record.specs.declared.record.PartRecord.TheVariants as record_of
use Rattle.auc_world.proofs.Facts.{length-opened}
use Rattle.auc_record.proofs.Facts.{length-reopened}
use Rattle.auc_transcript.proofs.ListLemmas.{AllPairs-right, all_of, pairs_across, pairs_join}

-- ---- numbers, and the entries in which they were drawn

-- numbers rise, and some entries drew each of them
pub record Rise (numbers : List ℕ) (entries : List Entry) : Type 0 where
  pub rising : IsRising numbers
  pub drawn : All (λ n. Contains entries (Drawn n)) numbers

nothing_rises : (entries : List Entry) → Rise [] entries
nothing_rises entries = record { rising = λ i j d i<j j<n. absurd (omega arith); drawn = All-nil (λ n. Contains entries (Drawn n)) }

one_rises : (n : ℕ) (entries : List Entry) → Contains entries (Drawn n) → Rise (n ∷ []) entries
one_rises n entries there = record {
  rising = AllPairs-cons ◌<◌ n [] (All-nil (λ m. n < m)) (λ i j d i<j j<n. absurd (omega arith));
  drawn = All-cons (λ m. Contains entries (Drawn m)) n [] there (All-nil (λ m. Contains entries (Drawn m)));
}

-- those of entries, and then those of others that continue them
more_rise : (xs ys : List ℕ) (es fs : List Entry) → IsInOrder (es ++ fs) → Rise xs es → Rise ys fs → Rise (xs ++ ys) (es ++ fs)
more_rise xs ys es fs order first rest = record {
  rising = pairs_join ◌<◌ xs ys first.rising rest.rising (λ k d inside i c within. below (get_or xs i c) (get_or ys k d) (first.drawn i c within) (rest.drawn k d inside));
  drawn = All-append (λ n. Contains (es ++ fs) (Drawn n)) xs ys
      (λ k d inside. Contains-append_left es fs (Drawn (get_or xs k d)) (first.drawn k d inside))
      (λ k d inside. Contains-append_right es fs (Drawn (get_or ys k d)) (rest.drawn k d inside));
}
  where
    below : (x y : ℕ) → Contains es (Drawn x) → Contains fs (Drawn y) → x < y
    below x y left right =
        all_of (λ e. IsBefore e (Drawn y)) es (Drawn x) (all_of (λ f. All (λ e. IsBefore e f) es) fs (Drawn y) (pairs_across IsBefore es fs order) right) left

-- ---- lines

line_rises : (sub : ℕ) (before : List LineRecord) (l : LineRecord) → Rise (released_by sub l) (entries_of_line sub before l)
line_rises sub before l = by (number_by sub l)
  where
    front : List Entry
    front = entries_of_resync sub before (resync_by sub l)

    by : (note : Option NumberNote) → Rise (number_released note) (front ++ entries_of_number sub before note)
    by None = nothing_rises (front ++ [])
    by (Some (number.Drew n)) = one_rises n (front ++ Drawn n ∷ []) (Contains-append_right front (Drawn n ∷ []) (Drawn n) (zero, omega arith, refl))
    by (Some (number.Exhausted word)) = nothing_rises (front ++ entries_of_number sub before (Some (number.Exhausted word)))
    by (Some (number.Withheld n stop)) = nothing_rises (front ++ Drawn n ∷ [])

lines_rise : (sub : ℕ) (before lines : List LineRecord) → IsInOrder (entries_of_lines sub before lines) → Rise (numbers_of sub lines) (entries_of_lines sub before lines)
lines_rise sub before [] order = nothing_rises []
lines_rise sub before (line ∷ lines) order =
    let rest = entries_of_lines sub (before ++ line ∷ []) lines in
    more_rise (released_by sub line) (numbers_of sub lines) (entries_of_line sub before line) rest order (line_rises sub before line)
    (lines_rise sub (before ++ line ∷ []) lines (AllPairs-right IsBefore (entries_of_line sub before line) rest order))

jobs_rise : (sub : ℕ) (before : List LineRecord) (jobs : List (List LineRecord)) → All IsInOrder (entries_of_jobs sub before jobs) → All (λ job. IsRising (numbers_of sub job)) jobs
jobs_rise sub before [] order = All-nil (λ job. IsRising (numbers_of sub job))
jobs_rise sub before (job ∷ jobs) order =
    let first = All-head IsInOrder (entries_of_lines sub before job) (entries_of_jobs sub (before ++ job) jobs) order in
    let rest = All-tail IsInOrder (entries_of_lines sub before job) (entries_of_jobs sub (before ++ job) jobs) order in
    All-cons (λ (own : List LineRecord). IsRising (numbers_of sub own)) job jobs (lines_rise sub before job first).rising (jobs_rise sub (before ++ job) jobs rest)

-- ---- transcripts

-- the numbers of each job of a part rise
abbrev pub JobsRise : ℕ → PartRecord → Type 0
JobsRise sub (record_of.Round round) = All (λ job. IsRising (numbers_of sub job)) round.jobs
JobsRise sub record_of.Restart = Unit {0}

parts_rise : (set : Setting) (stop : Option Stop) (sub : ℕ) (at : Course) (parts : List Part) (records : List PartRecord) (end : Course) → sub < length set.rows
    → length at.openings ≡ length set.rows → Leads set stop at parts records end → All (JobsRise sub) records
parts_rise set stop sub at [] records end inside sizes (nothing, stands) = subst (All (JobsRise sub)) (sym nothing) (All-nil (JobsRise sub))
parts_rise set stop sub at (part ∷ parts) [] end inside sizes leads = absurd leads
parts_rise set stop sub at (Round jobs ∷ parts) (record_of.Round round ∷ records) end inside sizes (next, serves, rest) =
    let words = serves.words in
    let more = subst (λ (c : Course). Leads set stop c parts records end) serves.leads rest in
    let same = serves.lawful.sizes in
    let splits = serves.lawful.split sub (omega (arith, inside, sizes)) in
    All-cons (JobsRise sub) (record_of.Round round) records (jobs_rise sub [] round.jobs splits.ordered)
    (parts_rise set stop sub (after_round set.rows at round words serves.lawful.nets) parts records end inside (length-reopened set.rows words) more)
parts_rise set stop sub at (Round jobs ∷ parts) (record_of.Restart ∷ records) end inside sizes (next, serves, rest) = absurd serves
parts_rise set stop sub at (Restart ∷ parts) (record_of.Round round ∷ records) end inside sizes (next, serves, rest) = absurd serves
parts_rise set stop sub at (Restart ∷ parts) (record_of.Restart ∷ records) end inside sizes (next, restarts, rest) =
    let more = subst (λ (c : Course). Leads set stop c parts records end) restarts.leads rest in
    All-cons (JobsRise sub) record_of.Restart records tt
    (parts_rise set stop sub (after_restart set.rows at restarts.limits) parts records end inside (length-opened set.rows restarts.limits) more)

-- the numbers of each job of a lawful transcript rise
pub transcript_rises : (set : Setting) (reserved : List ℕ) (stop : Option Stop) (parts : List Part) (records : List PartRecord) (sub : ℕ) → IsLawful set reserved stop parts records
    → sub < length set.rows → All (JobsRise sub) records
transcript_rises set reserved stop parts records sub (end, leads) inside =
    parts_rise set stop sub (beginning set.rows reserved) parts records end inside (length-opened set.rows reserved) leads
