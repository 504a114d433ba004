-- For a round with a journal: what its lines release and withhold, by the limits.
use Rattle.std.proofs.Common.{◌≡◌, ◌⊎◌, ℕ, zero, suc, ◌<◌, ◌≤◌, Bool, List, [], ◌∷◌, length, map, All, Option, Some, None, arith, refl, sym, subst, inl, inr, eq-eqb}
use Rattle.std.specs.Prelude.{if◌then◌else◌}
use Rattle.std.proofs.lemmas.List.Elements.{All-append, All-cons, All-head, All-map, All-nil, All-tail}
use Rattle.auc_memory.specs.declared.stop.Stop.{Stop}
use Rattle.auc_subs.specs.declared.row.Row.{Row}
use Rattle.auc_record.specs.declared.record.LineRecord.{LineRecord}
use Rattle.auc_record.specs.Lines.{number_said, numbers_of, withheld_of, held_by, held_of, all_lines}
use Rattle.auc_lines.specs.Part.{is_that}
use Rattle.auc_vector.specs.Notes.{withheld_noted}
use Rattle.auc_vector.specs.declared.notes.NumberNote.{NumberNote}
use Rattle.auc_vector.specs.declared.notes.NumberNote.TheVariants as number
use Rattle.auc_world.specs.Round.{NamesStop, NotesStop, Withholds}
use Rattle.auc_record.proofs.Facts.{none_held, withheld_of-held_of}
use Rattle.auc_jobs.specs.declared.claiming.ClaimedJob.{ClaimedJob}
use Rattle.auc_jobs.proofs.LineLemmas.{held_of-append, numbers_of-append}
use Rattle.auc_jobs.proofs.EventLemmas.{IsOwnAnswer}
use Rattle.auc_jobs.proofs.OrderLemmas.{all_back, all_front}
use Rattle.auc_jobs.proofs.TellingLemmas.{IsOwn, asked_by, held_beyond, number_by_is}

-- what some lines release of a subscriber is within its limit, and what they withhold is above it and has the cause of the
-- stop
pub record AreLimited (sub limit : ℕ) (stop : Option Stop) (lines : List LineRecord) : Type 0 where
  pub releases : All (λ n. n ≤ limit) (numbers_of sub lines)
  pub withholds : All (λ held. (limit < held.0) × (stop ≡ Some held.1)) (held_of sub lines)

-- ---- the lines of jobs, one job after the other

-- what holds of each job's lines holds of all
pub flat_lines : (P : LineRecord → Type 0) (jobs : List ClaimedJob) → All (λ c. All P c.served.lines) jobs → All P (all_lines (map (λ c. c.served.lines) jobs))
flat_lines P [] each = All-nil P
flat_lines P (c ∷ jobs) each =
    All-append P c.served.lines (all_lines (map (λ c. c.served.lines) jobs)) (All-head (λ c. All P c.served.lines) c jobs each)
    (flat_lines P jobs (All-tail (λ c. All P c.served.lines) c jobs each))

pub flat_limited : (sub limit : ℕ) (stop : Option Stop) (jobs : List ClaimedJob) → All (λ c. AreLimited sub limit stop c.served.lines) jobs
    → AreLimited sub limit stop (all_lines (map (λ c. c.served.lines) jobs))
flat_limited sub limit stop [] each = record { releases = All-nil (λ n. n ≤ limit); withholds = All-nil (λ held. (limit < held.0) × (stop ≡ Some held.1)) }
flat_limited sub limit stop (c ∷ jobs) each =
    let here = All-head (λ c. AreLimited sub limit stop c.served.lines) c jobs each in
    let rest = flat_limited sub limit stop jobs (All-tail (λ c. AreLimited sub limit stop c.served.lines) c jobs each) in
    let lines = all_lines (map (λ (b : ClaimedJob). b.served.lines) jobs) in
    record {
      releases = subst (All (λ n. n ≤ limit)) (sym (numbers_of-append sub c.served.lines lines))
          (All-append (λ n. n ≤ limit) (numbers_of sub c.served.lines) (numbers_of sub lines) here.releases rest.releases);
      withholds = subst (All (λ held. (limit < held.0) × (stop ≡ Some held.1))) (sym (held_of-append sub c.served.lines lines))
          (All-append (λ held. (limit < held.0) × (stop ≡ Some held.1)) (held_of sub c.served.lines) (held_of sub lines) here.withholds rest.withholds);
    }

-- ---- what is withheld

-- what some lines withhold of a subscriber is above its limit
pub above_limit : (sub limit : ℕ) (stop : Option Stop) (lines : List LineRecord) → AreLimited sub limit stop lines → All (λ n. limit < n) (withheld_of sub lines)
above_limit sub limit stop lines limited =
    subst (All (λ n. limit < n)) (sym (withheld_of-held_of sub lines))
    (All-map (λ n. limit < n) (λ (h : ℕ × Stop). h.0) (held_of sub lines) (λ k h within. (limited.withholds k h within).0))

-- each number is on one side of a count
side : (sub count : ℕ) → (sub < count) ⊎ (count ≤ sub)
side sub zero = inr (omega arith)
side zero (suc count) = inl (omega arith)
side (suc sub) (suc count) = by (side sub count)
  where
    by : (sub < count) ⊎ (count ≤ sub) → (suc sub < suc count) ⊎ (suc count ≤ suc sub)
    by (inl low) = inl (omega (arith, low))
    by (inr high) = inr (omega (arith, high))

-- nothing is withheld without a stop
none_stopped : (limit : ℕ) (held : List (ℕ × Stop)) → All (λ h. (limit < h.0) × (◌≡◌ {A = Option Stop} None (Some h.1))) held → held ≡ []
none_stopped limit [] each = refl
none_stopped limit (h ∷ held) each = let first = All-head (λ h. (limit < h.0) × (◌≡◌ {A = Option Stop} None (Some h.1))) h held each in let none = first.1 in let bad : ⊥ = cc in absurd bad

some_same : (a b : Stop) → Some a ≡ Some b → b ≡ a
some_same a b e = cc

-- each line that withholds names the stop
names : (stop : Stop) (rows : List Row) (lines : List LineRecord) (limit : ℕ → ℕ) → All (IsOwn rows) lines
    → ((sub : ℕ) → sub < length rows → All (λ h. (limit sub < h.0) × (Some stop ≡ Some h.1)) (held_of sub lines)) → All (NamesStop stop) lines
names stop rows [] limit own held = All-nil (NamesStop stop)
names stop rows (line ∷ lines) limit own held =
    All-cons (NamesStop stop) line lines
    (of_answer (asked_by line) (number_said line) (All-head (IsOwn rows) line lines own)
    (λ sub known. subst (λ (o : Option NumberNote). All (IsFor sub) (withheld_noted o)) (number_by_is sub line) (all_front (IsFor sub) (held_by sub line) (held_of sub lines) (held sub known))))
    (names stop rows lines limit (All-tail (IsOwn rows) line lines own)
    (λ sub known. all_back (IsFor sub) (held_by sub line) (held_of sub lines) (held sub known)))
  where
    -- a number is withheld above the limit, for the cause of the stop
    IsFor : ℕ → ℕ × Stop → Type 0
    IsFor sub h = (limit sub < h.0) × (Some stop ≡ Some h.1)

    of_number : (s : ℕ) (o : Option NumberNote) → All (IsFor s) (withheld_noted o) → NotesStop stop o
    of_number s None each = tt
    of_number s (Some (number.Drew n)) each = tt
    of_number s (Some (number.Exhausted word)) each = tt
    of_number s (Some (number.Withheld n cause)) each = some_same stop cause (All-head (IsFor s) (n, cause) [] each).1

    of_answer : (a : Option ℕ) (o : Option NumberNote) → IsOwnAnswer rows a o → ((sub : ℕ) → sub < length rows → All (IsFor sub) (withheld_noted (if is_that sub a then o else None))) → NotesStop stop o
    of_answer None o own each = subst (NotesStop stop) (sym own) tt
    of_answer (Some s) o own each = of_number s o (subst (λ (b : Bool). All (IsFor s) (withheld_noted (if b then o else None))) (eq-eqb s s refl) (each s own.0))

-- what some lines withhold, if what they name is so by the limits
pub withholds_by : (stop : Option Stop) (rows : List Row) (lines : List LineRecord) (limit : ℕ → ℕ) → All (IsOwn rows) lines → ((sub : ℕ) → sub < length rows → AreLimited sub (limit sub) stop lines) → Withholds stop lines
withholds_by None rows lines limit own limited = λ sub. none_held sub lines (by sub (side sub (length rows)))
  where
    by : (sub : ℕ) → (sub < length rows) ⊎ (length rows ≤ sub) → held_of sub lines ≡ []
    by sub (inl known) = none_stopped (limit sub) (held_of sub lines) (limited sub known).withholds
    by sub (inr high) = held_beyond rows sub lines high own
withholds_by (Some stop) rows lines limit own limited = record {
  causes = names stop rows lines limit own (λ sub known. (limited sub known).withholds);
  above = λ sub. by sub (side sub (length rows));
}
  where
    by : (sub : ℕ) → (sub < length rows) ⊎ (length rows ≤ sub) → All (λ m. All (λ n. n < m) (numbers_of sub lines)) (withheld_of sub lines)
    by sub (inl known) =
        subst (All (λ m. All (λ n. n < m) (numbers_of sub lines))) (sym (withheld_of-held_of sub lines))
        (All-map (λ m. All (λ n. n < m) (numbers_of sub lines)) (λ (h : ℕ × Stop). h.0) (held_of sub lines)
        (λ k h within. λ i n inside. let high = (limited sub known).withholds k h within in let low = (limited sub known).releases i n inside in omega (arith, low, high.0)))
    by sub (inr high) =
        subst (All (λ m. All (λ n. n < m) (numbers_of sub lines))) (sym (none_held sub lines (held_beyond rows sub lines high own))) (All-nil (λ m. All (λ n. n < m) (numbers_of sub lines)))
