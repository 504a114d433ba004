-- For a round with a journal: the stop that its lines tell, and the number that they withhold for it.
use Rattle.std.proofs.Common.{◌≡◌, ◌⊎◌, ℕ, zero, suc, ◌<◌, Bool, true, false, List, [], ◌∷◌, ◌++◌, length, map, All, Contains, arith, refl, sym, ap, ◌∙◌, subst, inl, inr, eq-eqb}
use Rattle.std.specs.Prelude.{◌↔◌, ◌||◌, Option, Some, None, if◌then◌else◌}
use Rattle.std.specs.List.{list_any}
use Rattle.std.proofs.lemmas.Grind.{flat_map-append}
use Rattle.std.proofs.lemmas.List.Elements.{All-head, All-tail, All-contains, Contains-append_cases, Contains-append_left, Contains-append_right}
use Rattle.std.proofs.lemmas.List.Folds.{list_any-append}
use Rattle.auc_memory.specs.declared.stop.Stop.{Stop}
use Rattle.auc_memory.specs.declared.stop.Stop.TheVariants.{Fault, Full}
use Rattle.auc_history.specs.declared.entry.Entry.{Entry}
use Rattle.auc_history.specs.History.{drawn, drawn_by}
use Rattle.auc_history.specs.Split.{all_entries}
use Rattle.auc_lines.specs.Part.{is_that}
use Rattle.auc_subs.specs.declared.row.Row.{Row}
use Rattle.auc_vector.specs.Notes.{withheld_noted}
use Rattle.auc_vector.specs.declared.notes.NumberNote.{NumberNote}
use Rattle.auc_vector.specs.declared.notes.NumberNote.TheVariants as number
use Rattle.auc_record.specs.Entries.{entries_of_jobs, entries_of_line, entries_of_lines, entries_of_number, entries_of_resync}
use Rattle.auc_record.specs.Lines.{all_lines, held_by, held_of, number_by, number_said, resync_by}
use Rattle.auc_world.specs.Round.{Withholds}
use Rattle.auc_record.specs.declared.record.LineRecord.{LineRecord}
use Rattle.auc_record.proofs.Facts.{none_held}
use Rattle.auc_jobs.specs.InnerKeeping.{is_withheld, told_stop, withholds}
use Rattle.auc_jobs.specs.InnerRound.{HoldsFull}
use Rattle.auc_jobs.proofs.EventLemmas.{IsOwnAnswer}
use Rattle.auc_jobs.proofs.LimitLemmas.{AreLimited}
use Rattle.auc_jobs.proofs.LineLemmas.{held_of-append}
use Rattle.auc_jobs.proofs.TellingLemmas.{IsOwn, asked_by, number_by_is}

-- ---- whether some line withholds a number

-- the lines of all jobs
any_line : (records : List (List LineRecord)) → list_any (list_any withholds) records ≡ list_any withholds (all_lines records)
any_line [] = refl
any_line (job ∷ records) = ap (λ (b : Bool). list_any withholds job || b) (any_line records) ∙ sym (list_any-append withholds job (all_lines records))

neither : (a b : Bool) → (a || b) ≡ false → (a ≡ false) × (b ≡ false)
neither true b none = cc
neither false b none = (refl, none)

either : (a b : Bool) → (a || b) ≡ true → (a ≡ true) ⊎ (b ≡ true)
either true b some = inl refl
either false b some = inr some

-- if none does, nothing is withheld
line_free : (sub : ℕ) (line : LineRecord) → withholds line ≡ false → held_by sub line ≡ []
line_free sub line none = ap withheld_noted (number_by_is sub line) ∙ by (is_that sub (asked_by line)) (number_said line) none
  where
    by : (b : Bool) (said : Option NumberNote) → is_withheld said ≡ false → withheld_noted (if b then said else None) ≡ []
    by false said none = refl
    by true None none = refl
    by true (Some (number.Drew n)) none = refl
    by true (Some (number.Exhausted word)) none = refl
    by true (Some (number.Withheld n stop)) none = cc

lines_free : (sub : ℕ) (lines : List LineRecord) → list_any withholds lines ≡ false → held_of sub lines ≡ []
lines_free sub [] none = refl
lines_free sub (line ∷ lines) none =
    let both = neither (withholds line) (list_any withholds lines) none in
    ap (λ (hs : List (ℕ × Stop)). hs ++ held_of sub lines) (line_free sub line both.0) ∙ lines_free sub lines both.1

-- a number is withheld for a cause
abbrev Has : List (ℕ × Stop) → ℕ → Stop → Type 0
Has held n stop = Contains held (n, stop)

-- if one does, a number of a subscriber is withheld
abbrev Holds : List Row → List LineRecord → Type 0
Holds rows lines = (sub : ℕ) × (sub < length rows) × (number : ℕ) × (stop : Stop) × Has (held_of sub lines) number stop

abbrev HoldsOne : List Row → LineRecord → Type 0
HoldsOne rows line = (sub : ℕ) × (sub < length rows) × (number : ℕ) × (stop : Stop) × Has (held_by sub line) number stop

abbrev HoldsNote : List Row → Option ℕ → Option NumberNote → Type 0
HoldsNote rows a note = (sub : ℕ) × (sub < length rows) × (number : ℕ) × (stop : Stop) × Has (withheld_noted (if is_that sub a then note else None)) number stop

one : (n : ℕ) (stop : Stop) → Has ((n, stop) ∷ []) n stop
one n stop = (0, omega arith, refl)

line_holds : (rows : List Row) (line : LineRecord) → IsOwn rows line → withholds line ≡ true → HoldsOne rows line
line_holds rows line own some =
    let (sub, known, n, stop, has) = of_answer (asked_by line) (number_said line) own some in
    (sub, known, n, stop, subst (λ (o : Option NumberNote). Has (withheld_noted o) n stop) (sym (number_by_is sub line)) has)
  where
    of_number : (s : ℕ) → s < length rows → (note : Option NumberNote) → is_withheld note ≡ true → HoldsNote rows (Some s) note
    of_number s known None some = cc
    of_number s known (Some (number.Drew n)) some = cc
    of_number s known (Some (number.Exhausted word)) some = cc
    of_number s known (Some (number.Withheld n stop)) some =
        (s, known, n, stop, subst (λ (b : Bool). Has (withheld_noted (if b then Some (number.Withheld n stop) else None)) n stop) (sym (eq-eqb s s refl)) (one n stop))

    of_answer : (a : Option ℕ) (note : Option NumberNote) → IsOwnAnswer rows a note → is_withheld note ≡ true → HoldsNote rows a note
    of_answer None said own some = let no : is_withheld said ≡ false = ap is_withheld own in let bad : ⊥ = cc in absurd bad
    of_answer (Some s) said own some = of_number s own.0 said some

lines_hold : (rows : List Row) (lines : List LineRecord) → All (IsOwn rows) lines → list_any withholds lines ≡ true → Holds rows lines
lines_hold rows [] own some = cc
lines_hold rows (line ∷ lines) own some = by (λ later. lines_hold rows lines (All-tail (IsOwn rows) line lines own) later) (either (withholds line) (list_any withholds lines) some)
  where
    by : (list_any withholds lines ≡ true → Holds rows lines) → (withholds line ≡ true) ⊎ (list_any withholds lines ≡ true) → Holds rows (line ∷ lines)
    by rest (inl here) =
        let (sub, known, n, stop, has) = line_holds rows line (All-head (IsOwn rows) line lines own) here in
        (sub, known, n, stop, Contains-append_left (held_by sub line) (held_of sub lines) (n, stop) has)
    by rest (inr later) =
        let (sub, known, n, stop, has) = rest later in
        (sub, known, n, stop, Contains-append_right (held_by sub line) (held_of sub lines) (n, stop) has)

-- ---- the stop that is told

-- it is the keeper's, or the journal is full and nothing is withheld
tells : (b : Bool) → (if b then Some Full else None) ≡ Some Full → b ≡ true
tells true told = refl
tells false told = cc

pub withholds_told : (stop : Option Stop) (records : List (List LineRecord)) → Withholds stop (all_lines records) → Withholds (told_stop stop records) (all_lines records)
withholds_told None records held = held
withholds_told (Some Fault) records held = held
withholds_told (Some Full) records held = by (list_any (list_any withholds) records) refl
  where
    by : (b : Bool) → list_any (list_any withholds) records ≡ b → Withholds (if b then Some Full else None) (all_lines records)
    by true is = held
    by false is = λ sub. none_held sub (all_lines records) (lines_free sub (all_lines records) (sym (any_line records) ∙ is))

-- a fault is told exactly if there is one
pub fault_told : (stop : Option Stop) (records : List (List LineRecord)) → (told_stop stop records ≡ Some Fault) ↔ (stop ≡ Some Fault)
fault_told None records = (λ told. told, λ is. is)
fault_told (Some Fault) records = (λ told. told, λ is. is)
fault_told (Some Full) records = (λ told. absurd (apart (list_any (list_any withholds) records) told), λ is. let bad : ⊥ = cc in absurd bad)
  where
    apart : (b : Bool) → (if b then Some Full else None) ≡ Some Fault → ⊥
    apart true same = cc
    apart false same = cc

-- that the journal is full is told only if it is
pub full_told : (stop : Option Stop) (records : List (List LineRecord)) → told_stop stop records ≡ Some Full → stop ≡ Some Full
full_told None records told = told
full_told (Some Fault) records told = told
full_told (Some Full) records told = refl

-- and only if a number is withheld for it
pub full_holds : (stop : Option Stop) (rows : List Row) (records : List (List LineRecord)) (limit : ℕ → ℕ) → All (IsOwn rows) (all_lines records)
    → ((sub : ℕ) → sub < length rows → AreLimited sub (limit sub) stop (all_lines records)) → told_stop stop records ≡ Some Full → HoldsFull (length rows) (all_lines records)
full_holds None rows records limit own limited told = let bad : ⊥ = cc in absurd bad
full_holds (Some Fault) rows records limit own limited told = let bad : ⊥ = cc in absurd bad
full_holds (Some Full) rows records limit own limited told =
    let some = tells (list_any (list_any withholds) records) told in
    let (sub, known, n, stop, has) = lines_hold rows (all_lines records) own (sym (any_line records) ∙ some) in
    let cause = All-contains (λ held. (limit sub < held.0) × (Some Full ≡ Some held.1)) (held_of sub (all_lines records)) (n, stop) (limited sub known).withholds has in
    (sub, known, n, subst (λ (s : Stop). Contains (held_of sub (all_lines records)) (n, s)) (same stop Full cause.1) has)
  where
    same : (a b : Stop) → Some b ≡ Some a → a ≡ b
    same a b e = cc

-- a number that is withheld for a cause is withheld
pub number_held : (held : List (ℕ × Stop)) (n : ℕ) (stop : Stop) → Contains held (n, stop) → Contains (map (λ (h : ℕ × Stop). h.0) held) n
number_held [] n stop (k, within, at) = absurd (omega (arith, within))
number_held (h ∷ held) n stop (zero, within, at) = (0, omega arith, ap (λ (h : ℕ × Stop). h.0) at)
number_held (h ∷ held) n stop (suc k, within, at) =
    Contains-append_right (h.0 ∷ []) (map (λ (h : ℕ × Stop). h.0) held) n (number_held held n stop (k, omega (arith, within), at))

-- ---- a number that is withheld was drawn

empty : {X : Type 0} {P : Type 0} (x : X) → Contains [] x → P
empty x (k, within, at) = absurd (omega (arith, within))

only : (m n : ℕ) (cause stop : Stop) → Has ((m, cause) ∷ []) n stop → Contains (m ∷ []) n
only m n cause stop (zero, within, at) = (0, omega arith, ap (λ (h : ℕ × Stop). h.0) at)
only m n cause stop (suc k, within, at) = absurd (omega (arith, within))

line_drawn : (sub : ℕ) (before : List LineRecord) (line : LineRecord) (n : ℕ) (stop : Stop) → Contains (held_by sub line) (n, stop) → Contains (drawn (entries_of_line sub before line)) n
line_drawn sub before line n stop has =
    let front = entries_of_resync sub before (resync_by sub line) in
    let back = entries_of_number sub before (number_by sub line) in
    subst (λ (ns : List ℕ). Contains ns n) (sym (flat_map-append drawn_by front back)) (Contains-append_right (drawn front) (drawn back) n (by (number_by sub line) has))
  where
    by : (note : Option NumberNote) → Contains (withheld_noted note) (n, stop) → Contains (drawn (entries_of_number sub before note)) n
    by None has = empty (n, stop) has
    by (Some (number.Drew m)) has = empty (n, stop) has
    by (Some (number.Exhausted word)) has = empty (n, stop) has
    by (Some (number.Withheld m cause)) has = only m n cause stop has

-- what two lists of entries drew
drawn_both : (front back : List Entry) (n : ℕ) → Contains (drawn front) n ⊎ Contains (drawn back) n → Contains (drawn (front ++ back)) n
drawn_both front back n has = subst (λ (ns : List ℕ). Contains ns n) (sym (flat_map-append drawn_by front back)) (by has)
  where
    by : Contains (drawn front) n ⊎ Contains (drawn back) n → Contains (drawn front ++ drawn back) n
    by (inl first) = Contains-append_left (drawn front) (drawn back) n first
    by (inr second) = Contains-append_right (drawn front) (drawn back) n second

lines_drawn : (sub : ℕ) (before lines : List LineRecord) (n : ℕ) (stop : Stop) → Contains (held_of sub lines) (n, stop) → Contains (drawn (entries_of_lines sub before lines)) n
lines_drawn sub before [] n stop has = empty (n, stop) has
lines_drawn sub before (line ∷ lines) n stop has =
    drawn_both (entries_of_line sub before line) (entries_of_lines sub (before ++ line ∷ []) lines) n
    (by (λ later. lines_drawn sub (before ++ line ∷ []) lines n stop later) (Contains-append_cases (held_by sub line) (held_of sub lines) (n, stop) has))
  where
    by : (Has (held_of sub lines) n stop → Contains (drawn (entries_of_lines sub (before ++ line ∷ []) lines)) n) → Has (held_by sub line) n stop ⊎ Has (held_of sub lines) n stop
        → Contains (drawn (entries_of_line sub before line)) n ⊎ Contains (drawn (entries_of_lines sub (before ++ line ∷ []) lines)) n
    by rest (inl here) = inl (line_drawn sub before line n stop here)
    by rest (inr later) = inr (rest later)

pub jobs_drawn : (sub : ℕ) (before : List LineRecord) (jobs : List (List LineRecord)) (n : ℕ) (stop : Stop) → Contains (held_of sub (all_lines jobs)) (n, stop)
    → Contains (drawn (all_entries (entries_of_jobs sub before jobs))) n
jobs_drawn sub before [] n stop has = empty (n, stop) has
jobs_drawn sub before (job ∷ jobs) n stop has =
    drawn_both (entries_of_lines sub before job) (all_entries (entries_of_jobs sub (before ++ job) jobs)) n
    (by (λ later. jobs_drawn sub (before ++ job) jobs n stop later) (Contains-append_cases (held_of sub job) (held_of sub (all_lines jobs)) (n, stop)
    (subst (λ (hs : List (ℕ × Stop)). Contains hs (n, stop)) (held_of-append sub job (all_lines jobs)) has)))
  where
    by : (Has (held_of sub (all_lines jobs)) n stop → Contains (drawn (all_entries (entries_of_jobs sub (before ++ job) jobs))) n) → Has (held_of sub job) n stop ⊎ Has (held_of sub (all_lines jobs)) n stop
        → Contains (drawn (entries_of_lines sub before job)) n ⊎ Contains (drawn (all_entries (entries_of_jobs sub (before ++ job) jobs))) n
    by rest (inl here) = inl (lines_drawn sub before job n stop here)
    by rest (inr later) = inr (rest later)
