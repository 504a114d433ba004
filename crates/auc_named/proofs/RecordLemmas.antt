-- What the lines of a round of some subscribers say of each of them, said of all.
use Rattle.std.proofs.Common.{◌≡◌, ℕ, ◌+◌, ◌<◌, ◌≢◌, ◌||◌, Bool, if◌then◌else◌, List, [], ◌∷◌, ◌++◌, length, map, flat_map, All, AllPairs, slice_index, Option, Some, None, refl, sym, ap, ◌∙◌}
use Rattle.std.proofs.lemmas.List.{map-append}
use Rattle.std.proofs.lemmas.List.Elements.{All-append, All-cons, All-head, All-nil, All-tail}
use Rattle.auc_history.specs.History.{drawn}
use Rattle.auc_history.specs.Split.{all_entries}
use Rattle.auc_history.specs.declared.entry.Entry.{Entry}
use Rattle.auc_history.specs.declared.entry.Entry.TheVariants.{Drawn, Look}
use Rattle.auc_named.specs.Named.{record_of, records_of}
use Rattle.auc_record.specs.Entries.{entries_of_jobs, entries_of_line, entries_of_lines, entries_of_number, entries_of_resync, is_reported, reports}
use Rattle.auc_record.specs.Event.{is_exhausted, number_released, number_withheld}
use Rattle.auc_record.specs.Lines.{all_lines, held_of, number_by, numbers_of, resync_by, withheld_of}
use Rattle.auc_record.specs.declared.record.LineRecord.{LineRecord}
use Rattle.auc_record.specs.declared.record.LineRecord.TheVariants.{Number, Sync, Give, Further, Event}
use Rattle.auc_vector.specs.Notes.{withheld_noted}
use Rattle.auc_vector.specs.declared.notes.NumberNote.{NumberNote}
use Rattle.auc_vector.specs.declared.notes.NumberNote.TheVariants as number
use Rattle.auc_vector.specs.declared.notes.ResyncNote.{ResyncNote}
use Rattle.auc_vector.specs.declared.notes.ResyncNote.TheVariants as resync
use Rattle.auc_named.proofs.PlaceLemmas.{IsUnnamed, other_place, same_place}

-- ---- plain records

-- a line's record is one that a plain line may give, of one of so many subscribers
abbrev pub IsPlainRecord : ℕ → LineRecord → Type 0
IsPlainRecord size (Number s note) = s < size
IsPlainRecord size (Sync s note) = s < size
IsPlainRecord size (Give s n answer) = ⊥
IsPlainRecord size (Further said) = ⊥
IsPlainRecord size (Event r) = ⊥

-- the records of some lines
abbrev pub ArePlainLines : ℕ → List LineRecord → Type 0
ArePlainLines size lines = All (IsPlainRecord size) lines

-- and those of jobs
abbrev pub ArePlainRecords : ℕ → List (List LineRecord) → Type 0
ArePlainRecords size jobs = All (ArePlainLines size) jobs

-- those of jobs, one after the other
pub all_plain : (size : ℕ) (jobs : List (List LineRecord)) → ArePlainRecords size jobs → ArePlainLines size (all_lines jobs)
all_plain size [] plain = All-nil (IsPlainRecord size)
all_plain size (lines ∷ jobs) plain =
    All-append (IsPlainRecord size) lines (all_lines jobs) (All-head (ArePlainLines size) lines jobs plain) (all_plain size jobs (All-tail (ArePlainLines size) lines jobs plain))

-- all lines of the records of all subscribers
pub all_lines-records_of : (places : List ℕ) (jobs : List (List LineRecord)) → all_lines (records_of places jobs) ≡ map (record_of places) (all_lines jobs)
all_lines-records_of places [] = refl
all_lines-records_of places (lines ∷ jobs) =
    ap (λ (rest : List LineRecord). map (record_of places) lines ++ rest) (all_lines-records_of places jobs) ∙ sym (map-append (record_of places) lines (all_lines jobs))

-- ---- what the centre answered

-- its answer when a line asked for a number of the subscriber of a place
number_named : (places : List ℕ) (sub : ℕ) → AllPairs ◌<◌ places → sub < length places → (line : LineRecord) → IsPlainRecord (length places) line
    → number_by (slice_index places sub) (record_of places line) ≡ number_by sub line
number_named places sub rising inside (Number s note) plain = ap (λ (b : Bool). if b then Some note else None) (same_place places s sub rising plain inside)
number_named places sub rising inside (Sync s note) plain = refl
number_named places sub rising inside (Give s n answer) plain = absurd plain
number_named places sub rising inside (Further said) plain = absurd plain
number_named places sub rising inside (Event r) plain = absurd plain

-- and what it made of a synchronisation failure
resync_named : (places : List ℕ) (sub : ℕ) → AllPairs ◌<◌ places → sub < length places → (line : LineRecord) → IsPlainRecord (length places) line
    → resync_by (slice_index places sub) (record_of places line) ≡ resync_by sub line
resync_named places sub rising inside (Number s note) plain = refl
resync_named places sub rising inside (Sync s note) plain = ap (λ (b : Bool). if b then Some note else None) (same_place places s sub rising plain inside)
resync_named places sub rising inside (Give s n answer) plain = absurd plain
resync_named places sub rising inside (Further said) plain = absurd plain
resync_named places sub rising inside (Event r) plain = absurd plain

-- it wasn't asked for a subscriber without a place
number_unnamed : (places : List ℕ) (sub : ℕ) → IsUnnamed places sub → (line : LineRecord) → IsPlainRecord (length places) line → number_by sub (record_of places line) ≡ None
number_unnamed places sub none (Number s note) plain = ap (λ (b : Bool). if b then Some note else None) (other_place places s sub none plain)
number_unnamed places sub none (Sync s note) plain = refl
number_unnamed places sub none (Give s n answer) plain = absurd plain
number_unnamed places sub none (Further said) plain = absurd plain
number_unnamed places sub none (Event r) plain = absurd plain

resync_unnamed : (places : List ℕ) (sub : ℕ) → IsUnnamed places sub → (line : LineRecord) → IsPlainRecord (length places) line → resync_by sub (record_of places line) ≡ None
resync_unnamed places sub none (Number s note) plain = refl
resync_unnamed places sub none (Sync s note) plain = ap (λ (b : Bool). if b then Some note else None) (other_place places s sub none plain)
resync_unnamed places sub none (Give s n answer) plain = absurd plain
resync_unnamed places sub none (Further said) plain = absurd plain
resync_unnamed places sub none (Event r) plain = absurd plain

-- ---- the numbers of lines

-- what lines say of its answers for the subscriber of a place
answers_named : {X : Type 0} (f : Option NumberNote → List X) (places : List ℕ) (sub : ℕ) → AllPairs ◌<◌ places → sub < length places → (lines : List LineRecord) → ArePlainLines (length places) lines
    → flat_map (λ (line : LineRecord). f (number_by (slice_index places sub) line)) (map (record_of places) lines) ≡ flat_map (λ (line : LineRecord). f (number_by sub line)) lines
answers_named f places sub rising inside [] plain = refl
answers_named {X} f places sub rising inside (line ∷ lines) plain =
    let P = IsPlainRecord (length places) in
    ap (λ (o : Option NumberNote). f o ++ flat_map (λ (l : LineRecord). f (number_by (slice_index places sub) l)) (map (record_of places) lines))
    (number_named places sub rising inside line (All-head P line lines plain))
    ∙ ap (λ (xs : List X). f (number_by sub line) ++ xs) (answers_named f places sub rising inside lines (All-tail P line lines plain))

-- and for one without a place
answers_unnamed : {X : Type 0} (f : Option NumberNote → List X) → f None ≡ [] → (places : List ℕ) (sub : ℕ) → IsUnnamed places sub → (lines : List LineRecord) → ArePlainLines (length places) lines
    → flat_map (λ (line : LineRecord). f (number_by sub line)) (map (record_of places) lines) ≡ []
answers_unnamed f nothing places sub none [] plain = refl
answers_unnamed {X} f nothing places sub none (line ∷ lines) plain =
    let P = IsPlainRecord (length places) in
    ap (λ (xs : List X). xs ++ flat_map (λ (l : LineRecord). f (number_by sub l)) (map (record_of places) lines)) (ap f (number_unnamed places sub none line (All-head P line lines plain)) ∙ nothing)
    ∙ answers_unnamed f nothing places sub none lines (All-tail P line lines plain)

-- the numbers that are released for the subscriber of a place
pub numbers_named : (places : List ℕ) (jobs : List (List LineRecord)) (sub : ℕ) → AllPairs ◌<◌ places → ArePlainRecords (length places) jobs → sub < length places
    → numbers_of (slice_index places sub) (all_lines (records_of places jobs)) ≡ numbers_of sub (all_lines jobs)
numbers_named places jobs sub rising plain inside =
    ap (numbers_of (slice_index places sub)) (all_lines-records_of places jobs)
    ∙ answers_named number_released places sub rising inside (all_lines jobs) (all_plain (length places) jobs plain)

-- those that are withheld from it
pub withheld_named : (places : List ℕ) (jobs : List (List LineRecord)) (sub : ℕ) → AllPairs ◌<◌ places → ArePlainRecords (length places) jobs → sub < length places
    → withheld_of (slice_index places sub) (all_lines (records_of places jobs)) ≡ withheld_of sub (all_lines jobs)
withheld_named places jobs sub rising plain inside =
    ap (withheld_of (slice_index places sub)) (all_lines-records_of places jobs)
    ∙ answers_named number_withheld places sub rising inside (all_lines jobs) (all_plain (length places) jobs plain)

-- with their causes
pub held_named : (places : List ℕ) (jobs : List (List LineRecord)) (sub : ℕ) → AllPairs ◌<◌ places → ArePlainRecords (length places) jobs → sub < length places
    → held_of (slice_index places sub) (all_lines (records_of places jobs)) ≡ held_of sub (all_lines jobs)
held_named places jobs sub rising plain inside =
    ap (held_of (slice_index places sub)) (all_lines-records_of places jobs)
    ∙ answers_named withheld_noted places sub rising inside (all_lines jobs) (all_plain (length places) jobs plain)

-- for a subscriber without a place none is released
pub numbers_unnamed : (places : List ℕ) (jobs : List (List LineRecord)) (sub : ℕ) → ArePlainRecords (length places) jobs → All (λ place. place ≢ sub) places
    → numbers_of sub (all_lines (records_of places jobs)) ≡ []
numbers_unnamed places jobs sub plain none =
    ap (numbers_of sub) (all_lines-records_of places jobs)
    ∙ answers_unnamed number_released refl places sub none (all_lines jobs) (all_plain (length places) jobs plain)

-- none is withheld
pub withheld_unnamed : (places : List ℕ) (jobs : List (List LineRecord)) (sub : ℕ) → ArePlainRecords (length places) jobs → All (λ place. place ≢ sub) places
    → withheld_of sub (all_lines (records_of places jobs)) ≡ []
withheld_unnamed places jobs sub plain none =
    ap (withheld_of sub) (all_lines-records_of places jobs)
    ∙ answers_unnamed number_withheld refl places sub none (all_lines jobs) (all_plain (length places) jobs plain)

-- with or without a cause
pub held_unnamed : (places : List ℕ) (jobs : List (List LineRecord)) (sub : ℕ) → ArePlainRecords (length places) jobs → All (λ place. place ≢ sub) places
    → held_of sub (all_lines (records_of places jobs)) ≡ []
held_unnamed places jobs sub plain none =
    ap (held_of sub) (all_lines-records_of places jobs)
    ∙ answers_unnamed withheld_noted refl places sub none (all_lines jobs) (all_plain (length places) jobs plain)

-- ---- the entries of lines

-- a word is reported for the subscriber of a place
reported_named : (places : List ℕ) (sub word : ℕ) → AllPairs ◌<◌ places → sub < length places → (lines : List LineRecord) → ArePlainLines (length places) lines
    → is_reported (slice_index places sub) word (map (record_of places) lines) ≡ is_reported sub word lines
reported_named places sub word rising inside [] plain = refl
reported_named places sub word rising inside (line ∷ lines) plain =
    let P = IsPlainRecord (length places) in
    ap (λ (o : Option NumberNote). is_exhausted word o || is_reported (slice_index places sub) word (map (record_of places) lines)) (number_named places sub rising inside line (All-head P line lines plain))
    ∙ ap (λ (b : Bool). reports sub word line || b) (reported_named places sub word rising inside lines (All-tail P line lines plain))

-- the entry of its resynchronisation
resync_entries : (places : List ℕ) (sub : ℕ) (before : List LineRecord) → AllPairs ◌<◌ places → sub < length places → ArePlainLines (length places) before → (note : Option ResyncNote)
    → entries_of_resync (slice_index places sub) (map (record_of places) before) note ≡ entries_of_resync sub before note
resync_entries places sub before rising inside earlier None = refl
resync_entries places sub before rising inside earlier (Some (resync.Moved from to)) = refl
resync_entries places sub before rising inside earlier (Some (resync.InRange seen seq)) =
    ap (λ (b : Bool). if b then [] else Look seen ∷ []) (reported_named places sub seen rising inside before earlier)
resync_entries places sub before rising inside earlier (Some (resync.Beyond seen seq)) =
    ap (λ (b : Bool). if b then [] else Look seen ∷ []) (reported_named places sub seen rising inside before earlier)
resync_entries places sub before rising inside earlier (Some resync.BadAuts) = refl

-- of a number that was asked for
number_entries : (places : List ℕ) (sub : ℕ) (before : List LineRecord) → AllPairs ◌<◌ places → sub < length places → ArePlainLines (length places) before → (note : Option NumberNote)
    → entries_of_number (slice_index places sub) (map (record_of places) before) note ≡ entries_of_number sub before note
number_entries places sub before rising inside earlier None = refl
number_entries places sub before rising inside earlier (Some (number.Drew n)) = refl
number_entries places sub before rising inside earlier (Some (number.Exhausted word)) =
    ap (λ (b : Bool). if b then [] else Drawn (word + 1) ∷ []) (reported_named places sub word rising inside before earlier)
number_entries places sub before rising inside earlier (Some (number.Withheld n stop)) = refl

-- of its line
line_named : (places : List ℕ) (sub : ℕ) (before : List LineRecord) → AllPairs ◌<◌ places → sub < length places → ArePlainLines (length places) before → (line : LineRecord) → IsPlainRecord (length places) line
    → entries_of_line (slice_index places sub) (map (record_of places) before) (record_of places line) ≡ entries_of_line sub before line
line_named places sub before rising inside earlier line plain =
    let place = slice_index places sub in
    let wide = map (record_of places) before in
    ap (λ (note : Option ResyncNote). entries_of_resync place wide note ++ entries_of_number place wide (number_by place (record_of places line))) (resync_named places sub rising inside line plain)
    ∙ ap (λ (note : Option NumberNote). entries_of_resync place wide (resync_by sub line) ++ entries_of_number place wide note) (number_named places sub rising inside line plain)
    ∙ ap (λ (es : List Entry). es ++ entries_of_number place wide (number_by sub line)) (resync_entries places sub before rising inside earlier (resync_by sub line))
    ∙ ap (λ (es : List Entry). entries_of_resync sub before (resync_by sub line) ++ es) (number_entries places sub before rising inside earlier (number_by sub line))

-- of its lines
lines_named : (places : List ℕ) (sub : ℕ) (before : List LineRecord) → AllPairs ◌<◌ places → sub < length places → ArePlainLines (length places) before → (lines : List LineRecord) → ArePlainLines (length places) lines
    → entries_of_lines (slice_index places sub) (map (record_of places) before) (map (record_of places) lines) ≡ entries_of_lines sub before lines
lines_named places sub before rising inside earlier [] plain = refl
lines_named places sub before rising inside earlier (line ∷ lines) plain =
    let P = IsPlainRecord (length places) in
    let place = slice_index places sub in
    let one : ArePlainLines (length places) (line ∷ []) = All-cons P line [] (All-head P line lines plain) (All-nil P) in
    ap (λ (es : List Entry). es ++ entries_of_lines place (map (record_of places) before ++ record_of places line ∷ []) (map (record_of places) lines))
    (line_named places sub before rising inside earlier line (All-head P line lines plain))
    ∙ ap (λ (sofar : List LineRecord). entries_of_line sub before line ++ entries_of_lines place sofar (map (record_of places) lines)) (sym (map-append (record_of places) before (line ∷ [])))
    ∙ ap (λ (es : List Entry). entries_of_line sub before line ++ es)
    (lines_named places sub (before ++ line ∷ []) rising inside (All-append P before (line ∷ []) earlier one) lines (All-tail P line lines plain))

-- of jobs
jobs_named : (places : List ℕ) (sub : ℕ) (before : List LineRecord) → AllPairs ◌<◌ places → sub < length places → ArePlainLines (length places) before → (jobs : List (List LineRecord)) → ArePlainRecords (length places) jobs
    → entries_of_jobs (slice_index places sub) (map (record_of places) before) (records_of places jobs) ≡ entries_of_jobs sub before jobs
jobs_named places sub before rising inside earlier [] plain = refl
jobs_named places sub before rising inside earlier (job ∷ jobs) plain =
    let P = IsPlainRecord (length places) in
    let place = slice_index places sub in
    let here = All-head (ArePlainLines (length places)) job jobs plain in
    ap (λ (es : List Entry). es ∷ entries_of_jobs place (map (record_of places) before ++ map (record_of places) job) (records_of places jobs)) (lines_named places sub before rising inside earlier job here)
    ∙ ap (λ (sofar : List LineRecord). entries_of_lines sub before job ∷ entries_of_jobs place sofar (records_of places jobs)) (sym (map-append (record_of places) before job))
    ∙ ap (λ (es : List (List Entry)). entries_of_lines sub before job ∷ es)
    (jobs_named places sub (before ++ job) rising inside (All-append P before job earlier here) jobs (All-tail (ArePlainLines (length places)) job jobs plain))

-- the entries of the subscriber of a place are those that the round of some has
pub entries_named : (places : List ℕ) (jobs : List (List LineRecord)) (sub : ℕ) → AllPairs ◌<◌ places → ArePlainRecords (length places) jobs → sub < length places
    → entries_of_jobs (slice_index places sub) [] (records_of places jobs) ≡ entries_of_jobs sub [] jobs
entries_named places jobs sub rising plain inside = jobs_named places sub [] rising inside (All-nil (IsPlainRecord (length places))) jobs plain

-- so it draws the same numbers
pub drawn_named : (places : List ℕ) (jobs : List (List LineRecord)) (sub : ℕ) → AllPairs ◌<◌ places → ArePlainRecords (length places) jobs → sub < length places
    → drawn (all_entries (entries_of_jobs (slice_index places sub) [] (records_of places jobs))) ≡ drawn (all_entries (entries_of_jobs sub [] jobs))
drawn_named places jobs sub rising plain inside = ap (λ (es : List (List Entry)). drawn (all_entries es)) (entries_named places jobs sub rising plain inside)

-- ---- no entries of a subscriber without a place

-- a line has none
line_unnamed : (places : List ℕ) (sub : ℕ) (before : List LineRecord) → IsUnnamed places sub → (line : LineRecord) → IsPlainRecord (length places) line → entries_of_line sub before (record_of places line) ≡ []
line_unnamed places sub before none line plain =
    ap (λ (note : Option ResyncNote). entries_of_resync sub before note ++ entries_of_number sub before (number_by sub (record_of places line))) (resync_unnamed places sub none line plain)
    ∙ ap (entries_of_number sub before) (number_unnamed places sub none line plain)

-- nor have lines
lines_unnamed : (places : List ℕ) (sub : ℕ) (before : List LineRecord) → IsUnnamed places sub → (lines : List LineRecord) → ArePlainLines (length places) lines → entries_of_lines sub before (map (record_of places) lines) ≡ []
lines_unnamed places sub before none [] plain = refl
lines_unnamed places sub before none (line ∷ lines) plain =
    let P = IsPlainRecord (length places) in
    ap (λ (es : List Entry). es ++ entries_of_lines sub (before ++ record_of places line ∷ []) (map (record_of places) lines)) (line_unnamed places sub before none line (All-head P line lines plain))
    ∙ lines_unnamed places sub (before ++ record_of places line ∷ []) none lines (All-tail P line lines plain)

-- nor have jobs, after any lines
jobs_unnamed : (places : List ℕ) (sub : ℕ) (before : List LineRecord) → IsUnnamed places sub → (jobs : List (List LineRecord)) → ArePlainRecords (length places) jobs
    → all_entries (entries_of_jobs sub before (records_of places jobs)) ≡ []
jobs_unnamed places sub before none [] plain = refl
jobs_unnamed places sub before none (job ∷ jobs) plain =
    let here = All-head (ArePlainLines (length places)) job jobs plain in
    ap (λ (es : List Entry). es ++ all_entries (entries_of_jobs sub (before ++ map (record_of places) job) (records_of places jobs))) (lines_unnamed places sub before none job here)
    ∙ jobs_unnamed places sub (before ++ map (record_of places) job) none jobs (All-tail (ArePlainLines (length places)) job jobs plain)

-- nor has the round
pub entries_unnamed : (places : List ℕ) (jobs : List (List LineRecord)) (sub : ℕ) → ArePlainRecords (length places) jobs → IsUnnamed places sub
    → all_entries (entries_of_jobs sub [] (records_of places jobs)) ≡ []
entries_unnamed places jobs sub plain none = jobs_unnamed places sub [] none jobs plain

-- so it draws nothing
pub drawn_unnamed : (places : List ℕ) (jobs : List (List LineRecord)) (sub : ℕ) → ArePlainRecords (length places) jobs → All (λ place. place ≢ sub) places
    → drawn (all_entries (entries_of_jobs sub [] (records_of places jobs))) ≡ []
drawn_unnamed places jobs sub plain none = ap drawn (entries_unnamed places jobs sub plain none)
