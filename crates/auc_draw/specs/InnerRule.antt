-- Inner facts: the rule of the shared words, which holds between any two steps, and what each step tells its caller.
-- The words are the subscribers' numbers and, after them, the job word, which has the number of the next job, and those
-- of the limits (`InnerLimits`).
use Rattle.std.specs.Prelude.{◌≡◌, ◌≢◌, ℕ, ◌+◌, ◌%◌, ◌^◌, max, ◌<◌, ◌≤◌, nat_lt, nat_le, ◌&&◌, if◌then◌else◌, List, [], ◌∷◌, ◌++◌, length, slice_index, sum_by, All, Any, flat_map, ◌⊎◌, Some}
use mathlib.Core.Option.{some}
use lib.ListN.{get_elem?}
use Rattle.atomic_table.specs.Table.{State, Me, Step, Allows}
use Rattle.auc_history.specs.declared.entry.Entry.{Entry}
use Rattle.auc_history.specs.declared.entry.Entry.TheVariants.{Drawn, Moved, Look}
use Rattle.auc_history.specs.History.{IsInOrder, reach_of, covered, last_of, IsMove, IsFound}
use Rattle.auc_history.specs.Split.{times}
use Rattle.auc_draw.specs.declared.rule.Deed.{Deed}
use Rattle.auc_draw.specs.declared.rule.Deed.TheVariants.{Made, Claimed, Released}
use Rattle.auc_draw.specs.declared.rule.Note.{Note}
use Rattle.auc_draw.specs.declared.rule.View.{View}
use Rattle.auc_draw.specs.Deeds.{entries_of, claims_of, kept_stop, stop_read, withholding}
use Rattle.auc_draw.specs.InnerLimits.{stop_of, no_note, looked, raised, ended, KeepsLimits}

-- ---- views

-- the keeper's with these greatest numbers and this note, from which this many passes were split
abbrev pub keeper_view : ℕ → List ℕ → Note → View
keeper_view passes tops note = record { own = []; joined = []; active = 0; split = passes; shown = []; tops = tops; note = note }

-- the keeper's, into which passes with these lists were joined
abbrev pub keeper_view_with : ℕ → List ℕ → Note → List (List Deed) → View
keeper_view_with passes tops note lists = record { own = []; joined = lists; active = 0; split = passes; shown = []; tops = tops; note = note }

-- a new pass's, with these greatest numbers
abbrev pub new_view : List ℕ → View
new_view tops = record { own = []; joined = []; active = 1; split = 0; shown = []; tops = tops; note = no_note }

-- that of a pass that was joined
abbrev pub spent_view : View
spent_view = record { own = []; joined = []; active = 0; split = 0; shown = []; tops = []; note = no_note }

-- the keeper's, after a pass was split from it
abbrev pub after_split : View → View
after_split v = record { own = v.own; joined = v.joined; active = v.active; split = v.split + 1; shown = v.shown; tops = v.tops; note = v.note }

-- the keeper's, after a pass was joined into it
abbrev pub after_join : View → View → View
after_join v w = record { own = v.own; joined = v.joined ++ w.own ∷ []; active = v.active; split = v.split; shown = v.shown; tops = v.tops; note = v.note }

-- that of a seat which only tells a closed book the joined lists
abbrev pub lists_view : View → View
lists_view v = record { own = []; joined = []; active = 0; split = 0; shown = v.joined; tops = []; note = no_note }

-- a view with further deeds
abbrev pub with_deeds : View → List Deed → View
with_deeds v ds = record { own = v.own ++ ds; joined = v.joined; active = v.active; split = v.split; shown = v.shown; tops = v.tops; note = v.note }

-- a view with one further deed
abbrev pub with_deed : View → Deed → View
with_deed v d = with_deeds v (d ∷ [])

-- a view with another note
abbrev pub with_note : View → Note → View
with_note v note = record { own = v.own; joined = v.joined; active = v.active; split = v.split; shown = v.shown; tops = v.tops; note = note }

-- the entries of a subscriber in a view
abbrev pub view_entries : ℕ → View → List Entry
view_entries i v = flat_map (entries_of i) v.joined ++ entries_of i v.own

-- the claimed numbers in a view
abbrev pub view_claims : View → List ℕ
view_claims v = flat_map claims_of v.joined ++ claims_of v.own

-- the entries of a subscriber in all views
abbrev pub all_view_entries : ℕ → List View → List Entry
all_view_entries i views = flat_map (view_entries i) views

-- the claimed numbers in all views
abbrev pub all_view_claims : List View → List ℕ
all_view_claims views = flat_map view_claims views

-- how many passes a view stands for
abbrev pub passes_in : View → ℕ
passes_in v = v.active + length v.joined

-- ---- the number words

-- whether an entry of a subscriber with this greatest number is a mark, as a count
abbrev pub mark_by : ℕ → Entry → ℕ
mark_by top (Drawn n) = if nat_lt top n then 1 else 0
mark_by top (Moved from to) = 0
mark_by top (Look seen) = 0

-- how many marks are among entries
abbrev pub marks_in : ℕ → List Entry → ℕ
marks_in top entries = sum_by (mark_by top) entries

-- the entries of a subscriber in all views, from its opening to its word
pub record IsCovered (top opening word : ℕ) (entries : List Entry) : Type 0 where
  pub forward : opening ≤ word
  -- they cover each number above the opening up to the word once, and no other
  pub once : (n : ℕ) → times n (covered entries) ≡ (if nat_lt opening n && nat_le n word then 1 else 0)
  pub moves : All (IsMove top) entries
  pub looks : All (IsFound opening entries) entries
  -- the word is the opening or the last number that some entry covers
  pub stands : (word ≡ opening) ⊎ Any (λ e. last_of e ≡ Some word) entries

-- a seat's own entries of a subscriber whose word this is
pub record FitsWord (top word active : ℕ) (entries : List Entry) : Type 0 where
  -- only a pass has a mark, and no more than one
  pub marked : marks_in top entries ≤ active
  pub ordered : IsInOrder entries
  pub below : All (λ e. reach_of e ≤ word) entries

-- the entries of a pass that was joined
pub record FitsJoined (top i : ℕ) (deeds : List Deed) : Type 0 where
  pub marked : marks_in top (entries_of i deeds) ≤ 1
  pub ordered : IsInOrder (entries_of i deeds)

-- each subscriber's word, and the entries in all views
pub record Numbers (openings tops : List ℕ) (s : State (Unit {0}) View) : Type 0 where
  pub bounded : (i : ℕ) → i < length openings → slice_index s.words i ≤ slice_index tops i + sum_by (λ v. marks_in (slice_index tops i) (view_entries i v)) s.views
  pub covers : (i : ℕ) → i < length openings → IsCovered (slice_index tops i) (slice_index openings i) (slice_index s.words i) (all_view_entries i s.views)
  pub fits : (j : ℕ) (v : View) → get_elem? s.views j ≡ some v → (i : ℕ) → i < length openings → FitsWord (slice_index tops i) (slice_index s.words i) v.active (entries_of i v.own)
  pub rests : (j : ℕ) (v : View) → get_elem? s.views j ≡ some v → (i : ℕ) → i < length openings → All (FitsJoined (slice_index tops i) i) v.joined

-- ---- the job word

-- whether a claimed number has more than 32 bits, so that it is that of no job, as a count
abbrev pub wide_by : ℕ → ℕ
wide_by n = if nat_lt n 4294967296 then 0 else 1

-- how many such numbers are among claimed ones
abbrev pub wide_in : List ℕ → ℕ
wide_in numbers = sum_by wide_by numbers

-- a seat's own claimed numbers
pub record FitsClaims (word active : ℕ) (numbers : List ℕ) : Type 0 where
  -- only a pass has one of more than 32 bits, and no more than one
  pub wide : wide_in numbers ≤ active
  pub below : All (λ n. n < word) numbers

-- the claimed numbers in all views are those below the job word, each once
pub record Jobs (at : ℕ) (s : State (Unit {0}) View) : Type 0 where
  pub bounded : slice_index s.words at ≤ 4294967296 + sum_by (λ v. wide_in (view_claims v)) s.views
  pub once : (n : ℕ) → times n (all_view_claims s.views) ≡ (if nat_lt n (slice_index s.words at) then 1 else 0)
  pub fits : (j : ℕ) (v : View) → get_elem? s.views j ≡ some v → FitsClaims (slice_index s.words at) v.active (claims_of v.own)
  pub rests : (j : ℕ) (v : View) → get_elem? s.views j ≡ some v → All (λ deeds. wide_in (claims_of deeds) ≤ 1) v.joined

-- ---- the seats

-- the passes, each counted with those that were joined into it, are as many as were split from the keeper's seat, which
-- is the first seat
pub record Seats (views : List View) : Type 0 where
  pub counted : sum_by passes_in views ≡ sum_by (λ v. v.split) views
  pub few : sum_by (λ v. v.split) views ≤ 64
  pub alone : (j : ℕ) (v : View) → get_elem? views j ≡ some v → j ≢ 0 → (v.split ≡ 0) × (v.joined ≡ [])
  -- a seat that isn't a pass's has done nothing
  pub idle : (j : ℕ) (v : View) → get_elem? views j ≡ some v → v.active ≡ 0 → v.own ≡ []

-- ---- the rule

-- the part on numbers and jobs
pub record KeepsNumbers (openings tops : List ℕ) (s : State (Unit {0}) View) : Type 0 where
  pub room : length openings < length s.words
  pub numbers : Numbers openings tops s
  pub jobs : Jobs (length openings) s
  pub seats : Seats s.views

-- the rule; the openings, the greatest numbers and the limits that were given with them are the table's key
pub record Keeps (openings tops given : List ℕ) (s : State (Unit {0}) View) : Type 0 where
  pub numbers : KeepsNumbers openings tops s
  pub limits : KeepsLimits openings given s

-- ---- the steps

-- a step on a subscriber's word adds this entry to the seat's own, which stay in order
abbrev pub AddsEntry : ℕ → Entry → Me (Unit {0}) View → Me (Unit {0}) View → Type 0
AddsEntry sub e v w = (w ≡ (with_deed v.0 (Made sub e), v.1)) × IsInOrder (entries_of sub w.0.own)

-- a draw adds the number after the word that it found, which has 64 bits
abbrev pub AddsDraw : ℕ → ℕ → Me (Unit {0}) View → Me (Unit {0}) View → Type 0
AddsDraw sub found v w = AddsEntry sub (Drawn (found + 1)) v w × (found + 1 < 2 ^ 64)

-- a draw that found this word
abbrev pub draws : Step (Unit {0}) → Me (Unit {0}) View → ℕ → Me (Unit {0}) View → Type 0
draws s v found w = AddsDraw s.word found v w

-- the entry of a jump to a number that found this word
abbrev pub jump_entry : ℕ → ℕ → Entry
jump_entry to found = if nat_lt found to then Moved found to else Look found

-- a jump that found this word
abbrev pub jumps : Step (Unit {0}) → Me (Unit {0}) View → ℕ → Me (Unit {0}) View → Type 0
jumps s v found w = AddsEntry s.word (jump_entry s.first found) v w

-- a step on the job word adds the number that it found, which is above all that the seat claimed before
abbrev pub AddsClaim : ℕ → Me (Unit {0}) View → Me (Unit {0}) View → Type 0
AddsClaim found v w = (w ≡ (with_deed v.0 (Claimed found), v.1)) × All (λ n. n < found) (claims_of v.0.own)

-- a claim that found this number
abbrev pub claims : Step (Unit {0}) → Me (Unit {0}) View → ℕ → Me (Unit {0}) View → Type 0
claims s v found w = AddsClaim found v w

-- in every state that keeps the rule this seat may draw a number of the subscriber, by adding one to its word
abbrev pub AllowsDraw : List ℕ → List ℕ → List ℕ → ℕ → ℕ → Me (Unit {0}) View → ℕ → Type 0
AllowsDraw openings tops limits slots id me sub = Allows (Keeps openings tops limits) slots id me sub (λ n. (n + 1) % 2 ^ 64) (λ found w. AddsDraw sub found me w)

-- it may move the subscriber's word up to a number
abbrev pub AllowsJump : List ℕ → List ℕ → List ℕ → ℕ → ℕ → Me (Unit {0}) View → ℕ → ℕ → Type 0
AllowsJump openings tops limits slots id me sub to = Allows (Keeps openings tops limits) slots id me sub (λ n. max n to) (λ found w. AddsEntry sub (jump_entry to found) me w)

-- it may claim a number, by adding one to the job word at this place
abbrev pub AllowsClaim : List ℕ → List ℕ → List ℕ → ℕ → ℕ → Me (Unit {0}) View → ℕ → Type 0
AllowsClaim openings tops limits slots id me place = Allows (Keeps openings tops limits) slots id me place (λ n. (n + 1) % 2 ^ 64) (λ found w. AddsClaim found me w)

-- ---- the steps on limits and on the stop

-- a load of the subscriber's limit, for a number that is to be released
abbrev pub release_deeds : ℕ → ℕ → ℕ → List Deed → List Deed
release_deeds sub n limit old = if nat_lt limit n then withholding sub n (kept_stop old) else Released sub n ∷ []

-- it adds that the number was released or withheld, if it was
abbrev pub AddsRelease : ℕ → ℕ → ℕ → Me (Unit {0}) View → Me (Unit {0}) View → Type 0
AddsRelease sub n limit v w = w ≡ (with_deeds v.0 (release_deeds sub n limit v.0.own), v.1)

-- a load of the stop word adds the stop, if it is set: that is the stop which the seat read first
abbrev pub AddsStop : ℕ → Me (Unit {0}) View → Me (Unit {0}) View → Type 0
AddsStop found v w = (w ≡ (with_deeds v.0 (stop_read (stop_of found)), v.1)) × (kept_stop w.0.own ≡ stop_of found)

-- a load of a subscriber's number is noted; it is no lower than the one before
abbrev pub NotesLook : ℕ → ℕ → Me (Unit {0}) View → Me (Unit {0}) View → Type 0
NotesLook sub found v w = (w ≡ (with_note v.0 (looked v.0.note sub found), v.1)) × (slice_index v.0.note.seen sub ≤ found) × (slice_index w.0.note.seen sub ≡ found)

-- a raised limit is noted
abbrev pub NotesLimit : ℕ → ℕ → Me (Unit {0}) View → Me (Unit {0}) View → Type 0
NotesLimit sub limit v w = w ≡ (with_note v.0 (raised v.0.note sub limit), v.1)

-- a stop is noted
abbrev pub NotesStop : ℕ → Me (Unit {0}) View → Me (Unit {0}) View → Type 0
NotesStop word v w = w ≡ (with_note v.0 (ended v.0.note (stop_of word)), v.1)

-- a look that found this word
abbrev pub looks : Step (Unit {0}) → Me (Unit {0}) View → ℕ → Me (Unit {0}) View → Type 0
looks s v found w = NotesLook s.word found v w

-- a stop
abbrev pub stops : Step (Unit {0}) → Me (Unit {0}) View → ℕ → Me (Unit {0}) View → Type 0
stops s v found w = NotesStop s.first v w

-- the seat may load the subscriber's limit at this place, for a number that is to be released
abbrev pub AllowsRelease : List ℕ → List ℕ → List ℕ → ℕ → ℕ → Me (Unit {0}) View → ℕ → ℕ → ℕ → Type 0
AllowsRelease openings tops limits slots id me place sub n = Allows (Keeps openings tops limits) slots id me place (λ k. k) (λ found w. AddsRelease sub n found me w)

-- it may load the stop word
abbrev pub AllowsStopped : List ℕ → List ℕ → List ℕ → ℕ → ℕ → Me (Unit {0}) View → ℕ → Type 0
AllowsStopped openings tops limits slots id me place = Allows (Keeps openings tops limits) slots id me place (λ k. k) (λ found w. AddsStop found me w)

-- it may load the subscriber's number
abbrev pub AllowsLook : List ℕ → List ℕ → List ℕ → ℕ → ℕ → Me (Unit {0}) View → ℕ → Type 0
AllowsLook openings tops limits slots id me sub = Allows (Keeps openings tops limits) slots id me sub (λ k. k) (λ found w. NotesLook sub found me w)

-- it may raise the subscriber's limit at this place
abbrev pub AllowsRaise : List ℕ → List ℕ → List ℕ → ℕ → ℕ → Me (Unit {0}) View → ℕ → ℕ → ℕ → Type 0
AllowsRaise openings tops limits slots id me place sub limit = Allows (Keeps openings tops limits) slots id me place (λ k. max k limit) (λ found w. NotesLimit sub limit me w)

-- it may store the stop word
abbrev pub AllowsStop : List ℕ → List ℕ → List ℕ → ℕ → ℕ → Me (Unit {0}) View → ℕ → ℕ → Type 0
AllowsStop openings tops limits slots id me place word = Allows (Keeps openings tops limits) slots id me place (λ k. word) (λ found w. NotesStop word me w)
