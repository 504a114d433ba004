-- Inner facts: the part of the rule on limits, up to which numbers may be released.
-- After the job word come the stop word, which has why reservations ended, and each subscriber's limit.
use Rattle.std.specs.Prelude.{◌≡◌, ℕ, ◌+◌, ◌<◌, ◌≤◌, ◌==◌, max, if◌then◌else◌, List, [], ◌∷◌, length, slice_index, slice_set, All, Contains, ◌⊎◌, Option, Some, None}
use mathlib.Core.Option.{some}
use lib.ListN.{get_elem?}
use Rattle.atomic_table.specs.Table.{State}
use Rattle.auc_memory.specs.declared.stop.Stop.{Stop}
use Rattle.auc_memory.specs.declared.stop.Stop.TheVariants.{Fault, Full}
use Rattle.auc_history.specs.declared.entry.Entry.TheVariants.{Drawn}
use Rattle.auc_sqn.specs.Number.{max_seq}
use Rattle.auc_draw.specs.declared.rule.Deed.{Deed}
use Rattle.auc_draw.specs.declared.rule.Deed.TheVariants.{Made, Claimed, Released, Withheld, ReadStop}
use Rattle.auc_draw.specs.declared.rule.Note.{Note}
use Rattle.auc_draw.specs.declared.rule.View.{View}
use Rattle.auc_draw.specs.Deeds.{entries_of}

-- ---- the words

-- the place of the stop word
abbrev pub stop_at : ℕ → ℕ
stop_at subs = subs + 1

-- the place of a subscriber's limit
abbrev pub limit_at : ℕ → ℕ → ℕ
limit_at subs sub = subs + 2 + sub

-- a stop as a word
abbrev pub stop_word : Option Stop → ℕ
stop_word None = 0
stop_word (Some Fault) = 1
stop_word (Some Full) = 2

-- the stop that a word stands for
abbrev pub stop_of : ℕ → Option Stop
stop_of word = if word == 0 then None else if word == 1 then Some Fault else Some Full

-- ---- the keeper's note

-- what the keeper knows at the opening
abbrev pub opening_note : List ℕ → List ℕ → Note
opening_note openings limits = record { limits = limits; seen = openings; stop = None }

-- a note of nothing, which a pass has
abbrev pub no_note : Note
no_note = record { limits = []; seen = []; stop = None }

-- the note after a look at a subscriber's number
abbrev pub looked : Note → ℕ → ℕ → Note
looked note sub word = record { limits = note.limits; seen = slice_set note.seen sub word; stop = note.stop }

-- the note after a subscriber's limit was raised
abbrev pub raised : Note → ℕ → ℕ → Note
raised note sub limit = record { limits = slice_set note.limits sub limit; seen = note.seen; stop = note.stop }

-- the note after reservations ended
abbrev pub ended : Note → Option Stop → Note
ended note stop = record { limits = note.limits; seen = note.seen; stop = stop }

-- the keeper's note is that of the first seat
abbrev pub first_note : List View → Note
first_note [] = no_note
first_note (v ∷ views) = v.note

-- ---- the rule

-- a subscriber's limit, from the one that was given at the opening and from the number word as it was last looked at
pub record IsLimit (given limit seen word : ℕ) : Type 0 where
  pub within : limit ≤ max_seq
  pub looked : seen ≤ word
  pub step : (limit ≡ given) ⊎ ((limit ≡ max_seq) ⊎ (given + 64 ≤ limit))
  pub near : limit ≤ max given (seen + 64)

-- the keeper's note is what the words say
pub record IsTied (openings limits words : List ℕ) (note : Note) : Type 0 where
  pub sized : length note.limits ≡ length openings
  pub looks : length note.seen ≡ length openings
  pub limit : (i : ℕ) → i < length openings → slice_index words (limit_at (length openings) i) ≡ slice_index note.limits i
  pub stop : slice_index words (stop_at (length openings)) ≡ stop_word note.stop
  pub each : (i : ℕ) → i < length openings → IsLimit (slice_index limits i) (slice_index note.limits i) (slice_index note.seen i) (slice_index words i)

-- what a deed tells of the limits and of the stop is so by the keeper's note
abbrev pub Tells : Note → Deed → Type 0
Tells note (Made sub e) = Unit {0}
Tells note (Claimed n) = Unit {0}
Tells note (Released sub n) = n ≤ slice_index note.limits sub
Tells note (Withheld sub n stop) = (slice_index note.limits sub < n) × (note.stop ≡ Some stop)
Tells note (ReadStop stop) = note.stop ≡ Some stop

-- the number of a deed was drawn, if it was released or withheld
abbrev pub WasDrawn : List Deed → Deed → Type 0
WasDrawn deeds (Made sub e) = Unit {0}
WasDrawn deeds (Claimed n) = Unit {0}
WasDrawn deeds (Released sub n) = Contains (entries_of sub deeds) (Drawn n)
WasDrawn deeds (Withheld sub n stop) = Contains (entries_of sub deeds) (Drawn n)
WasDrawn deeds (ReadStop stop) = Unit {0}

-- both, of each deed of a list
pub record AreTold (note : Note) (deeds : List Deed) : Type 0 where
  pub tells : All (Tells note) deeds
  pub drawn : All (WasDrawn deeds) deeds

-- and of each list of a view
pub record IsTold (note : Note) (v : View) : Type 0 where
  pub own : AreTold note v.own
  pub joined : All (AreTold note) v.joined

-- the part on limits; the openings and the limits that were given with them are the table's key
pub record KeepsLimits (openings limits : List ℕ) (s : State (Unit {0}) View) : Type 0 where
  pub sized : length s.words ≡ limit_at (length openings) (length openings)
  pub tied : IsTied openings limits s.words (first_note s.views)
  pub told : (j : ℕ) (v : View) → get_elem? s.views j ≡ some v → IsTold (first_note s.views) v
