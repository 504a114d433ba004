-- What every lawful transcript promises of a subscriber's vectors and its USIM.
use Rattle.std.specs.Prelude.{◌≡◌, ◌≢◌, ◌↔◌, ℕ, ◌+◌, ◌*◌, ◌^◌, ◌<◌, ◌≤◌, ◌&&◌, ◌||◌, ◌⊎◌, max, nat_le, nat_lt, not, Bool, true, false, Option, Some, None, List, [], ◌∷◌, ◌++◌, length, filter, fold, map, All, AllPairs, Contains, slice_get, slice_index, if◌then◌else◌}
use Rattle.std.specs.List.{list_any}
use Rattle.auc_memory.specs.declared.stop.Stop.{Stop}
use Rattle.auc_history.specs.declared.entry.Entry.{Entry}
use Rattle.auc_history.specs.declared.entry.Entry.TheVariants.{Drawn, Moved, Look}
use Rattle.auc_history.specs.History.{drawn}
use Rattle.auc_history.specs.Split.{all_entries}
use Rattle.auc_lines.specs.declared.part.Part.{Part}
use Rattle.auc_lines.specs.declared.part.Part.TheVariants.{Restart}
use Rattle.auc_sqn.specs.Number.{indices, max_seq, seq_of, sqn_bytes, top_of}
use Rattle.auc_subs.specs.Subscriber.{AreSubscribers}
use Rattle.auc_subs.specs.declared.row.Row.{Row}
use Rattle.auc_record.specs.declared.record.GiveVerdict.{GiveVerdict}
use Rattle.auc_record.specs.declared.record.GiveVerdict.TheVariants as given
use Rattle.auc_record.specs.declared.record.LineRecord.{LineRecord}
use Rattle.auc_record.specs.declared.record.LineRecord.TheVariants.{Number, Sync, Give, Further, Event}
use Rattle.auc_record.specs.declared.record.PartRecord.{PartRecord}
use Rattle.auc_record.specs.declared.record.PartRecord.TheVariants as record_of
use Rattle.auc_record.specs.Lines.{is_in, numbers_of, accepted}
use Rattle.auc_subs.specs.Setting.{Setting}
use Rattle.auc_world.specs.Transcript.{IsLawful, lines_of, stretches_of}

-- ---- vectors

-- no two vectors that a transcript releases for a subscriber have the same SQN, by how many bits the subscriber's index has
abbrev pub VectorsDiffer : List Row → List PartRecord → Type 0
VectorsDiffer rows records = (sub : ℕ) (row : Row) → slice_get rows sub ≡ Some row
    → AllPairs ◌≢◌ (map (sqn_bytes row.bits) (numbers_of sub (lines_of records)))

-- each number that lines release for one of so many subscribers is above what was reserved for it at first
abbrev pub AreAboveReserved : ℕ → List ℕ → List LineRecord → Type 0
AreAboveReserved count reserved lines = (sub : ℕ) → sub < count → All (λ n. slice_index reserved sub < n) (numbers_of sub lines)

-- ---- the USIM

-- no USIM accepts an SQN twice
abbrev pub AcceptsNoneTwice : List Row → List PartRecord → Type 0
AcceptsNoneTwice rows records = (sub : ℕ) (row : Row) → slice_get rows sub ≡ Some row → AllPairs ◌≢◌ (accepted row.bits sub (lines_of records))

-- ---- periods and places

-- whether an entry is a move that begins at a number or above it, and below another number
abbrev pub moves_between : ℕ → ℕ → Entry → Bool
moves_between low high (Drawn n) = false
moves_between low high (Moved from to) = nat_le low from && nat_lt from high
moves_between low high (Look seen) = false

-- whether a resynchronisation moved the centre's number between two numbers of a stretch, the first below the second.
-- The numbers of a stretch rise, so a move between the numbers stands between their draws (`Position`)
abbrev pub is_moved : List Entry → ℕ → ℕ → Bool
is_moved entries m n = list_any (moves_between m n) entries

-- whether a subscriber's second number is of a later period than the first: it was drawn in a later stretch, or in the
-- same one after a move. Numbers of different stretches aren't compared, since a restart may open a subscriber below
-- numbers that an earlier move passed over
abbrev pub is_later : List (List Entry) → ℕ → ℕ → Bool
is_later [] m n = false
is_later (entries ∷ more) m n =
    is_in m (drawn entries) && (is_in n (drawn (all_entries more)) || (is_in n (drawn entries) && is_moved entries m n)) || is_later more m n

-- whether two numbers of a subscriber are of one period
abbrev pub is_one_period : List (List Entry) → ℕ → ℕ → Bool
is_one_period stretches m n = not (is_later stretches m n) && not (is_later stretches n m)

-- the place of a number of a stretch in its period, counted from 1: how many drawn numbers are at most that number and
-- have no move between it and them
abbrev pub place_in : List Entry → ℕ → ℕ
place_in entries n = length (filter (λ m. nat_le m n && not (is_moved entries m n)) (drawn entries))

-- the place of a number in its period: its place in the stretch in which it was drawn
abbrev pub place_of : List (List Entry) → ℕ → ℕ
place_of [] n = 0
place_of (entries ∷ more) n = if is_in n (drawn entries) then place_in entries n else place_of more n

-- a place is later than another by an age limit or more, if there is one
abbrev pub IsAgedBy : Option ℕ → ℕ → ℕ → Type 0
IsAgedBy None place later = ⊥
IsAgedBy (Some limit) place later = place + limit ≤ later

-- a place is stale by another: they are the same, the other is a positive multiple of the index's values later, or it is the age
-- limit or more later
abbrev pub IsStaleBy : ℕ → Option ℕ → ℕ → ℕ → Type 0
IsStaleBy bits age place later = ((turns : ℕ) × (later ≡ place + indices bits * turns)) ⊎ IsAgedBy age place later

-- a number fails by its place: its SQN was accepted before, or the SQN of a number that was drawn in its period a
-- positive multiple of 2 ^ bits places later, or the age limit or more later
pub record FailsByPlace (bits : ℕ) (age : Option ℕ) (stretches : List (List Entry)) (before : List (List ℕ)) (n : ℕ) : Type 0 where
  pub other : ℕ
  -- it is no mark: a mark may have the 6 bytes of a lesser number's SQN
  pub within : other ≤ top_of bits
  pub was_accepted : Contains before (sqn_bytes bits other)
  pub one_period : is_one_period stretches other n ≡ true
  pub stale : IsStaleBy bits age (place_of stretches n) (place_of stretches other)

-- ---- failures

-- the SQN of a number that some entries of the subscriber drew, and that is no mark
abbrev pub IsGenuine : ℕ → List Entry → List ℕ → Type 0
IsGenuine bits entries sqn = (m : ℕ) × (m ≤ top_of bits) × Contains (drawn entries) m × (sqn ≡ sqn_bytes bits m)

-- a presented number is in reach: each SQN that was accepted before was drawn for the subscriber, none of a later period,
-- the number is at most 2 ^ 28 above the greatest that counts as accepted, and it is above the USIM's opening
pub record IsInReach (bits : ℕ) (stretches : List (List Entry)) (opening : ℕ) (before : List (List ℕ)) (n : ℕ) : Type 0 where
  pub genuine : All (IsGenuine bits (all_entries stretches)) before
  pub earlier : All (λ sqn. is_later stretches n (seq_of bits sqn) ≡ false) before
  pub near : n ≤ fold max opening (map (seq_of bits) before) + 2 ^ 28
  pub above : opening < n

-- a USIM's answer is a synchronisation failure
abbrev pub IsFailure : GiveVerdict → Type 0
IsFailure given.Accepted = ⊥
IsFailure (given.Sync sqn_ms) = Unit {0}
IsFailure given.Absent = ⊥

-- a vector is presented to its subscriber's USIM after some lines of a transcript
pub record IsPresented (records : List PartRecord) (before : List LineRecord) (sub n : ℕ) (answer : GiveVerdict) : Type 0 where
  pub after : List LineRecord
  pub lines_are : lines_of records ≡ before ++ Give sub n answer ∷ after
  -- the centre had released it
  pub released : answer ≢ given.Absent

-- each released vector that is in reach gets a synchronisation failure if and only if it fails by its place
abbrev pub FailsExactlyByPlace : List Row → List PartRecord → Type 0
FailsExactlyByPlace rows records = (before : List LineRecord) (sub n : ℕ) (answer : GiveVerdict) (row : Row)
    → IsPresented records before sub n answer → slice_get rows sub ≡ Some row
    → IsInReach row.bits (stretches_of sub records) row.usim (accepted row.bits sub before) n
    → IsFailure answer ↔ FailsByPlace row.bits row.age (stretches_of sub records) (accepted row.bits sub before) n

-- ---- the laws

abbrev pub EachTranscriptKeepsNumbersApart : Type 0
EachTranscriptKeepsNumbersApart = (set : Setting) (reserved : List ℕ) (stop : Option Stop) (parts : List Part) (records : List PartRecord)
    → AreSubscribers set.rows → IsLawful set reserved stop parts records → VectorsDiffer set.rows records

abbrev pub EachNumberIsAboveReserved : Type 0
EachNumberIsAboveReserved = (set : Setting) (reserved : List ℕ) (stop : Option Stop) (parts : List Part) (records : List PartRecord)
    → IsLawful set reserved stop parts records → AreAboveReserved (length set.rows) reserved (lines_of records)

abbrev pub EachUsimAcceptsNoneTwice : Type 0
EachUsimAcceptsNoneTwice = (set : Setting) (reserved : List ℕ) (stop : Option Stop) (parts : List Part) (records : List PartRecord)
    → AreSubscribers set.rows → IsLawful set reserved stop parts records → AcceptsNoneTwice set.rows records

abbrev pub EachFailureIsByPlace : Type 0
EachFailureIsByPlace = (set : Setting) (reserved : List ℕ) (stop : Option Stop) (parts : List Part) (records : List PartRecord)
    → AreSubscribers set.rows → IsLawful set reserved stop parts records → FailsExactlyByPlace set.rows records

-- a line that isn't an event's
abbrev pub IsOutsideSessions : LineRecord → Type 0
IsOutsideSessions (Number sub note) = Unit {0}
IsOutsideSessions (Sync sub answer) = Unit {0}
IsOutsideSessions (Give sub n answer) = Unit {0}
IsOutsideSessions (Further said) = Unit {0}
IsOutsideSessions (Event r) = ⊥

-- without sessions each accepted SQN was drawn for the subscriber, so that the premise `genuine` holds always
abbrev pub EachSqnOutsideSessionsIsGenuine : Type 0
EachSqnOutsideSessionsIsGenuine =
    (set : Setting) (reserved : List ℕ) (stop : Option Stop) (parts : List Part) (records : List PartRecord) (before after : List LineRecord) (sub : ℕ) (row : Row)
    → IsLawful set reserved stop parts records → lines_of records ≡ before ++ after → All IsOutsideSessions before → slice_get set.rows sub ≡ Some row
    → All (IsGenuine row.bits (all_entries (stretches_of sub records))) (accepted row.bits sub before)

-- a restart may follow every lawful transcript: some limits meet what is asked of them
abbrev pub EachTranscriptMayRestart : Type 0
EachTranscriptMayRestart = (set : Setting) (reserved : List ℕ) (parts : List Part) (records : List PartRecord) → All (λ limit. limit ≤ max_seq) reserved
    → IsLawful set reserved None parts records → IsLawful set reserved None (parts ++ Restart ∷ []) (records ++ record_of.Restart ∷ [])
