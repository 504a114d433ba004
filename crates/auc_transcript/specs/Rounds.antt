-- The law of failures for transcripts without a restart. There the entries of all rounds are one stretch, so periods
-- end at moves alone, and a place counts the drawn numbers of a period.
use Rattle.std.specs.Prelude.{◌≡◌, ◌↔◌, ℕ, ◌+◌, ◌^◌, ◌<◌, ◌≤◌, ◌&&◌, max, nat_le, not, Bool, true, false, Option, Some, List, ◌++◌, length, filter, flat_map, fold, map, All, Contains, slice_get}
use Rattle.std.specs.List.{list_any}
use Rattle.auc_memory.specs.declared.stop.Stop.{Stop}
use Rattle.auc_history.specs.declared.entry.Entry.{Entry}
use Rattle.auc_history.specs.History.{drawn}
use Rattle.auc_lines.specs.declared.part.Part.{Part}
use Rattle.auc_sqn.specs.Number.{seq_of, sqn_bytes, top_of}
use Rattle.auc_subs.specs.Subscriber.{AreSubscribers}
use Rattle.auc_subs.specs.declared.row.Row.{Row}
use Rattle.auc_record.specs.declared.record.GiveVerdict.{GiveVerdict}
use Rattle.auc_record.specs.declared.record.LineRecord.{LineRecord}
use Rattle.auc_record.specs.declared.record.PartRecord.TheVariants as record_of
use Rattle.auc_record.specs.declared.record.RoundRecord.{RoundRecord}
use Rattle.auc_record.specs.Lines.{accepted}
use Rattle.auc_subs.specs.Setting.{Setting}
use Rattle.auc_world.specs.Transcript.{IsLawful, entries_of, lines_of}
use Rattle.auc_transcript.specs.Headline.{IsFailure, IsGenuine, IsOutsideSessions, IsPresented, IsStaleBy, moves_between}

-- the entries of a subscriber in all rounds, one round after the other
abbrev pub entries_of_rounds : ℕ → List RoundRecord → List Entry
entries_of_rounds sub rounds = flat_map (entries_of sub) rounds

-- whether a subscriber's second number is of a later period than the first: a resynchronisation moved the
-- centre's number between the two
abbrev pub is_of_later_period : List Entry → ℕ → ℕ → Bool
is_of_later_period entries m n = list_any (moves_between m n) entries

-- whether two numbers of a subscriber are of one period
abbrev pub is_of_one_period : List Entry → ℕ → ℕ → Bool
is_of_one_period entries m n = not (is_of_later_period entries m n) && not (is_of_later_period entries n m)

-- the place of a number in its period, counted from 1: how many drawn numbers of the period are at most that
-- number, since a subscriber's numbers rise
abbrev pub place_in_period : List Entry → ℕ → ℕ
place_in_period entries n = length (filter (λ m. nat_le m n && is_of_one_period entries m n) (drawn entries))

-- a number fails by its place: its SQN was accepted before, or the SQN of a number that was drawn in its period a
-- positive multiple of 2 ^ bits places later, or the age limit or more later
pub record FailsByPlaceInRounds (bits : ℕ) (age : Option ℕ) (entries : List Entry) (before : List (List ℕ)) (n : ℕ) : Type 0 where
  pub other : ℕ
  -- it is no mark: a mark may have the 6 bytes of a lesser number's SQN
  pub within : other ≤ top_of bits
  pub was_accepted : Contains before (sqn_bytes bits other)
  pub one_period : is_of_one_period entries other n ≡ true
  pub stale : IsStaleBy bits age (place_in_period entries n) (place_in_period entries other)

-- a presented number is in reach: each SQN that was accepted before was drawn for the subscriber, none of a later period,
-- the number is at most 2 ^ 28 above the greatest that counts as accepted, and it is above the USIM's opening
pub record IsInReachInRounds (bits : ℕ) (entries : List Entry) (opening : ℕ) (before : List (List ℕ)) (n : ℕ) : Type 0 where
  pub genuine : All (IsGenuine bits entries) before
  pub earlier : All (λ sqn. is_of_later_period entries n (seq_of bits sqn) ≡ false) before
  pub near : n ≤ fold max opening (map (seq_of bits) before) + 2 ^ 28
  pub above : opening < n

-- each released vector that is in reach gets a synchronisation failure if and only if it fails by its place
abbrev pub FailsExactlyByPlaceInRounds : List Row → List RoundRecord → Type 0
FailsExactlyByPlaceInRounds rows rounds = (before : List LineRecord) (sub n : ℕ) (answer : GiveVerdict) (row : Row)
    → IsPresented (map record_of.Round rounds) before sub n answer → slice_get rows sub ≡ Some row
    → IsInReachInRounds row.bits (entries_of_rounds sub rounds) row.usim (accepted row.bits sub before) n
    → IsFailure answer ↔ FailsByPlaceInRounds row.bits row.age (entries_of_rounds sub rounds) (accepted row.bits sub before) n

-- the law
abbrev pub EachFailureInRoundsIsByPlace : Type 0
EachFailureInRoundsIsByPlace = (set : Setting) (reserved : List ℕ) (stop : Option Stop) (parts : List Part) (rounds : List RoundRecord)
    → AreSubscribers set.rows → IsLawful set reserved stop parts (map record_of.Round rounds) → FailsExactlyByPlaceInRounds set.rows rounds

-- without sessions the premise `genuine` holds always
abbrev pub EachSqnInRoundsIsGenuine : Type 0
EachSqnInRoundsIsGenuine =
    (set : Setting) (reserved : List ℕ) (stop : Option Stop) (parts : List Part) (rounds : List RoundRecord) (before after : List LineRecord) (sub : ℕ) (row : Row)
    → IsLawful set reserved stop parts (map record_of.Round rounds) → lines_of (map record_of.Round rounds) ≡ before ++ after → All IsOutsideSessions before
    → slice_get set.rows sub ≡ Some row → All (IsGenuine row.bits (entries_of_rounds sub rounds)) (accepted row.bits sub before)
