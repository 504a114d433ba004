-- What the lines of a round count for each subscriber, and the closings by these counts.
use Rattle.std.specs.Prelude.{◌≡◌, ℕ, ◌+◌, ◌-◌, ◌^◌, ◌<◌, ◌==◌, min, List, [], ◌∷◌, ◌++◌, length, sum_by, Some, slice_get, if◌then◌else◌}
use Rattle.auc_record.specs.declared.record.Closing.{Closing}
use Rattle.auc_record.specs.declared.record.LineRecord.{LineRecord}
use Rattle.auc_record.specs.Event.{number_passed, number_released, number_withheld}
use Rattle.auc_record.specs.Lines.{number_said, numbers_of, resync_by, resync_said, withheld_of}
use Rattle.auc_record.specs.declared.counting.Count.{Count}

-- how many numbers of a subscriber a line passed over
abbrev pub passed_by : ℕ → LineRecord → ℕ
passed_by sub line = number_passed (resync_by sub line)

-- how many numbers of a subscriber some lines passed over
abbrev pub passed_in : ℕ → List LineRecord → ℕ
passed_in sub lines = sum_by (passed_by sub) lines

-- a count, as far as a machine word of 64 bits counts
abbrev pub capped : ℕ → ℕ
capped n = min n (2 ^ 64 - 1)

-- a count with a further line of its subscriber
abbrev pub count_with : Count → LineRecord → Count
count_with count line = record {
  released = capped (count.released + length (number_released (number_said line)));
  withheld = capped (count.withheld + length (number_withheld (number_said line)));
  skipped = capped (count.skipped + number_passed (resync_said line));
}

-- the count of a subscriber in some lines
abbrev pub counted_in : ℕ → List LineRecord → Count
counted_in sub lines = record {
  released = capped (length (numbers_of sub lines));
  withheld = capped (length (withheld_of sub lines));
  skipped = capped (passed_in sub lines);
}

-- each count is that of its subscriber in some lines
pub record AreCounted (lines : List LineRecord) (counts : List Count) : Type 0 where
  pub each : (sub : ℕ) → sub < length counts → slice_get counts sub ≡ Some (counted_in sub lines)

-- the closing of a subscriber by its words and its count
abbrev pub counted_closing : ℕ → ℕ → ℕ → Count → List Closing
counted_closing sub opening closing count = if opening == closing then [] else record {
  sub = sub;
  first = opening;
  last = closing;
  drawn = closing - opening - count.skipped;
  skipped = count.skipped;
  released = count.released;
  withheld = count.withheld;
} ∷ []

-- the closings of the subscribers from one on, in their order
abbrev pub counted_closings : ℕ → List ℕ → List ℕ → List Count → List Closing
counted_closings sub [] words counts = []
counted_closings sub (opening ∷ openings) [] counts = []
counted_closings sub (opening ∷ openings) (word ∷ words) [] = []
counted_closings sub (opening ∷ openings) (word ∷ words) (count ∷ counts) =
    counted_closing sub opening word count ++ counted_closings (sub + 1) openings words counts
