-- Some of a round's subscribers by themselves: those that its lines name, each at a place of its own; and what such a round says, said of
-- all subscribers.
use Rattle.std.specs.Prelude.{◌≡◌, ◌<◌, ℕ, Bool, true, false, All, AllPairs, Contains, List, [], ◌∷◌, flat_map, length, map, slice_get, slice_index, slice_set}
use Rattle.auc_cards.specs.Known.{AreKnown}
use Rattle.auc_lines.specs.declared.part.Line.{Line}
use Rattle.auc_lines.specs.declared.part.Line.TheVariants as line
use Rattle.auc_lines.specs.declared.part.Report.{Report}
use Rattle.auc_lines.specs.declared.part.Report.TheVariants.{Seq, Auts}
use Rattle.auc_subs.specs.declared.row.Row.{Row}
use Rattle.auc_record.specs.declared.record.Closing.{Closing}
use Rattle.auc_record.specs.declared.record.LineRecord.{LineRecord}
use Rattle.auc_record.specs.declared.record.LineRecord.TheVariants as said
use Rattle.auc_record.specs.declared.record.RoundRecord.{RoundRecord}

-- ---- plain lines

-- whether a report is an AUTS as it came: what it says rests on the row of its subscriber alone, and not on the row's place
abbrev pub is_as_it_came : Report → Bool
is_as_it_came (Seq seq bit) = false
is_as_it_came (Auts auts rand) = true

-- whether a line asks for numbers, or hands over an AUTS as it came
abbrev pub is_plain : Line → Bool
is_plain (line.Draw sub count) = true
is_plain (line.Sync sub report count) = is_as_it_came report
is_plain _ = false

-- the lines of some jobs are plain
abbrev pub ArePlain : List (List Line) → Type 0
ArePlain jobs = All (λ job. All (λ line. is_plain line ≡ true) job) jobs

-- ---- places

-- a plain line about the subscriber of a place, as one about the subscriber whose place among all stands there
abbrev pub line_of : List ℕ → Line → Line
line_of places (line.Draw sub count) = line.Draw (slice_index places sub) count
line_of places (line.Sync sub report count) = line.Sync (slice_index places sub) report count
line_of places other = other

abbrev pub lines_of : List ℕ → List (List Line) → List (List Line)
lines_of places jobs = map (λ job. map (line_of places) job) jobs

-- the same of what a plain line gave
abbrev pub record_of : List ℕ → LineRecord → LineRecord
record_of places (said.Number sub note) = said.Number (slice_index places sub) note
record_of places (said.Sync sub note) = said.Sync (slice_index places sub) note
record_of places (said.Give sub n verdict) = said.Give (slice_index places sub) n verdict
record_of places (said.Further further) = said.Further further
record_of places (said.Event event) = said.Event event

abbrev pub records_of : List ℕ → List (List LineRecord) → List (List LineRecord)
records_of places jobs = map (λ lines. map (record_of places) lines) jobs

-- of a closing
abbrev pub closing_of : List ℕ → Closing → Closing
closing_of places closing = record closing { sub = slice_index places closing.sub }

-- and of a round
abbrev pub round_of : List ℕ → RoundRecord → RoundRecord
round_of places round = record round {
  jobs = records_of places round.jobs;
  closings = map (closing_of places) round.closings;
}

-- the words of all subscribers after those at some places became these
abbrev pub put_words : List ℕ → List ℕ → List ℕ → List ℕ
put_words words [] own = words
put_words words (place ∷ places) [] = words
put_words words (place ∷ places) (word ∷ own) = put_words (slice_set words place word) places own

-- ---- some of the subscribers

-- the rows at these places, which rise, are some rows by themselves
pub record AreAt (rows : List Row) (places : List ℕ) (own : List Row) : Type 0 where
  pub rising : AllPairs ◌<◌ places
  pub within : All (λ place. place < length rows) places
  pub size : length own ≡ length places
  pub same : (sub : ℕ) → sub < length places → slice_get own sub ≡ slice_get rows (slice_index places sub)

-- the subscriber of a plain line
abbrev pub sub_of : Line → ℕ
sub_of (line.Draw sub count) = sub
sub_of (line.Sync sub report count) = sub
sub_of _ = 0

-- the subscribers of the lines of some jobs, in their order
abbrev pub subs_of : List (List Line) → List ℕ
subs_of jobs = flat_map (λ job. map sub_of job) jobs

-- jobs over all rows are jobs over those of them that their lines name
pub record AreNamed (rows : List Row) (jobs : List (List Line)) (places : List ℕ) (own : List Row) (lines : List (List Line)) : Type 0 where
  pub at : AreAt rows places own
  -- no other subscriber has a place
  pub only : All (Contains (subs_of jobs)) places
  pub known : All (AreKnown own) lines
  pub plain : ArePlain lines
  pub are : lines_of places lines ≡ jobs
