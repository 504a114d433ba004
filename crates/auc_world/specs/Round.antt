-- A lawful round: what its jobs ask of its records, and what the records say of each subscriber's history.
-- Nothing here speaks of an order between the steps of different jobs.
use Rattle.std.specs.Prelude.{◌≡◌, ℕ, ◌+◌, ◌^◌, ◌<◌, ◌==◌, Option, Some, None, List, [], ◌∷◌, ◌++◌, All, length, map, slice_index, if◌then◌else◌}
use Rattle.auc_memory.specs.declared.stop.Stop.{Stop}
use Rattle.auc_history.specs.History.{drawn, skipped}
use Rattle.auc_history.specs.Split.{Splits, all_entries}
use Rattle.auc_lines.specs.declared.part.Line.{Line}
use Rattle.auc_subs.specs.Subscriber.{top_at}
use Rattle.auc_record.specs.declared.record.Closing.{Closing}
use Rattle.auc_record.specs.declared.record.LineRecord.{LineRecord}
use Rattle.auc_vector.specs.declared.notes.NumberNote.{NumberNote}
use Rattle.auc_vector.specs.declared.notes.NumberNote.TheVariants as number
use Rattle.auc_record.specs.declared.record.RoundRecord.{RoundRecord}
use Rattle.auc_record.specs.Entries.{entries_of_jobs}
use Rattle.auc_world.specs.Given.{JobsGive}
use Rattle.auc_record.specs.Lines.{number_said, numbers_of, withheld_of, all_lines}
use Rattle.auc_world.specs.Net.{Net}
use Rattle.auc_world.specs.Sessions.{AreVerdicts, job_sessions, premise_from}
use Rattle.auc_subs.specs.Setting.{Setting}
use Rattle.auc_world.specs.Start.{Kept}

-- the closing of a subscriber whose word moved from an opening to a closing, with the counts of its entries and of
-- its vectors; there is none if the word stood
abbrev pub closing_of : ℕ → ℕ → ℕ → List (List LineRecord) → List Closing
closing_of sub opening closing jobs =
    if opening == closing then [] else record {
      sub = sub;
      first = opening;
      last = closing;
      drawn = length (drawn (all_entries (entries_of_jobs sub [] jobs)));
      skipped = skipped (all_entries (entries_of_jobs sub [] jobs));
      released = length (numbers_of sub (all_lines jobs));
      withheld = length (withheld_of sub (all_lines jobs));
    } ∷ []

-- the closings of the subscribers from one on, in their order
abbrev pub closings_from : ℕ → List ℕ → List ℕ → List (List LineRecord) → List Closing
closings_from sub [] words jobs = []
closings_from sub (opening ∷ openings) [] jobs = []
closings_from sub (opening ∷ openings) (word ∷ words) jobs =
    closing_of sub opening word jobs ++ closings_from (sub + 1) openings words jobs

-- a note that a number was withheld names this cause
abbrev pub NotesStop : Stop → Option NumberNote → Type 0
NotesStop stop None = Unit {0}
NotesStop stop (Some (number.Drew n)) = Unit {0}
NotesStop stop (Some (number.Exhausted word)) = Unit {0}
NotesStop stop (Some (number.Withheld n cause)) = cause ≡ stop

-- a line that withholds a number names this cause
abbrev pub NamesStop : Stop → LineRecord → Type 0
NamesStop stop line = NotesStop stop (number_said line)

-- what is withheld in a round in which the reservation of numbers stopped: each line names the cause of the stop, and each
-- withheld number is above each number that the round releases for its subscriber
pub record WithholdsAbove (stop : Stop) (lines : List LineRecord) : Type 0 where
  pub causes : All (NamesStop stop) lines
  pub above : (sub : ℕ) → All (λ m. All (λ n. n < m) (numbers_of sub lines)) (withheld_of sub lines)

-- what the lines of a round withhold: nothing, if the reservation of numbers didn't stop in it
abbrev pub Withholds : Option Stop → List LineRecord → Type 0
Withholds None lines = (sub : ℕ) → withheld_of sub lines ≡ []
Withholds (Some stop) lines = WithholdsAbove stop lines

-- a round that opens each subscriber at a word and closes it at a word, after the lines of earlier rounds and with what
-- these left at homes and on devices: its records are what its jobs give, and the jobs' entries of each subscriber split a
-- legal history from the one word to the other. The reservation of numbers may have stopped in it
pub record IsLawfulRound (set : Setting) (stop : Option Stop) (early : List LineRecord) (kept : List Kept) (openings : List ℕ) (jobs : List (List Line)) (round : RoundRecord) (words : List ℕ) : Type 0 where
  pub sizes : length words ≡ length openings
  pub fits : (sub : ℕ) → sub < length words → slice_index words sub < 2 ^ 64
  -- the networks of the jobs' sessions after the last lines
  pub nets : List Net
  pub given : JobsGive set early kept [] jobs round.jobs nets
  pub split : (sub : ℕ) → sub < length openings
      → Splits (top_at set.rows sub) (slice_index openings sub) (slice_index words sub) (entries_of_jobs sub [] round.jobs)
  pub closings : round.closings ≡ closings_from 0 openings words round.jobs
  -- each drawn number that isn't a mark was released or withheld
  pub withheld : Withholds stop (all_lines round.jobs)
  pub sessions : AreVerdicts (map job_sessions nets) round.sessions
  pub premise : round.premise ≡ premise_from 1 (map job_sessions nets)
