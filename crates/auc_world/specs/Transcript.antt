-- Lawful transcripts: the parts of a scenario, one after the other.
use Rattle.std.specs.Prelude.{◌≡◌, ℕ, ◌+◌, ◌<◌, ◌≤◌, Option, None, List, [], ◌∷◌, ◌++◌, length, flat_map, map, All, slice_index}
use Rattle.auc_memory.specs.declared.stop.Stop.{Stop}
use Rattle.auc_history.specs.declared.entry.Entry.{Entry}
use Rattle.auc_history.specs.Split.{all_entries}
use Rattle.auc_lines.specs.declared.part.Line.{Line}
use Rattle.auc_lines.specs.declared.part.Part.{Part}
use Rattle.auc_lines.specs.declared.part.Part.TheVariants.{Round, Restart}
use Rattle.auc_subs.specs.Subscriber.{top_at}
use Rattle.auc_subs.specs.declared.row.Row.{Row}
use Rattle.auc_record.specs.declared.record.LineRecord.{LineRecord}
use Rattle.auc_record.specs.declared.record.PartRecord.{PartRecord}
use Rattle.auc_record.specs.declared.record.PartRecord.TheVariants as record_of
use Rattle.auc_record.specs.declared.record.RoundRecord.{RoundRecord}
use Rattle.auc_record.specs.Entries.{entries_of_jobs}
use Rattle.auc_world.specs.Limits.{greater, opened, Raises}
use Rattle.auc_record.specs.Openings.{reopened}
use Rattle.auc_record.specs.Lines.{all_lines, numbers_of}
use Rattle.auc_world.specs.Round.{IsLawfulRound}
use Rattle.auc_world.specs.Net.{Net}
use Rattle.auc_subs.specs.Setting.{Setting}
use Rattle.auc_world.specs.Start.{Kept, fresh_kept, kept_by_jobs}

-- ---- from part to part

-- what a part of a transcript goes on from
pub record Course : Type 0 where
  -- the number of the next round; a restart has none
  pub number : ℕ
  -- the lines of all rounds so far
  pub early : List LineRecord
  -- what they left of each subscriber at its home and on its device
  pub kept : List Kept
  -- the words at which the next round opens the subscribers
  pub openings : List ℕ
  -- the limits at the beginning, or of the last restart
  pub limits : List ℕ
  -- each subscriber's greatest closing word so far
  pub highs : List ℕ

-- at the beginning each subscriber is opened at its own number, or at what was reserved for it
abbrev pub beginning : List Row → List ℕ → Course
beginning rows reserved = record {
  number = 1;
  early = [];
  kept = map (λ row. fresh_kept) rows;
  openings = opened rows reserved;
  limits = reserved;
  highs = [];
}

-- after a round that closed the subscribers at some words, with these networks of its jobs after the last lines
abbrev pub after_round : List Row → Course → RoundRecord → List ℕ → List Net → Course
after_round rows at round words nets = record {
  number = at.number + 1;
  early = at.early ++ all_lines round.jobs;
  kept = kept_by_jobs at.kept nets;
  openings = reopened rows words;
  limits = at.limits;
  highs = greater words at.highs;
}

-- after a restart with some limits: a move that no draw followed is forgotten
abbrev pub after_restart : List Row → Course → List ℕ → Course
after_restart rows at limits = record {
  number = at.number;
  early = at.early;
  kept = at.kept;
  openings = opened rows limits;
  limits = limits;
  highs = at.highs;
}

-- a round of the next number, from the openings to some words
pub record ServesRound (set : Setting) (stop : Option Stop) (at : Course) (jobs : List (List Line)) (round : RoundRecord) (next : Course) : Type 0 where
  pub numbered : round.number ≡ at.number
  pub words : List ℕ
  pub lawful : IsLawfulRound set stop at.early at.kept at.openings jobs round words
  pub leads : next ≡ after_round set.rows at round words lawful.nets

-- a restart with some limits
pub record Restarts (set : Setting) (at next : Course) : Type 0 where
  pub limits : List ℕ
  pub raises : Raises set.rows at.early at.limits at.highs limits
  pub leads : next ≡ after_restart set.rows at limits

-- a part of a scenario, its record, and what the next part goes on from
abbrev pub ServesPart : Setting → Option Stop → Course → Part → PartRecord → Course → Type 0
ServesPart set stop at (Round jobs) (record_of.Round round) next = ServesRound set stop at jobs round next
ServesPart set stop at (Round jobs) record_of.Restart next = ⊥
ServesPart set stop at Restart (record_of.Round round) next = ⊥
ServesPart set stop at Restart record_of.Restart next = Restarts set at next

-- a restart opens each subscriber at no less than each number that was released for it, since none was above its greatest
abbrev pub EachRestartOpensAboveReleased : Type 0
EachRestartOpensAboveReleased = (set : Setting) (at next : Course) (sub : ℕ) → Restarts set at next → sub < length set.rows
    → All (λ n. n ≤ top_at set.rows sub) (numbers_of sub at.early)
    → All (λ n. n ≤ slice_index next.openings sub) (numbers_of sub at.early)

-- ---- transcripts

-- if the reservation of numbers stopped in a transcript, it stopped in the last part: why it stopped in a part that these
-- records follow
abbrev pub stop_before : Option Stop → List PartRecord → Option Stop
stop_before stop [] = stop
stop_before stop (next ∷ more) = None

-- the records of some parts of a scenario, one after the other, and what they lead to
abbrev pub Leads : Setting → Option Stop → Course → List Part → List PartRecord → Course → Type 0
Leads set stop at [] records end = (records ≡ []) × (end ≡ at)
Leads set stop at (part ∷ parts) [] end = ⊥
Leads set stop at (part ∷ parts) (first ∷ records) end =
    (next : Course) × ServesPart set (stop_before stop records) at part first next × Leads set stop next parts records end

-- a transcript of some parts of a scenario, before which these numbers were reserved. The reservation of numbers may
-- have stopped in its last part
abbrev pub IsLawful : Setting → List ℕ → Option Stop → List Part → List PartRecord → Type 0
IsLawful set reserved stop parts records = (end : Course) × Leads set stop (beginning set.rows reserved) parts records end

-- ---- what a transcript says

-- the lines of a part's record
abbrev pub lines_in : PartRecord → List LineRecord
lines_in (record_of.Round round) = all_lines round.jobs
lines_in record_of.Restart = []

-- the lines of all rounds, one round after the other
abbrev pub lines_of : List PartRecord → List LineRecord
lines_of records = flat_map lines_in records

-- the entries of a subscriber in a round
abbrev pub entries_of : ℕ → RoundRecord → List Entry
entries_of sub round = all_entries (entries_of_jobs sub [] round.jobs)

-- entries before those of the first stretch
abbrev pub before_first : List Entry → List (List Entry) → List (List Entry)
before_first entries [] = entries ∷ []
before_first entries (first ∷ more) = (entries ++ first) ∷ more

-- the entries of a subscriber, a list for each stretch: up to the first restart, from each restart to the next, and after
-- the last one
abbrev pub stretches_of : ℕ → List PartRecord → List (List Entry)
stretches_of sub [] = [] ∷ []
stretches_of sub (record_of.Round round ∷ records) = before_first (entries_of sub round) (stretches_of sub records)
stretches_of sub (record_of.Restart ∷ records) = [] ∷ stretches_of sub records
