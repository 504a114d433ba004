-- Inner facts: what only private contracts of this crate cite. Here: the session of a line for EAP-SIM, and what is said of it.
use Rattle.std.specs.Prelude.{◌≡◌, ℕ, ◌≤◌, List, map, slice_get, Some}
use Rattle.auc_lines.specs.Sim.{SimValue}
use Rattle.auc_sim.specs.Session.{SimRuns}
use Rattle.auc_sim.specs.Triplets.{of_vector}
use Rattle.auc_vector.specs.declared.sim_note.SimNote.{SimNote}
use Rattle.auc_sim_packet.specs.declared.parts.Triplet.{Triplet}
use Rattle.auc_subs.specs.Subscriber.{top_at}
use Rattle.auc_subs.specs.declared.row.Row.{Row}
use Rattle.auc_subs.specs.Setting.{Setting}
use Rattle.auc_world.specs.Sim.{sim_inputs}
use Rattle.auc_record.specs.VectorAt.{vector_of_row}
use Rattle.auc_record.specs.declared.further.Further.TheVariants as further
use Rattle.auc_record.specs.declared.record.LineRecord.{LineRecord}
use Rattle.auc_record.specs.declared.record.LineRecord.TheVariants.{Further}

-- a vector of a subscriber may have the number
pub record IsNumber (rows : List Row) (sub n : ℕ) : Type 0 where
  pub first : 1 ≤ n
  pub last : n ≤ top_at rows sub

-- the triplets of the vectors of a subscriber's numbers, by the subscriber's row
abbrev pub AreTripletsOf : Setting → ℕ → List ℕ → List Triplet → Type 0
AreTripletsOf set sub numbers triplets =
    (row : Row) → slice_get set.rows sub ≡ Some row → triplets ≡ map (λ n. of_vector (vector_of_row set row sub n)) numbers

-- what happens in the session of a line with these numbers
pub record AreNotesOf (set : Setting) (line : SimValue) (numbers : List ℕ) (notes : List SimNote) : Type 0 where
  pub row : Row
  pub there : slice_get set.rows line.sub ≡ Some row
  pub runs : SimRuns (sim_inputs set row line.sub numbers) line.schedule notes

-- the lines that say it
abbrev pub said_lines : ℕ → List SimNote → List LineRecord
said_lines sub notes = map (λ note. Further (further.Sim sub note)) notes
