-- What a line for a session of EAP-SIM gives: the vectors that it asks for, and if all of them were released, what happens in a
-- session with their triplets.
use Rattle.std.specs.Prelude.{◌≡◌, ℕ, ◌==◌, Bool, true, false, List, [], ◌++◌, length, map, slice_get, slice_index, Some}
use Rattle.auc_lines.specs.Sim.{SimValue}
use Rattle.auc_random.specs.Random.{sim_nonce}
use Rattle.auc_sim.specs.Identity.{sim_identity}
use Rattle.auc_sim.specs.Session.{SimInputs, SimRuns}
use Rattle.auc_sim.specs.Triplets.{of_vector}
use Rattle.auc_vector.specs.declared.sim_note.SimNote.{SimNote}
use Rattle.auc_subs.specs.declared.row.Row.{Row}
use Rattle.auc_record.specs.Draws.{DrawGives}
use Rattle.auc_record.specs.Lines.{numbers_of}
use Rattle.auc_subs.specs.Setting.{Setting}
use Rattle.auc_record.specs.VectorAt.{vector_of_row}
use Rattle.auc_record.specs.declared.further.Further.TheVariants as further
use Rattle.auc_record.specs.declared.record.LineRecord.{LineRecord}
use Rattle.auc_record.specs.declared.record.LineRecord.TheVariants as record_of

-- the session of a subscriber's numbers: the server has the triplets of their vectors, the peer a USIM with the subscriber's
-- secret, and NONCE_MT is that of the first number
abbrev pub sim_inputs : Setting → Row → ℕ → List ℕ → SimInputs
sim_inputs set row sub numbers = record {
  identity = sim_identity row.imsi set.realm;
  triplets = map (λ n. of_vector (vector_of_row set row sub n)) numbers;
  secret = row.secret;
  nonce = sim_nonce set.key sub (slice_index numbers 0);
}

-- what is said of it
pub record SimFollows (set : Setting) (l : SimValue) (numbers : List ℕ) (lines : List LineRecord) : Type 0 where
  pub row : Row
  pub there : slice_get set.rows l.sub ≡ Some row
  pub notes : List SimNote
  pub runs : SimRuns (sim_inputs set row l.sub numbers) l.schedule notes
  pub lines_are : lines ≡ map (λ note. record_of.Further (further.Sim l.sub note)) notes

-- if all vectors were released; else nothing is said
abbrev pub SimFollowsIf : Bool → Setting → SimValue → List ℕ → List LineRecord → Type 0
SimFollowsIf false set l numbers lines = lines ≡ []
SimFollowsIf true set l numbers lines = SimFollows set l numbers lines

-- what a line gives
pub record SimGives (set : Setting) (l : SimValue) (lines : List LineRecord) : Type 0 where
  pub drawn : List LineRecord
  pub rest : List LineRecord
  pub lines_are : lines ≡ drawn ++ rest
  pub draws : DrawGives set l.sub l.count drawn
  pub follows : SimFollowsIf (length (numbers_of l.sub drawn) == l.count) set l (numbers_of l.sub drawn) rest
