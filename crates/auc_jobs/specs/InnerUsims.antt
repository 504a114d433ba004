-- Inner facts: what only private contracts of this crate cite. Here: a job's own USIMs, and a USIM that answers.
use Rattle.std.specs.Prelude.{◌≡◌, ℕ, List, [], ◌∷◌, ◌++◌, Option, Some, None, slice_get, if◌then◌else◌}
use Rattle.auc_lines.specs.declared.part.Line.{Line}
use Rattle.auc_lines.specs.Part.{holds}
use Rattle.auc_milenage.specs.Milenage.{f2, f3, f4, f5}
use Rattle.auc_sqn.specs.Number.{sqn_bytes}
use Rattle.auc_subs.specs.declared.row.Row.{Row}
use Rattle.auc_world.specs.Given.{UsimAnswers, past_by, verdict_by as verdict_of_usim}
use Rattle.auc_usim.specs.Usim.{Memory}
use Rattle.auc_record.specs.declared.record.GiveVerdict.{GiveVerdict}
use Rattle.auc_record.specs.declared.record.GiveVerdict.TheVariants as given
use Rattle.auc_record.specs.declared.record.LineRecord.{LineRecord}
use Rattle.auc_record.specs.declared.record.LineRecord.TheVariants.{Give}
use Rattle.auc_jobs.specs.declared.giving.UsimAnswer.{UsimAnswer}
use Rattle.auc_jobs.specs.declared.giving.UsimAnswer.TheVariants.{Accepted, Sync, Absent}
use Rattle.auc_jobs.specs.declared.giving.UsimKeys.{UsimKeys}
use Rattle.auc_jobs.specs.Usims.{AreBehind}
pub use Rattle.auc_cards.specs.Devices.{OwnDevices, usim_in, has_usim}
pub use Rattle.auc_cards.specs.Usims.{put_at, ArePut, ArePutBack}
pub use Rattle.auc_world.specs.World.{Challenges, usim_of}

-- copies of the USIMs that a job holds, and no others
abbrev pub AreCopies : List Memory → List Line → (ℕ → Option Memory) → Type 0
AreCopies usims job own = (sub : ℕ) → own sub ≡ (if holds sub job then slice_get usims sub else None)

-- the vector of a number is presented to its subscriber's USIM after some lines: what it answers, by all that
-- it accepted, and the USIMs after the line that says so
pub record Presents (rows : List Row) (lines : List LineRecord) (sub n : ℕ) (answer : GiveVerdict) (new : ℕ → Option Memory) : Type 0 where
  pub answered : (row : Row) → slice_get rows sub ≡ Some row
      → UsimAnswers row.bits (verdict_of_usim row (past_by row sub lines) n) (past_by row sub lines) answer
  pub behind : AreBehind rows (lines ++ Give sub n answer ∷ []) new

-- the verdict that is recorded of an answer
abbrev pub verdict_by : UsimAnswer → GiveVerdict
verdict_by (Accepted keys) = given.Accepted
verdict_by (Sync sqn_ms) = given.Sync sqn_ms
verdict_by Absent = given.Absent

-- what a USIM with a row's secret hands its device when it accepts the vector of a number (TS 33.102 §6.3.3)
abbrev pub usim_keys : Row → ℕ → List ℕ → UsimKeys
usim_keys row n rand = record {
  res = f2 row.secret.k row.secret.opc rand;
  ck = f3 row.secret.k row.secret.opc rand;
  ik = f4 row.secret.k row.secret.opc rand;
  ak = f5 row.secret.k row.secret.opc rand;
  sqn = sqn_bytes row.bits n;
}

-- an answer has them, if the USIM accepted
abbrev pub HasKeys : Row → ℕ → List ℕ → UsimAnswer → Type 0
HasKeys row n rand (Accepted keys) = keys ≡ usim_keys row n rand
HasKeys row n rand (Sync sqn_ms) = Unit {0}
HasKeys row n rand Absent = Unit {0}
