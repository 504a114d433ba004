-- The vectors of a transcript's records. Those of draws are a function of the subscriber, the number and the setting.
use Rattle.std.specs.Prelude.{◌≡◌, ℕ, List, [], flat_map, Option, Some, None, slice_get}
use Rattle.std.specs.Option.{option_to_list}
use Rattle.auc_hmac.specs.declared.method.Method.TheVariants as method
pub use Rattle.auc_record.specs.VectorAt.{vector_with, vector_at}
use Rattle.auc_subs.specs.Subscriber.{IsRow}
use Rattle.auc_subs.specs.declared.row.Row.{Row}
use Rattle.auc_random.specs.Random.{rand_of}
use Rattle.auc_vector.specs.Vector.{vector_of, Source}
use Rattle.auc_vector.specs.declared.parts.Vector.{Vector as AuthVector}
use Rattle.auc_record.specs.Draws.{IsReleasable}
use Rattle.auc_subs.specs.Setting.{Setting}
use Rattle.auc_record.specs.declared.record.LineRecord.{LineRecord}
use Rattle.auc_released.specs.declared.numbers.Number.{Number as NumberOf}
use Rattle.auc_vector.specs.declared.notes.NumberNote.TheVariants as number
use Rattle.auc_record.specs.Event.{event_vector}
use Rattle.auc_record.specs.Lines.{number_of}
use Rattle.auc_record.specs.declared.record.LineRecord.TheVariants.{Number, Sync, Give, Further, Event}

-- the vector that a line releases; an event's is that of its session's challenge, by the session's method and name
abbrev pub vector_in : Setting → LineRecord → List AuthVector
vector_in set (Number sub (number.Drew n)) = vector_at set sub n
vector_in set (Number sub (number.Exhausted word)) = []
vector_in set (Number sub (number.Withheld n stop)) = []
vector_in set (Sync sub note) = []
vector_in set (Give sub n verdict) = []
vector_in set (Further said) = []
vector_in set (Event r) = option_to_list (event_vector r.result)

-- the vectors that some lines release, in the order of the lines
abbrev pub vectors_in : Setting → List LineRecord → List AuthVector
vectors_in set lines = flat_map (vector_in set) lines

-- ---- how they are made

-- vectors are those of a subscriber's row, with the subscriber's RANDs
pub record AreOfRow (key : List ℕ) (rows : List Row) (sub : ℕ) (source : Source) : Type 0 where
  pub row : Row
  pub there : slice_get rows sub ≡ Some row
  pub is_row : IsRow row
  pub made : source ≡ record { secret = row.secret; amf = row.amf; bits = row.bits; rands = record { key = key; sub = sub } }

-- the vector of a subscriber's number is the one of its row
pub record IsOfRow (key : List ℕ) (rows : List Row) (sub n : ℕ) (vector : AuthVector) : Type 0 where
  pub row : Row
  pub there : slice_get rows sub ≡ Some row
  pub is_row : IsRow row
  pub made : vector ≡ vector_of row.secret method.Aka row.amf [] row.bits n (rand_of key sub n)

-- a number that was released, if one was, is one that a vector may have, of a known subscriber
abbrev pub IsReleasableNumber : Setting → Option NumberOf → Type 0
IsReleasableNumber set None = Unit {0}
IsReleasableNumber set (Some number) = IsReleasable set number.sub number.n

-- a line that releases a vector names a number that a vector may have, and a known subscriber
abbrev pub IsReleasableLine : Setting → LineRecord → Type 0
IsReleasableLine set line = IsReleasableNumber set (number_of line)
