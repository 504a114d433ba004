-- Inner facts: what only private contracts of this crate cite. How a reader of `csv` goes through a file's
-- records.
use Rattle.std.specs.Prelude.{◌≡◌, ℕ, ◌<◌, false, List, ◌∷◌, length, Some}
use Rattle.std.specs.Borrow.{Bor}
use Rattle.csv.specs.Machine.{ends_at_end}
use Rattle.csv.specs.Reading.{Ready, default_config, reader_config, reader_state, reader_trim, records_from, source_of}
use Rattle.csv.specs.declared.reader.Reader.{Reader}
use Rattle.csv.specs.declared.reader.Trim.TheVariants as trim

-- a reader of a file stands between two records, before these
pub record IsBefore (reader : Reader (Bor (List ℕ))) (left : List (List (List ℕ))) : Type 0 where
  pub untrimmed : reader_trim reader ≡ trim.None
  pub ready : Ready reader
  pub config : reader_config reader ≡ default_config
  pub between : ends_at_end (reader_state reader) ≡ false
  pub bytes : List ℕ
  pub source : source_of (λ s. Some s.now) reader ≡ Some bytes
  pub count : ℕ
  pub enough : length bytes < count
  pub told : left ≡ records_from default_config count (reader_state reader) bytes

-- the reader went on by one record with these fields
abbrev pub WentOn : Reader (Bor (List ℕ)) → List (List (List ℕ)) → List (List ℕ) → Type 0
WentOn reader left fields = (rest : List (List (List ℕ))) × (left ≡ fields ∷ rest) × IsBefore reader rest
