-- Inner facts: what only private contracts of this crate cite. The fields of a `session` line and of a `fiveg` line, one by one.
use Rattle.std.specs.Prelude.{ℕ, List, Option}
use Rattle.auc_reading.specs.FivegLine.{FivegFields}
use Rattle.auc_reading.specs.SessionLine.{SessionFields}

-- T IMSI METHOD SNAME PNAME OPTIONS IDENTITY
abbrev pub all_seven : List ℕ → List ℕ → List ℕ → List ℕ → List ℕ → List ℕ → List ℕ → SessionFields
all_seven a b c d e f g = record { session = a; imsi = b; method = c; sname = d; pname = e; options = f; identity = g }

-- IMSI HOMENAME DEVICENAME BIT, and a fifth word, if there is one
abbrev pub all_five : List ℕ → List ℕ → List ℕ → List ℕ → Option (List ℕ) → FivegFields
all_five a b c d e = record { imsi = a; home = b; device = c; bit = d; fifth = e }
