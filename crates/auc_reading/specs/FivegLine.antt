-- The fields of a `fiveg` line, and what they say.
use Rattle.std.specs.Prelude.{ℕ, Bool, true, false, List, ◌∷◌, codes, Option, Some, None, Result, Ok, Err, if◌then◌else◌}
use Rattle.auc_lines.specs.declared.part.FivegLine.{FivegLine}
use Rattle.auc_text.specs.Text.{is_text}
use Rattle.auc_reading.specs.declared.refusal.ScriptWhy.{ScriptWhy}
use Rattle.auc_reading.specs.declared.refusal.ScriptWhy.TheVariants as why
use Rattle.auc_subs.specs.Steps.{◌>>=◌}
use Rattle.auc_reading.specs.Field.{optional_field}

-- IMSI HOMENAME DEVICENAME BIT, and a fifth word, if there is one
pub record FivegFields : Type 0 where
  pub imsi : List ℕ
  pub home : List ℕ
  pub device : List ℕ
  pub bit : List ℕ
  pub fifth : Option (List ℕ)

abbrev pub fiveg_fields : List (List ℕ) → Result FivegFields ScriptWhy
fiveg_fields (a ∷ b ∷ c ∷ d ∷ more) = do
  fifth ← optional_field more
  Ok (record { imsi = a; home = b; device = c; bit = d; fifth = fifth })
fiveg_fields other = Err why.Fields

-- whether the fifth word says that HXRES* is told; it is no other word
abbrev pub hxres_in : Option (List ℕ) → Result Bool ScriptWhy
hxres_in None = Ok false
hxres_in (Some word) = if is_text word (codes "hxresstar") then Ok true else Err why.Fields

-- the line of a subscriber's place, by a bit, whether HXRES* is told, and the fields, of which - is a name like any other
abbrev pub fiveg_line : ℕ → Option ℕ → Bool → FivegFields → FivegLine
fiveg_line sub bit hxres f = record { sub = sub; home = f.home; device = f.device; bit = bit; hxres = hxres }
