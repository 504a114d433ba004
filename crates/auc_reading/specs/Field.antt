-- The forms of a line's fields, each with the cause that a field of another form gives.
use Rattle.std.specs.Prelude.{ℕ, ◌&&◌, nat_le, Bool, true, false, List, [], ◌∷◌, length, codes, Option, Some, None, Result, Ok, Err, slice_index, if◌then◌else◌}
use Rattle.std.specs.List.{list_all}
use Rattle.std.specs.Option.{ok_or}
use Rattle.std.specs.Char.{is_ascii_digit}
use Rattle.auc_memory.specs.Identity.{number_of}
use Rattle.auc_subs.specs.Steps.{◌>>=◌}
use Rattle.auc_text.specs.Field.{octets_in}
use Rattle.auc_text.specs.Text.{is_text}
use Rattle.auc_reading.specs.declared.refusal.ScriptWhy.{ScriptWhy}
use Rattle.auc_reading.specs.declared.refusal.ScriptWhy.TheVariants as why
use Rattle.auc_lines.specs.declared.part.End.{End}
use Rattle.auc_lines.specs.declared.part.End.TheVariants.{Server, Peer}

-- a test that has to hold
abbrev pub require : Bool → ScriptWhy → Result (Unit {0}) ScriptWhy
require holds cause = if holds then Ok tt else Err cause

-- so many fields: none to four
abbrev pub no_field : List (List ℕ) → Result (Unit {0}) ScriptWhy
no_field [] = Ok tt
no_field (a ∷ more) = Err why.Fields

abbrev pub one_field : List (List ℕ) → Result (List ℕ) ScriptWhy
one_field (a ∷ []) = Ok a
one_field other = Err why.Fields

abbrev pub two_fields : List (List ℕ) → Result (List ℕ × List ℕ) ScriptWhy
two_fields (a ∷ b ∷ []) = Ok (a, b)
two_fields other = Err why.Fields

abbrev pub three_fields : List (List ℕ) → Result (List ℕ × List ℕ × List ℕ) ScriptWhy
three_fields (a ∷ b ∷ c ∷ []) = Ok (a, b, c)
three_fields other = Err why.Fields

abbrev pub four_fields : List (List ℕ) → Result (List ℕ × List ℕ × List ℕ × List ℕ) ScriptWhy
four_fields (a ∷ b ∷ c ∷ d ∷ []) = Ok (a, b, c, d)
four_fields other = Err why.Fields

-- one field, or none
abbrev pub optional_field : List (List ℕ) → Result (Option (List ℕ)) ScriptWhy
optional_field [] = Ok None
optional_field (a ∷ []) = Ok (Some a)
optional_field other = Err why.Fields

-- 1 to 20 decimal digits
abbrev pub is_number : List ℕ → Bool
is_number text = nat_le 1 (length text) && nat_le (length text) 20 && list_all is_ascii_digit text

-- a number of a range
abbrev pub number_between : ℕ → ℕ → List ℕ → Result ℕ ScriptWhy
number_between least greatest text =
    if is_number text
    then (if nat_le least (number_of text) && nat_le (number_of text) greatest then Ok (number_of text) else Err why.Number)
    else Err why.Fields

abbrev pub some_bit : Result ℕ ScriptWhy → Result (Option ℕ) ScriptWhy
some_bit (Ok bit) = Ok (Some bit)
some_bit (Err cause) = Err cause

-- a bit up to the last one, or - for none
abbrev pub bit_in : ℕ → List ℕ → Result (Option ℕ) ScriptWhy
bit_in last text = if is_text text (codes "-") then Ok None else some_bit (number_between 0 last text)

-- a byte of two hexadecimal digits
abbrev pub byte_in : List ℕ → Result ℕ ScriptWhy
byte_in text = ok_or (octets_in 1 text) why.Hex >>= λ octets. Ok (slice_index octets 0)

-- an end of a session
abbrev pub end_in : List ℕ → Result End ScriptWhy
end_in text =
    if is_text text (codes "server") then Ok Server
    else if is_text text (codes "peer") then Ok Peer
    else Err why.Fields

-- whether vectors are printed in full
abbrev pub full_in : List ℕ → Result Bool ScriptWhy
full_in text =
    if is_text text (codes "brief") then Ok false
    else if is_text text (codes "full") then Ok true
    else Err why.Fields
