-- The schedule of a line: its parts between commas, and what they say.
use Rattle.std.specs.Prelude.{ℕ, ◌==◌, nat_le, Bool, List, [], ◌∷◌, length, take, drop, Option, Some, None, Result, Ok, if◌then◌else◌}
use Rattle.std.specs.List.{list_all, slice_split}
use Rattle.auc_text.specs.Text.{is_text}
use Rattle.auc_subs.specs.Steps.{◌>>=◌}
use Rattle.auc_reading.specs.declared.refusal.ScriptWhy.{ScriptWhy}
use Rattle.auc_reading.specs.declared.refusal.ScriptWhy.TheVariants as why
use Rattle.auc_reading.specs.Field.{require}
use Rattle.auc_reading.specs.Numbers.{most_events}

-- the parts of a schedule, as they are written: what is between its commas (44)
abbrev pub parts_in : List ℕ → List (List ℕ)
parts_in schedule = slice_split (λ byte. byte == 44) schedule

-- what stands behind a word at the beginning of a text, if the text begins so
abbrev pub behind : List ℕ → List ℕ → Option (List ℕ)
behind word text = if is_text (take (length word) text) word then Some (drop (length word) text) else None

-- a part isn't empty
abbrev pub is_there : List ℕ → Bool
is_there text = nat_le 1 (length text)

-- what some parts say, from left to right, if each says what `read` does
abbrev pub each_of : {A : Type 0} → (List ℕ → Result A ScriptWhy) → List (List ℕ) → Result (List A) ScriptWhy
each_of read [] = Ok []
each_of read (text ∷ more) = do
  first ← read text
  others ← each_of read more
  Ok (first ∷ others)

-- what a schedule says, if each part says what `read` does. How many parts there are, and that none is empty, is tested first
abbrev pub all_of : {A : Type 0} → (List ℕ → Result A ScriptWhy) → List ℕ → Result (List A) ScriptWhy
all_of read schedule = do
  few ← require (nat_le (length (parts_in schedule)) most_events) why.Fields
  whole ← require (list_all is_there (parts_in schedule)) why.Fields
  each_of read (parts_in schedule)
