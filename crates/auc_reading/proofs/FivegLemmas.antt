-- The names and the bit of a 5G authentication are within their limits, for `read_fiveg`.
use Rattle.std.proofs.Common.{ℕ, ◌≡◌, ◌≤◌, ◌&&◌, nat_le, true, List, ◌∷◌, [], length, Option, Some, None, Result, Ok, Err}
use Rattle.std.specs.Prelude.{IfSome}
use Rattle.std.specs.List.{All}
use Rattle.std.proofs.lemmas.List.Elements.{All-head, All-tail}
use Rattle.auc_lines.specs.Part.{IsStarBit, last_star_bit}
use Rattle.auc_text.specs.Text.{words_of}
use Rattle.auc_subs.specs.Steps.{◌>>=◌}
use Rattle.auc_reading.specs.declared.refusal.ScriptWhy.{ScriptWhy}
use Rattle.auc_reading.specs.Field.{optional_field}
use Rattle.auc_reading.specs.FivegLine.{FivegFields, fiveg_fields}
use Rattle.auc_reading.specs.InnerFields.{all_five}
use Rattle.auc_reading.specs.Ranges.{IsName}
use Rattle.auc_reading.specs.Numbers.{longest_name}
use Rattle.auc_reading.proofs.NameLemmas.{IsWord, are_words, each, not_empty, within}

-- the two names that some fields have
two_names : (words : List (List ℕ)) (f : FivegFields) → All IsWord words → fiveg_fields words ≡ Ok f → (1 ≤ length f.home) × (1 ≤ length f.device)
two_names [] f all is = cc
two_names (a ∷ []) f all is = cc
two_names (a ∷ b ∷ []) f all is = cc
two_names (a ∷ b ∷ c ∷ []) f all is = cc
two_names (a ∷ b ∷ c ∷ d ∷ more) f all is = by (optional_field more) is
  where
    by : (fifth : Result (Option (List ℕ)) ScriptWhy) → (fifth >>= λ e. Ok (all_five a b c d e)) ≡ Ok f → (1 ≤ length f.home) × (1 ≤ length f.device)
    by (Err why) is = cc
    by (Ok e) is =
        let from_b = All-tail IsWord a (b ∷ c ∷ d ∷ more) all in
        let home : 1 ≤ length b = not_empty b (All-head IsWord b (c ∷ d ∷ more) from_b) in
        let device : 1 ≤ length c = not_empty c (All-head IsWord c (d ∷ more) (All-tail IsWord b (c ∷ d ∷ more) from_b)) in
        let same : f ≡ all_five a b c d e = cc is in
        rw same (home, device)

-- names that were read from a line, and aren't too long
pub names_from : (line : List ℕ) (f : FivegFields) (home device : List ℕ) → fiveg_fields (words_of line) ≡ Ok f → home ≡ f.home → device ≡ f.device
    → (nat_le (length home) longest_name && nat_le (length device) longest_name) ≡ true → IsName home × IsName device
names_from line f home device fields first second fit =
    let two = two_names (words_of line) f (are_words line) fields in
    let short = each (nat_le (length home) longest_name) (nat_le (length device) longest_name) fit in
    ((rw first two.0, within (length home) longest_name short.0), (rw second two.1, within (length device) longest_name short.1))

-- a bit up to the last one of RES*
pub star_bit : (bit : Option ℕ) → IfSome bit (λ number. number ≤ last_star_bit) → IsStarBit bit
star_bit None is = tt
star_bit (Some number) is = is
