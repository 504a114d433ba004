use Rattle.std.proofs.Common.{◌≡◌, ℕ, List, [], ◌∷◌, Ok, Err, refl, rules}
use Rattle.std.specs.Prelude.{Result}
use Rattle.auc_reading.specs.Field.{four_fields}
use Rattle.auc_reading.specs.SessionLine.{SessionFields, seven_fields}
use Rattle.auc_reading.specs.declared.refusal.ScriptWhy.{ScriptWhy}
use Rattle.auc_reading.proofs.session_line.seven_fields.Goals as goal

-- three fields before four
abbrev with_four : List ℕ → List ℕ → List ℕ → Result (List ℕ × List ℕ × List ℕ × List ℕ) ScriptWhy → Result SessionFields ScriptWhy
with_four session imsi method (Ok four) =
    Ok (record { session = session; imsi = imsi; method = method; sname = four.0; pname = four.1; options = four.2; identity = four.3 })
with_four session imsi method (Err why) = Err why

-- seven fields are three and then four
seven_by_four : (a b c : List ℕ) (rest : List (List ℕ)) → seven_fields (a ∷ b ∷ c ∷ rest) ≡ with_four a b c (four_fields rest)
seven_by_four a b c [] = refl
seven_by_four a b c (d ∷ []) = refl
seven_by_four a b c (d ∷ e ∷ []) = refl
seven_by_four a b c (d ∷ e ∷ f ∷ []) = refl
seven_by_four a b c (d ∷ e ∷ f ∷ g ∷ []) = refl
seven_by_four a b c (d ∷ e ∷ f ∷ g ∷ h ∷ more) = refl

pub returns : goal.returns
returns c =
    rw (c.in_ok-session.ensures, c.in_ok-imsi.ensures, c.in_ok-method.ensures, seven_by_four, c.in_ok-sname.ensures) refl

pub returns-in_err-sname : goal.returns-in_err-sname
returns-in_err-sname c =
    rw (c.in_ok-session.ensures, c.in_ok-imsi.ensures, c.in_ok-method.ensures, seven_by_four, c.in_err-sname.ensures) (search rules)
