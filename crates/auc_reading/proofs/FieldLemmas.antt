-- Fields by the first and those behind it, for the functions of `field`; and tests that have to hold.
use Rattle.std.proofs.Common.{ℕ, ◌≡◌, Bool, true, false, List, [], ◌∷◌, Result, Ok, Err, refl}
use Rattle.std.specs.Prelude.{not}
use Rattle.auc_reading.specs.Field.{four_fields, one_field, require, three_fields, two_fields}
use Rattle.auc_reading.specs.declared.refusal.ScriptWhy.{ScriptWhy}

-- a field before one, two and three others
abbrev pub with_one : List ℕ → Result (List ℕ) ScriptWhy → Result (List ℕ × List ℕ) ScriptWhy
with_one first (Ok other) = Ok (first, other)
with_one first (Err why) = Err why

abbrev pub with_two : List ℕ → Result (List ℕ × List ℕ) ScriptWhy → Result (List ℕ × List ℕ × List ℕ) ScriptWhy
with_two first (Ok others) = Ok (first, others.0, others.1)
with_two first (Err why) = Err why

abbrev pub with_three : List ℕ → Result (List ℕ × List ℕ × List ℕ) ScriptWhy → Result (List ℕ × List ℕ × List ℕ × List ℕ) ScriptWhy
with_three first (Ok others) = Ok (first, others.0, others.1, others.2)
with_three first (Err why) = Err why

-- two, three and four fields are one and then the others
pub two_by_one : (a : List ℕ) (rest : List (List ℕ)) → two_fields (a ∷ rest) ≡ with_one a (one_field rest)
two_by_one a [] = refl
two_by_one a (b ∷ []) = refl
two_by_one a (b ∷ c ∷ more) = refl

pub three_by_two : (a : List ℕ) (rest : List (List ℕ)) → three_fields (a ∷ rest) ≡ with_two a (two_fields rest)
three_by_two a [] = refl
three_by_two a (b ∷ []) = refl
three_by_two a (b ∷ c ∷ []) = refl
three_by_two a (b ∷ c ∷ d ∷ more) = refl

pub four_by_three : (a : List ℕ) (rest : List (List ℕ)) → four_fields (a ∷ rest) ≡ with_three a (three_fields rest)
four_by_three a [] = refl
four_by_three a (b ∷ []) = refl
four_by_three a (b ∷ c ∷ []) = refl
four_by_three a (b ∷ c ∷ d ∷ []) = refl
four_by_three a (b ∷ c ∷ d ∷ e ∷ more) = refl

-- a test that had to hold holds
pub must_hold : (b : Bool) (cause : ScriptWhy) (done : Unit {0}) → Ok done ≡ require b cause → b ≡ true
must_hold true cause done is = refl
must_hold false cause done is = cc

-- a test that had to fail fails
pub must_fail : (b : Bool) (cause : ScriptWhy) (done : Unit {0}) → Ok done ≡ require (not b) cause → b ≡ false
must_fail true cause done is = cc
must_fail false cause done is = refl
