-- For Given and Limits: verdicts of USIMs by their rows, and the words at which limits open them, by hand.
use Rattle.std.proofs.Common.{◌≡◌, ℕ, [], ◌∷◌, replicate, Option, Some, None, refl}
use Rattle.auc_sqn.specs.Past.{Past, numbers_to, opening_past, zeros}
use Rattle.auc_sqn.specs.declared.verdict.Verdict.TheVariants.{Fresh, Old, Aged}
use Rattle.auc_subs.specs.declared.row.Row.{Row}
use Rattle.auc_world.specs.Given.{past_by, verdict_by}
use Rattle.auc_world.specs.Limits.{opened}
use Rattle.auc_record.specs.Openings.{reopened}
use Rattle.auc_record.specs.declared.record.GiveVerdict.TheVariants as given
use Rattle.auc_record.specs.declared.record.LineRecord.TheVariants.{Give}

-- a row of an index length and an age limit
abbrev row_with : ℕ → Option ℕ → Row
row_with bits age = record {
  imsi = record { digits = 6; number = 1 };
  secret = record { k = replicate 16 0; opc = replicate 16 0 };
  amf = 0 ∷ 0 ∷ [];
  seq = 0;
  usim = 0;
  bits = bits;
  age = age;
}

-- its USIM accepted a number
abbrev after_one : Row → ℕ → Past
after_one row n = past_by row 0 (Give 0 n given.Accepted ∷ [])

-- with an index of 0 bits each earlier number is old
one_index : verdict_by (row_with 0 None) (after_one (row_with 0 None) 2) 1 ≡ Old 2
unfolding opening_past numbers_to zeros
one_index = refl

-- with one of 1 bit every second
two_indices : verdict_by (row_with 1 None) (after_one (row_with 1 None) 4) 2 ≡ Old 4
unfolding opening_past numbers_to zeros
two_indices = refl

other_index : verdict_by (row_with 1 None) (after_one (row_with 1 None) 4) 3 ≡ Fresh
unfolding opening_past numbers_to zeros
other_index = refl

-- with an age limit of 3 those that are 3 or more below the greatest
aged_by_three : verdict_by (row_with 5 (Some 3)) (after_one (row_with 5 (Some 3)) 4) 1 ≡ Aged 4
unfolding opening_past numbers_to zeros
aged_by_three = refl

not_aged_by_two : verdict_by (row_with 5 (Some 3)) (after_one (row_with 5 (Some 3)) 4) 2 ≡ Fresh
unfolding opening_past numbers_to zeros
not_aged_by_two = refl

-- a limit above a greatest number opens a round at that, and a word above it the next round
limit_above : opened (row_with 6 None ∷ row_with 5 None ∷ []) (8796093022207 ∷ 8796093022207 ∷ []) ≡ 4398046511103 ∷ 8796093022207 ∷ []
limit_above = refl

limit_within : opened (row_with 6 None ∷ row_with 5 None ∷ []) (64 ∷ []) ≡ 64 ∷ 0 ∷ []
limit_within = refl

word_above : reopened (row_with 6 None ∷ row_with 5 None ∷ []) (4398046511104 ∷ 3 ∷ []) ≡ 4398046511103 ∷ 3 ∷ []
word_above = refl
