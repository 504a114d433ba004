-- How many fields there are, and what is read of them, for `field` and `row_reading`.
use Rattle.std.proofs.Common.{ℕ, ◌≡◌, ◌≢◌, ◌+◌, ◌≤◌, ◌==◌, ◌||◌, ◌⊎◌, inl, inr, false, List, [], ◌∷◌, length, map, take, Bor, Some, refl, sym, ap, ◌∙◌, arith}
use Rattle.std.specs.List.{list_any}
use Rattle.std.specs.Prelude.{Contains}
use Rattle.std.proofs.lemmas.Bool.Decides.{nat_tests}
use Rattle.std.proofs.lemmas.List.{take-map}
use Rattle.std.proofs.lemmas.List.Elements.{All-cons, All-contains, All-nil}
use Rattle.auc_text.specs.Field.{number_in}
use Rattle.auc_subs.specs.Subscriber.{field, line_counts, row_of}

-- so many spaces stand between one field more
by_spaces : (fields spaces : ℕ) → fields ≡ spaces + 1 → (spaces == 6) || (spaces == 8) ≡ list_any (λ count. fields == count) line_counts
by_spaces fields spaces is = rw is (grind (arith, nat_tests))

pub six_spaces : (fields spaces : ℕ) → fields ≡ spaces + 1 → spaces ≡ 6 → (spaces == 6) ≡ list_any (λ count. fields == count) line_counts
six_spaces fields spaces is six = rw (is, six) refl

pub other_spaces : (fields spaces : ℕ) → fields ≡ spaces + 1 → spaces ≢ 6 → (spaces == 8) ≡ list_any (λ count. fields == count) line_counts
other_spaces fields spaces is other =
    let not_six : (spaces == 6) ≡ false = grind (arith, nat_tests) in
    rw not_six at (by_spaces fields spaces is)

-- a number that was read is at most the greatest
pub number_within : (digits greatest number : ℕ) (text : List ℕ) → number_in digits greatest text ≡ Some number → number ≤ greatest
number_within digits greatest number text is = grind (arith, nat_tests)

-- a count that a line may have is one of two
pub either_count : (count : ℕ) → Contains line_counts count → (count ≡ 7) ⊎ (count ≡ 9)
either_count count contains =
    All-contains (λ c. (c ≡ 7) ⊎ (c ≡ 9)) line_counts count
    (All-cons (λ c. (c ≡ 7) ⊎ (c ≡ 9)) 7 (9 ∷ []) (inl refl) (All-cons (λ c. (c ≡ 7) ⊎ (c ≡ 9)) 9 [] (inr refl) (All-nil (λ c. (c ≡ 7) ⊎ (c ≡ 9))))) contains

-- the first nine fields of a record
abbrev pub nine : List (List ℕ) → List (List ℕ)
nine fields =
    field fields 0 ∷ field fields 1 ∷ field fields 2 ∷ field fields 3 ∷ field fields 4 ∷ field fields 5 ∷ field fields 6
    ∷ field fields 7 ∷ field fields 8 ∷ []

-- of so many fields the first so many are all
take_seven : (fields : List (List ℕ)) → length fields ≡ 7 → take 7 (nine fields) ≡ fields
take_seven [] is = absurd (omega (arith, is))
take_seven (a ∷ []) is = absurd (omega (arith, is))
take_seven (a ∷ b ∷ []) is = absurd (omega (arith, is))
take_seven (a ∷ b ∷ c ∷ []) is = absurd (omega (arith, is))
take_seven (a ∷ b ∷ c ∷ d ∷ []) is = absurd (omega (arith, is))
take_seven (a ∷ b ∷ c ∷ d ∷ e ∷ []) is = absurd (omega (arith, is))
take_seven (a ∷ b ∷ c ∷ d ∷ e ∷ f ∷ []) is = absurd (omega (arith, is))
take_seven (a ∷ b ∷ c ∷ d ∷ e ∷ f ∷ g ∷ []) is = refl
take_seven (a ∷ b ∷ c ∷ d ∷ e ∷ f ∷ g ∷ h ∷ more) is = absurd (omega (arith, is))

take_nine : (fields : List (List ℕ)) → length fields ≡ 9 → take 9 (nine fields) ≡ fields
take_nine [] is = absurd (omega (arith, is))
take_nine (a ∷ []) is = absurd (omega (arith, is))
take_nine (a ∷ b ∷ []) is = absurd (omega (arith, is))
take_nine (a ∷ b ∷ c ∷ []) is = absurd (omega (arith, is))
take_nine (a ∷ b ∷ c ∷ d ∷ []) is = absurd (omega (arith, is))
take_nine (a ∷ b ∷ c ∷ d ∷ e ∷ []) is = absurd (omega (arith, is))
take_nine (a ∷ b ∷ c ∷ d ∷ e ∷ f ∷ []) is = absurd (omega (arith, is))
take_nine (a ∷ b ∷ c ∷ d ∷ e ∷ f ∷ g ∷ []) is = absurd (omega (arith, is))
take_nine (a ∷ b ∷ c ∷ d ∷ e ∷ f ∷ g ∷ h ∷ []) is = absurd (omega (arith, is))
take_nine (a ∷ b ∷ c ∷ d ∷ e ∷ f ∷ g ∷ h ∷ i ∷ []) is = refl
take_nine (a ∷ b ∷ c ∷ d ∷ e ∷ f ∷ g ∷ h ∷ i ∷ j ∷ more) is = absurd (omega (arith, is))

-- the row of a record that has as many fields as it may
row_seven : (fields : List (List ℕ)) → length fields ≡ 7 → row_of line_counts (take 7 (nine fields)) ≡ row_of (7 ∷ []) fields
row_seven fields is = ap (row_of line_counts) (take_seven fields is) ∙ rw is refl

row_nine : (fields : List (List ℕ)) → length fields ≡ 9 → row_of line_counts (take 9 (nine fields)) ≡ row_of (9 ∷ []) fields
row_nine fields is = ap (row_of line_counts) (take_nine fields is) ∙ rw is refl

pub row_of_count : (count : ℕ) (fields : List (List ℕ)) → Contains line_counts count → length fields ≡ count
    → row_of line_counts (take count (nine fields)) ≡ row_of (count ∷ []) fields
row_of_count count fields contains is = by_count (either_count count contains)
  where
    by_count : (count ≡ 7) ⊎ (count ≡ 9) → row_of line_counts (take count (nine fields)) ≡ row_of (count ∷ []) fields
    by_count (inl seven) = rw seven (row_seven fields (cc (is, seven)))
    by_count (inr nine_fields) = rw nine_fields (row_nine fields (cc (is, nine_fields)))

-- the same of nine fields that were read at their places
pub row_of_given : (count : ℕ) (fields : List (List ℕ)) (given : List (Bor (List ℕ))) → map (λ field. field.now) given ≡ nine fields → Contains line_counts count
    → length fields ≡ count → row_of line_counts (map (λ field. field.now) (take count given)) ≡ row_of (count ∷ []) fields
row_of_given count fields given is contains same =
    ap (row_of line_counts) (sym (take-map (λ (field : Bor (List ℕ)). field.now) count given) ∙ ap (take count) is) ∙ row_of_count count fields contains same
