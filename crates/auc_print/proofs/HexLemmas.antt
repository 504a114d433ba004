-- Bytes are determined by their hexadecimal digits.
use Rattle.std.proofs.Common.{ℕ, zero, suc, ◌/◌, ◌%◌, ◌<◌, ◌≤◌, ◌≡◌, ◌∙◌, refl, sym, ap, List, [], ◌∷◌, length, get_or, drop, slice_index, Some, None, ◌⊎◌, inl, inr, arith}
use Rattle.std.proofs.lemmas.Bool.{cases_order}
use Rattle.hex.specs.Hex.{IsBytes, encode_lower, encode_with, hex_digit_value, lower_digits}
use Rattle.hex.proofs.HexLemmas.{IsDigits-lower_digits}

-- nothing stands past the end
past : (xs : List ℕ) (j : ℕ) → length xs ≤ j → get_or xs j 0 ≡ 0
past [] j above = refl
past (x ∷ xs) zero above = absurd (omega arith)
past (x ∷ xs) (suc j) above = past xs j (omega arith)

inside_or_past : (j : ℕ) → (j < 16) ⊎ (16 ≤ j)
inside_or_past j =
    elim (cases_order j 16) [
      | inl equal ↦ inr (omega arith)
      | inr apart ↦ elim apart [
        | inl below ↦ inl below
        | inr above ↦ inr (omega arith)
      ]
    ]

-- a digit's place is determined by the digit, if it is one of 16
digit_injective : (i j : ℕ) → i < 16 → slice_index lower_digits i ≡ slice_index lower_digits j → i ≡ j
digit_injective i j small e = by (inside_or_past j)
  where
    by : (j < 16) ⊎ (16 ≤ j) → i ≡ j
    by (inl inside) =
        let same : Some i ≡ Some j = sym (IsDigits-lower_digits i small) ∙ ap hex_digit_value e ∙ IsDigits-lower_digits j inside in (cc)
    by (inr above) =
        let none : Some i ≡ None = sym (IsDigits-lower_digits i small) ∙ ap hex_digit_value (e ∙ past lower_digits j above) in absurd (cc)

-- bytes and a list with the same digits are the same
pub hex_injective : (a b : List ℕ) → IsBytes a → encode_lower a ≡ encode_lower b → a ≡ b
unfolding encode_with
hex_injective [] [] p e = refl
hex_injective [] (y ∷ b) p e = absurd (cc)
hex_injective (x ∷ a) [] p e = absurd (cc)
hex_injective (x ∷ a) (y ∷ b) p e =
    let byte : x < 256 = p 0 in
    let high : x / 16 ≡ y / 16 = digit_injective (x / 16) (y / 16) (omega arith) (ap (λ t. get_or t 0 0) e) in
    let low : x % 16 ≡ y % 16 = digit_injective (x % 16) (y % 16) (omega arith) (ap (λ t. get_or t 1 0) e) in
    let rest : a ≡ b = hex_injective a b (λ i. p (suc i)) (ap (λ t. drop 2 t) e) in
    let first : x ≡ y = omega (arith, high, low) in
    (cc)
