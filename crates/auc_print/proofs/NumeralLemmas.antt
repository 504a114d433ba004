-- The digits of a number of any size: no digit ends a word, and they determine the number.
use Rattle.std.proofs.Common.{ℕ, zero, suc, ◌+◌, ◌-◌, ◌*◌, ◌/◌, ◌%◌, ◌^◌, ◌<◌, ◌≤◌, ◌≡◌, ◌∙◌, refl, sym, ap, subst, false, List, [], ◌∷◌, decimal, arith, ◌⊎◌, inl, inr}
use Rattle.std.proofs.lemmas.Bool.{cases_order}
use Rattle.std.proofs.lemmas.Bool.Decides.{nat_tests}
use Rattle.std.specs.Fmt.{digit_glyph, digits, digits_onto}
use Rattle.auc_print.specs.Numeral.{numeral}
use Rattle.auc_print.proofs.SpacedLemmas.{IsWord, above_space}

-- the last digits of a number, before others
abbrev spell : ℕ → ℕ → List ℕ → List ℕ
spell k n acc = digits_onto k 10 false n acc

numeral_is : (n : ℕ) → numeral n ≡ spell (suc n) n []
unfolding numeral
numeral_is n = ap (λ (k : ℕ). spell k n []) {x = n + 1} {y = suc n} (omega arith)

decimal_is : (n : ℕ) → decimal n ≡ spell 64 n []
unfolding digits
decimal_is n = refl

-- a number has one digit or more
one_or_more : (n : ℕ) → (n < 10) ⊎ (10 ≤ n)
one_or_more n =
    elim (cases_order n 10) [
      | inl equal ↦ inr (omega arith)
      | inr apart ↦ elim apart [
        | inl below ↦ inl below
        | inr above ↦ inr (omega arith)
      ]
    ]

glyph_is : (d : ℕ) → d < 10 → digit_glyph false d ≡ 48 + d
glyph_is d small = grind (arith, nat_tests)

spell_last : (k n : ℕ) (acc : List ℕ) → n < 10 → spell (suc k) n acc ≡ (48 + n % 10) ∷ acc
spell_last k n acc small = let glyph = glyph_is (n % 10) (omega arith) in grind (arith, nat_tests)

spell_next : (k n : ℕ) (acc : List ℕ) → 10 ≤ n → spell (suc k) n acc ≡ spell k (n / 10) ((48 + n % 10) ∷ acc)
spell_next k n acc large = let glyph = glyph_is (n % 10) (omega arith) in grind (arith, nat_tests)

-- more digits than there are make no difference
spell_enough : (j k n : ℕ) (acc : List ℕ) → n < 10 ^ suc j → n < 10 ^ suc k → spell (suc j) n acc ≡ spell (suc k) n acc
spell_enough zero k n acc p q = spell_last zero n acc (omega arith) ∙ sym (spell_last k n acc (omega arith))
spell_enough (suc j) zero n acc p q = spell_last (suc j) n acc (omega arith) ∙ sym (spell_last zero n acc (omega arith))
spell_enough (suc j) (suc k) n acc p q = by (one_or_more n) (λ large. spell_enough j k (n / 10) ((48 + n % 10) ∷ acc) (omega arith) (omega arith))
  where
    by : (n < 10) ⊎ (10 ≤ n) → (10 ≤ n → spell (suc j) (n / 10) ((48 + n % 10) ∷ acc) ≡ spell (suc k) (n / 10) ((48 + n % 10) ∷ acc))
        → spell (suc (suc j)) n acc ≡ spell (suc (suc k)) n acc
    by (inl small) rest = spell_last (suc j) n acc small ∙ sym (spell_last (suc k) n acc small)
    by (inr large) rest = spell_next (suc j) n acc large ∙ rest large ∙ sym (spell_next (suc k) n acc large)

-- a number has fewer digits than itself has units, and one more
fits : (n : ℕ) → n < 10 ^ suc n
fits zero = omega arith
fits (suc n) = let before = fits n in omega (arith, before)

-- a number of 64 bits is printed as the library prints it
pub numeral_small : (n : ℕ) → n < 2 ^ 64 → numeral n ≡ decimal n
numeral_small n small = numeral_is n ∙ spell_enough n 63 n [] (fits n) (omega arith) ∙ sym (decimal_is n)

-- what digits read as, after a number
abbrev read_after : ℕ → List ℕ → ℕ
read_after v [] = v
read_after v (d ∷ ds) = read_after (v * 10 + (d - 48)) ds

spell_reads : (k n : ℕ) (acc : List ℕ) → n < 10 ^ k → read_after 0 (spell k n acc) ≡ read_after n acc
spell_reads zero n acc h = ap (λ (v : ℕ). read_after v acc) {x = 0} {y = n} (omega arith)
spell_reads (suc k) n acc h = by (one_or_more n) (λ large. spell_reads k (n / 10) ((48 + n % 10) ∷ acc) (omega arith))
  where
    by : (n < 10) ⊎ (10 ≤ n) → (10 ≤ n → read_after 0 (spell k (n / 10) ((48 + n % 10) ∷ acc)) ≡ read_after (n / 10) ((48 + n % 10) ∷ acc))
        → read_after 0 (spell (suc k) n acc) ≡ read_after n acc
    by (inl small) rest =
        ap (λ ds. read_after 0 ds) (spell_last k n acc small)
        ∙ ap (λ (v : ℕ). read_after v acc) {x = 0 * 10 + (48 + n % 10 - 48)} {y = n} (omega arith)
    by (inr large) rest =
        ap (λ ds. read_after 0 ds) (spell_next k n acc large) ∙ rest large
        ∙ ap (λ (v : ℕ). read_after v acc) {x = n / 10 * 10 + (48 + n % 10 - 48)} {y = n} (omega arith)

reads : (n : ℕ) → read_after 0 (numeral n) ≡ n
reads n = ap (λ ds. read_after 0 ds) (numeral_is n) ∙ spell_reads (suc n) n [] (fits n)

-- numbers with the same digits are the same
pub numeral_injective : (m n : ℕ) → numeral m ≡ numeral n → m ≡ n
numeral_injective m n e = sym (reads m) ∙ ap (λ ds. read_after 0 ds) e ∙ reads n

spell_word : (k n : ℕ) (acc : List ℕ) → IsWord acc → IsWord (spell k n acc)
spell_word zero n acc are = are
spell_word (suc k) n acc are = by (one_or_more n) (λ large. spell_word k (n / 10) ((48 + n % 10) ∷ acc) (above_space (48 + n % 10) (omega arith), are))
  where
    by : (n < 10) ⊎ (10 ≤ n) → (10 ≤ n → IsWord (spell k (n / 10) ((48 + n % 10) ∷ acc))) → IsWord (spell (suc k) n acc)
    by (inl small) rest = subst IsWord (sym (spell_last k n acc small)) (above_space (48 + n % 10) (omega arith), are)
    by (inr large) rest = subst IsWord (sym (spell_next k n acc large)) (rest large)

-- a number's digits are a word
pub numeral_word : (n : ℕ) → IsWord (numeral n)
numeral_word n = subst IsWord (sym (numeral_is n)) (spell_word (suc n) n [] tt)
