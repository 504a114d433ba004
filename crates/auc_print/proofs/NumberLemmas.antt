-- Digits that are written from the last to the first, for the function that writes a number.
use Rattle.std.proofs.Common.{ℕ, zero, suc, ◌+◌, ◌-◌, ◌/◌, ◌%◌, ◌^◌, ◌<◌, ◌≤◌, ◌≡◌, ◌∙◌, sym, ap, List, [], ◌∷◌, ◌++◌, length, drop, slice_set, decimal, append_assoc, arith}
use Rattle.std.proofs.lemmas.Fmt.{decimal_digit, decimal_step}
use Rattle.std.proofs.lemmas.List.{drop-set, length-set}

-- a number of two digits or more without its last digit has a digit less
pub digit_fewer : (k n : ℕ) → 10 ≤ n → n < 10 ^ k → (2 ≤ k) × (n / 10 < 10 ^ (k - 1))
digit_fewer zero n large fits = absurd (omega arith)
digit_fewer (suc zero) n large fits = absurd (omega arith)
digit_fewer (suc (suc k)) n large fits = let left : suc (suc k) - 1 ≡ suc k = omega arith in (omega arith, rw left (omega arith))

-- a place below one that is above it
up : (place : ℕ) → 1 ≤ place → place - 1 + 1 ≡ place
up place low = omega arith

-- a byte that is written before a place stands before what begins there
pub written_before : (room : List ℕ) (place byte : ℕ) → 1 ≤ place → place ≤ length room
    → drop (place - 1) (slice_set room (place - 1) byte) ≡ byte ∷ drop place room
written_before room place byte low high =
    drop-set room (place - 1) byte (omega arith) ∙ ap (λ p. byte ∷ drop p room) (up place low)

-- the last digit of a number before the digits that were written
pub digit_written : (room : List ℕ) (place n : ℕ) → 1 ≤ place → place ≤ length room → 10 ≤ n → n < 2 ^ 64
    → decimal (n / 10) ++ drop (place - 1) (slice_set room (place - 1) (48 + n % 10)) ≡ decimal n ++ drop place room
digit_written room place n low high large small =
    ap (λ t. decimal (n / 10) ++ t) (written_before room place (48 + n % 10) low high)
    ∙ sym (append_assoc (decimal (n / 10)) ((48 + n % 10) ∷ []) (drop place room))
    ∙ ap (λ t. t ++ drop place room) (sym (decimal_step n large small))

-- the first digit and a space before the digits that were written
pub first_written : (room : List ℕ) (place n : ℕ) → 2 ≤ place → place ≤ length room → n < 10
    → drop (place - 2) (slice_set (slice_set room (place - 1) (48 + n)) (place - 2) 32) ≡ 32 ∷ (decimal n ++ drop place room)
first_written room place n low high small =
    let set : List ℕ = slice_set room (place - 1) (48 + n) in
    let long : place - 1 ≤ length set = omega (arith, length-set room (place - 1) (48 + n)) in
    let before : place - 1 - 1 ≡ place - 2 = omega arith in
    ap (λ p. drop p (slice_set set p 32)) (sym before) ∙ written_before set (place - 1) 32 (omega arith) long
    ∙ ap (λ t. 32 ∷ t) (written_before room place (48 + n) (omega arith) high)
    ∙ ap (λ ds. 32 ∷ (ds ++ drop place room)) (sym (decimal_digit n small))
