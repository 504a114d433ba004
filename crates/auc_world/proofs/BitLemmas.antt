-- The bytes of a mask with one bit, for the crates that turn a bit over.
use Rattle.std.proofs.Common.{◌≡◌, ℕ, zero, suc, ◌-◌, ◌/◌, ◌%◌, ◌^◌, ◌<◌, Bool, true, ◌&&◌, nat_lt, replicate, slice_index, slice_set, inl, inr, refl, sym, subst, arith}
use Rattle.std.proofs.lemmas.Bool.{and_parts, cases_order}
use Rattle.auc_aes.specs.Bytes.{IsBytes}
use Rattle.auc_world.specs.Given.{bit_mask}

-- whether a test holds for each number below a bound
abbrev holds_below : (ℕ → Bool) → ℕ → Bool
holds_below test zero = true
holds_below test (suc n) = test n && holds_below test n

-- if it does, it holds for a number below the bound
holds_at : (test : ℕ → Bool) (n k : ℕ) → holds_below test n ≡ true → k < n → test k ≡ true
holds_at test zero k e below = absurd (omega (arith, below))
holds_at test (suc n) k e below =
    let parts = and_parts (test n) (holds_below test n) e in
    let earlier : k < n → test k ≡ true = λ less. holds_at test n k parts.1 less in
    elim (cases_order k n) [
      | inl equal ↦ subst (λ m. test m ≡ true) (sym equal) parts.0
      | inr apart ↦ elim apart [
        | inl less ↦ earlier less
        | inr above ↦ absurd (omega (arith, below, above))
      ]
    ]

-- a byte of zeros, of which one byte was set, is a byte
set_byte : (n place value i : ℕ) → value < 256 → slice_index (slice_set (replicate n 0) place value) i < 256
set_byte zero place value i fits = omega arith
set_byte (suc n) zero value zero fits = fits
set_byte (suc n) zero value (suc i) fits = zero_byte n i
  where
    zero_byte : (n i : ℕ) → slice_index (replicate n 0) i < 256
    zero_byte zero i = omega arith
    zero_byte (suc n) zero = omega arith
    zero_byte (suc n) (suc i) = zero_byte n i
set_byte (suc n) (suc place) value zero fits = omega arith
set_byte (suc n) (suc place) value (suc i) fits = set_byte n place value i fits

-- a power of two that stands for a bit of a byte is one
pub power_fits : (bit : ℕ) → 2 ^ (7 - bit % 8) < 256
power_fits bit = grind (arith, holds_at (λ rest. nat_lt (2 ^ (7 - rest)) 256) 8 (bit % 8) refl (omega arith))

-- a mask consists of bytes
pub bit_mask_is_bytes : (size bit : ℕ) → IsBytes (bit_mask size bit)
bit_mask_is_bytes size bit i = set_byte size (bit / 8) (2 ^ (7 - bit % 8)) i (power_fits bit)
