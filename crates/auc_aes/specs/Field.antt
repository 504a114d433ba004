-- The field GF(2^8) of FIPS 197 §4, whose elements are the bytes, and the S-box on it (§5.1.1).
use Rattle.std.specs.Prelude.{ℕ, zero, suc, ◌+◌, ◌*◌, ◌/◌, ◌%◌, ◌==◌, bit_xor, if◌then◌else◌}

-- b times x, reduced modulo x^8 + x^4 + x^3 + x + 1 (§4.2)
unfoldable pub xtimes : ℕ → ℕ
xtimes b = bit_xor (b * 2) (b / 128 * 0x11b)

-- the product of the lowest n bits of b with c: c times x^i is added for each bit i of b that is 1
unfoldable pub product_by : ℕ → ℕ → ℕ → ℕ
product_by zero b c = 0
product_by (suc n) b c = bit_xor (b % 2 * c) (product_by n (b / 2) (xtimes c))

-- the product of two bytes (§4.2)
unfoldable pub product : ℕ → ℕ → ℕ
product b c = product_by 8 b c

-- the first of the n bytes from c on whose product with b is 1, or 0 if there is none
unfoldable pub inverse_among : ℕ → ℕ → ℕ → ℕ
inverse_among zero c b = 0
inverse_among (suc n) c b = if product b c == 1 then c else inverse_among n (c + 1) b

-- the multiplicative inverse, and 0 of 0 (§4.4, §5.1.1)
unfoldable pub inverse : ℕ → ℕ
inverse b = inverse_among 256 0 b

-- a byte rotated left by n bits
unfoldable pub turned : ℕ → ℕ → ℕ
turned zero b = b
turned (suc n) b = turned n (b * 2 % 256 + b / 128)

-- the affine transformation of the S-box (§5.1.1, equation 5.3)
unfoldable pub affine : ℕ → ℕ
affine b =
    bit_xor (bit_xor (bit_xor (bit_xor (bit_xor b (turned 4 b)) (turned 3 b)) (turned 2 b)) (turned 1 b)) 0x63

-- the inverse of the affine transformation (§5.3.2)
unfoldable pub inverse_affine : ℕ → ℕ
inverse_affine b = bit_xor (bit_xor (bit_xor (turned 6 b) (turned 3 b)) (turned 1 b)) 0x05

-- SBOX(b): the inverse, then the affine transformation (§5.1.1)
unfoldable pub sub_byte : ℕ → ℕ
sub_byte b = affine (inverse b)

-- INVSBOX(b): the inverse affine transformation, then the inverse (§5.3.2)
unfoldable pub inv_sub_byte : ℕ → ℕ
inv_sub_byte b = inverse (inverse_affine b)
