-- A rotation by whole bytes, and sums of vectors.
use Rattle.std.proofs.Common.{◌≡◌, ℕ, zero, suc, ◌+◌, ◌*◌, ◌/◌, ◌%◌, ◌^◌, ◌<◌, ◌≤◌, List, [], ◌∷◌, ◌++◌, length, map, get_or, bit_or, bit_xor, refl, sym, ap, ◌∙◌, arith, lit<, w8, Fits}
use Rattle.std.specs.Int.{w128, from_be_bytes, to_be_bytes, byte_at, bytes_high_first, rotate_left}
use Rattle.std.proofs.lemmas.Nat.{div-mul-add, mod-mul-add, mul-le, or_shifted}
use Rattle.std.specs.Int.Bits.{or_self}
use Rattle.std.proofs.Math.Nat.{pow-suc, add-mul, mul_assoc, mul_comm}
use Rattle.std.proofs.lemmas.Simd.{pick_l_left}
use lib.Lanes.{Each1, zip2}
use Rattle.auc_aes.specs.Bytes.{xor, rot, IsBytes}
use Rattle.auc_aes.proofs.Facts.{listed}

-- the sum of two vectors is that of their bytes
pub zip2_is : (a b : List ℕ) → zip2 bit_xor a b ≡ xor a b
zip2_is [] b = refl
zip2_is (x ∷ xs) [] = refl
zip2_is (x ∷ xs) (y ∷ ys) = ap (λ rest. bit_xor x y ∷ rest) (zip2_is xs ys)

-- ---- bytes as a number, the most significant first

abbrev value : List ℕ → ℕ
value [] = 0
value (byte ∷ rest) = byte * 256 ^ length rest + value rest

byte_at_is : (k n : ℕ) → byte_at k n ≡ n / 256 ^ k % 256
byte_at_is zero n = omega arith
byte_at_is (suc k) n = refl

-- one more byte in front keeps a number below the next power
below_step : (byte number power : ℕ) → byte < 256 → number < power → byte * power + number < power * 256
below_step byte number power is_byte below =
    let most : byte * power ≤ 255 * power = mul-le byte power 255 power (omega arith) (omega arith) in
    omega arith

value_below : (bytes : List ℕ) → IsBytes bytes → value bytes < 256 ^ length bytes
value_below [] are = lit< tt
value_below (byte ∷ rest) are =
    rw pow-suc (below_step byte (value rest) (256 ^ length rest) (are 0) (value_below rest (λ i. are (suc i))))

-- a number in front of which more stands, regrouped for one byte fewer
regrouped : (more byte number power : ℕ) → more * (power * 256) + (byte * power + number) ≡ (more * 256 + byte) * power + number
regrouped more byte number power =
    let spread : (more * 256 + byte) * power ≡ more * (power * 256) + byte * power =
    rw (add-mul (more * 256) byte power, mul_assoc more 256 power, mul_comm 256 power) refl in
    rw spread (omega arith)

-- bytes are found again in their number, whatever stands in front of it
high_first-value : (bytes : List ℕ) (more : ℕ) → IsBytes bytes → bytes_high_first (length bytes) (more * 256 ^ length bytes + value bytes) ≡ bytes
high_first-value [] more are = refl
high_first-value (byte ∷ rest) more are =
    let power : ℕ = 256 ^ length rest in
    let below : value rest < power = value_below rest (λ i. are (suc i)) in
    let is_byte : byte < 256 = are 0 in
    let same : more * 256 ^ suc (length rest) + (byte * power + value rest) ≡ (more * 256 + byte) * power + value rest =
    rw pow-suc (regrouped more byte (value rest) power) in
    let tail : bytes_high_first (length rest) ((more * 256 + byte) * power + value rest) ≡ rest = high_first-value rest (more * 256 + byte) (λ i. are (suc i)) in
    rw (same, byte_at_is, div-mul-add (more * 256 + byte) power (value rest) below, mod-mul-add more 256 byte is_byte, tail) refl

-- the bytes of a number that is that of sixteen bytes
bytes_of_value : (bytes : List ℕ) (n : ℕ) → length bytes ≡ 16 → IsBytes bytes → n ≡ value bytes → to_be_bytes w128 n ≡ bytes
bytes_of_value bytes n size are is =
    let alone : value bytes ≡ 0 * 256 ^ length bytes + value bytes = omega arith in
    ap (bytes_high_first 16) (is ∙ alone) ∙ ap (λ k. bytes_high_first k (0 * 256 ^ length bytes + value bytes)) (sym size)
    ∙ high_first-value bytes 0 are

-- ---- rotations of a number of 128 bits, whose upper and lower parts are known

rotated_0 : (n : ℕ) → n < 2 ^ 128 → rotate_left w128 n 0 ≡ n
rotated_0 n below =
    let low : (n * 2 ^ 0) % 2 ^ 128 ≡ n = omega arith in
    let high : n / 2 ^ 0 ≡ n = omega arith in
    ap (λ x. bit_or x (n / 2 ^ 0)) low ∙ ap (bit_or n) high ∙ or_self n

rotated_32 : (n high low : ℕ) → n ≡ high * 2 ^ 96 + low → low < 2 ^ 96 → high < 2 ^ 32 → rotate_left w128 n 32 ≡ low * 2 ^ 32 + high
rotated_32 n high low is below small =
    let left : (n * 2 ^ 32) % 2 ^ 128 ≡ low * 2 ^ 32 = omega arith in
    let right : n / 2 ^ 96 ≡ high = omega arith in
    ap (λ x. bit_or x (n / 2 ^ 96)) left ∙ ap (bit_or (low * 2 ^ 32)) right ∙ or_shifted low 32 high small

rotated_64 : (n high low : ℕ) → n ≡ high * 2 ^ 64 + low → low < 2 ^ 64 → high < 2 ^ 64 → rotate_left w128 n 64 ≡ low * 2 ^ 64 + high
rotated_64 n high low is below small =
    let left : (n * 2 ^ 64) % 2 ^ 128 ≡ low * 2 ^ 64 = omega arith in
    let right : n / 2 ^ 64 ≡ high = omega arith in
    ap (λ x. bit_or x (n / 2 ^ 64)) left ∙ ap (bit_or (low * 2 ^ 64)) right ∙ or_shifted low 64 high small

-- ---- rotations of sixteen bytes

-- the elements of a list at some places
abbrev picked : List ℕ → List ℕ → List ℕ
picked block places = map (λ k. get_or block k 0) places

picked_bytes : (block places : List ℕ) → IsBytes block → IsBytes (picked block places)
picked_bytes block [] are i = omega arith
picked_bytes block (k ∷ ks) are zero = are k
picked_bytes block (k ∷ ks) are (suc i) = picked_bytes block ks are i

abbrev pub from_4 : List ℕ
from_4 = 4 ∷ 5 ∷ 6 ∷ 7 ∷ 8 ∷ 9 ∷ 10 ∷ 11 ∷ 12 ∷ 13 ∷ 14 ∷ 15 ∷ 0 ∷ 1 ∷ 2 ∷ 3 ∷ []

abbrev pub from_8 : List ℕ
from_8 = 8 ∷ 9 ∷ 10 ∷ 11 ∷ 12 ∷ 13 ∷ 14 ∷ 15 ∷ 0 ∷ 1 ∷ 2 ∷ 3 ∷ 4 ∷ 5 ∷ 6 ∷ 7 ∷ []

abbrev all_places : List ℕ
all_places = 0 ∷ 1 ∷ 2 ∷ 3 ∷ 4 ∷ 5 ∷ 6 ∷ 7 ∷ 8 ∷ 9 ∷ 10 ∷ 11 ∷ 12 ∷ 13 ∷ 14 ∷ 15 ∷ []

-- by 32 bits
rot_32 : (block : List ℕ) → IsBytes block → rot block 32 ≡ picked block from_4
unfolding rot
rot_32 block are =
    let first = picked block (0 ∷ 1 ∷ 2 ∷ 3 ∷ []) in
    let rest = picked block (4 ∷ 5 ∷ 6 ∷ 7 ∷ 8 ∷ 9 ∷ 10 ∷ 11 ∷ 12 ∷ 13 ∷ 14 ∷ 15 ∷ []) in
    let is : from_be_bytes w128 block ≡ value first * 2 ^ 96 + value rest = omega arith in
    let turned : rotate_left w128 (from_be_bytes w128 block) 32 ≡ value rest * 2 ^ 32 + value first =
    rotated_32 (from_be_bytes w128 block) (value first) (value rest) is
    (value_below rest (picked_bytes block (4 ∷ 5 ∷ 6 ∷ 7 ∷ 8 ∷ 9 ∷ 10 ∷ 11 ∷ 12 ∷ 13 ∷ 14 ∷ 15 ∷ []) are))
    (value_below first (picked_bytes block (0 ∷ 1 ∷ 2 ∷ 3 ∷ []) are)) in
    let spelled : value rest * 2 ^ 32 + value first ≡ value (picked block from_4) = omega arith in
    bytes_of_value (picked block from_4) (rotate_left w128 (from_be_bytes w128 block) 32) refl (picked_bytes block from_4 are) (turned ∙ spelled)

-- by 64 bits
rot_64 : (block : List ℕ) → IsBytes block → rot block 64 ≡ picked block from_8
unfolding rot
rot_64 block are =
    let first = picked block (0 ∷ 1 ∷ 2 ∷ 3 ∷ 4 ∷ 5 ∷ 6 ∷ 7 ∷ []) in
    let rest = picked block (8 ∷ 9 ∷ 10 ∷ 11 ∷ 12 ∷ 13 ∷ 14 ∷ 15 ∷ []) in
    let is : from_be_bytes w128 block ≡ value first * 2 ^ 64 + value rest = omega arith in
    let turned : rotate_left w128 (from_be_bytes w128 block) 64 ≡ value rest * 2 ^ 64 + value first =
    rotated_64 (from_be_bytes w128 block) (value first) (value rest) is
    (value_below rest (picked_bytes block (8 ∷ 9 ∷ 10 ∷ 11 ∷ 12 ∷ 13 ∷ 14 ∷ 15 ∷ []) are))
    (value_below first (picked_bytes block (0 ∷ 1 ∷ 2 ∷ 3 ∷ 4 ∷ 5 ∷ 6 ∷ 7 ∷ []) are)) in
    let spelled : value rest * 2 ^ 64 + value first ≡ value (picked block from_8) = omega arith in
    bytes_of_value (picked block from_8) (rotate_left w128 (from_be_bytes w128 block) 64) refl (picked_bytes block from_8 are) (turned ∙ spelled)

-- by no bit
pub rot_0 : (block : List ℕ) → length block ≡ 16 → IsBytes block → rot block 0 ≡ block
unfolding rot
rot_0 block size are =
    let all = picked block all_places in
    let is : from_be_bytes w128 block ≡ value all = omega arith in
    let below : value all < 2 ^ 128 = value_below all (picked_bytes block all_places are) in
    bytes_of_value all (rotate_left w128 (from_be_bytes w128 block) 0) refl (picked_bytes block all_places are)
    (rotated_0 (from_be_bytes w128 block) (omega (arith, is, below)) ∙ is) ∙ listed 16 block size

-- ---- the same of a vector of sixteen lanes

pub lanes_are : (v : List ℕ) → Each1 (Fits w8) v → IsBytes v
lanes_are [] fits i = omega arith
lanes_are (x ∷ xs) fits zero = fits.0.fits
lanes_are (x ∷ xs) fits (suc i) = lanes_are xs fits.1 i

pub word_turned : (v : List ℕ) → length v ≡ 16 → Each1 (Fits w8) v → map (λ k. get_or (v ++ v) k 0) from_4 ≡ rot v 32
word_turned v size fits = pick_l_left 0 v v 16 from_4 size tt ∙ sym (rot_32 v (lanes_are v fits))

pub half_turned : (v : List ℕ) → length v ≡ 16 → Each1 (Fits w8) v → map (λ k. get_or (v ++ v) k 0) from_8 ≡ rot v 64
half_turned v size fits = pick_l_left 0 v v 16 from_8 size tt ∙ sym (rot_64 v (lanes_are v fits))
