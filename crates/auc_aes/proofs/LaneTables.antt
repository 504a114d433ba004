-- What the look-ups of lanes give, by computation over all bytes.
use Rattle.std.proofs.Common.{◌≡◌, ℕ, ◌+◌, ◌*◌, ◌/◌, ◌%◌, ◌<◌, true, List, get_or, bit_xor, refl, sym, ap, ◌∙◌, arith}
use Rattle.std.proofs.lemmas.Nat.{xor_shr, xor_mod, xor_lt, xor_comm}
use Rattle.std.specs.Int.Bits.{xor_assoc, xor_zero_r, xor_self}
use Rattle.auc_aes.specs.Field.{xtimes, product_by, product, sub_byte}
use Rattle.auc_aes.specs.declared.tables.TheConstants.{S_BOX}
use Rattle.auc_aes.specs.declared.lane_tables.TheConstants.{COORDINATES_LOW, COORDINATES_HIGH}
use Rattle.auc_aes.specs.Lanes.{entry, low_of, high_of, coordinates, key_coordinates, substituted, doubled, substituted_byte}
use Rattle.auc_aes.proofs.TableLemmas.{agree, agree_at, S_BOX_is}
use Rattle.auc_aes.proofs.FieldLemmas.{medial, sum4_add, product_linear, sub_byte_lt}
use Rattle.auc_aes.specs.Cipher.{mixed}

-- the S-box without its constant
abbrev pub plain : ℕ → ℕ
plain b = bit_xor (sub_byte b) 99

substituted_agrees : agree (λ b. substituted (coordinates b)) (λ b. coordinates (bit_xor (get_or S_BOX b 0) 99)) 256 ≡ true
substituted_agrees = refl

-- the S-box without its constant, in coordinates
pub substituted_is : (b : ℕ) → b < 256 → substituted (coordinates b) ≡ coordinates (plain b)
substituted_is b l =
    agree_at (λ x. substituted (coordinates x)) (λ x. coordinates (bit_xor (get_or S_BOX x 0) 99)) 256 b substituted_agrees l
    ∙ ap (λ x. coordinates (bit_xor x 99)) (S_BOX_is b l)

doubled_agrees : agree (λ b. doubled (coordinates b)) (λ b. coordinates (product 2 (bit_xor (get_or S_BOX b 0) 99))) 256 ≡ true
unfolding product product_by xtimes
doubled_agrees = refl

-- twice that
pub doubled_is : (b : ℕ) → b < 256 → doubled (coordinates b) ≡ coordinates (product 2 (plain b))
doubled_is b l =
    agree_at (λ x. doubled (coordinates x)) (λ x. coordinates (product 2 (bit_xor (get_or S_BOX x 0) 99))) 256 b doubled_agrees l
    ∙ ap (λ x. coordinates (product 2 (bit_xor x 99))) (S_BOX_is b l)

substituted_byte_agrees : agree (λ b. substituted_byte (coordinates b)) (λ b. bit_xor (get_or S_BOX b 0) 99) 256 ≡ true
substituted_byte_agrees = refl

-- the S-box without its constant, as a byte
pub substituted_byte_is : (b : ℕ) → b < 256 → substituted_byte (coordinates b) ≡ plain b
substituted_byte_is b l =
    agree_at (λ x. substituted_byte (coordinates x)) (λ x. bit_xor (get_or S_BOX x 0) 99) 256 b substituted_byte_agrees l
    ∙ ap (λ x. bit_xor x 99) (S_BOX_is b l)

-- ---- coordinates are additive

low_agrees : agree low_of (λ b. b % 16) 256 ≡ true
low_agrees = refl

LOW_agrees : agree (λ n. entry COORDINATES_LOW (bit_xor (n / 16) (n % 16))) (λ n. bit_xor (entry COORDINATES_LOW (n / 16)) (entry COORDINATES_LOW (n % 16))) 256 ≡ true
LOW_agrees = refl

HIGH_agrees : agree (λ n. entry COORDINATES_HIGH (bit_xor (n / 16) (n % 16))) (λ n. bit_xor (entry COORDINATES_HIGH (n / 16)) (entry COORDINATES_HIGH (n % 16))) 256 ≡ true
HIGH_agrees = refl

-- a table of halves that is additive at all pairs
additive : (table : List ℕ) (x y : ℕ) → x < 16 → y < 16
    → agree (λ n. entry table (bit_xor (n / 16) (n % 16))) (λ n. bit_xor (entry table (n / 16)) (entry table (n % 16))) 256 ≡ true
    → entry table (bit_xor x y) ≡ bit_xor (entry table x) (entry table y)
additive table x y lx ly all =
    let first : (16 * x + y) / 16 ≡ x = omega arith in
    let second : (16 * x + y) % 16 ≡ y = omega arith in
    ap (λ n. entry table (bit_xor n y)) (sym first) ∙ ap (λ n. entry table (bit_xor ((16 * x + y) / 16) n)) (sym second)
    ∙ agree_at (λ n. entry table (bit_xor (n / 16) (n % 16))) (λ n. bit_xor (entry table (n / 16)) (entry table (n % 16))) 256 (16 * x + y) all (omega arith)
    ∙ ap (λ n. bit_xor (entry table n) (entry table ((16 * x + y) % 16))) first ∙ ap (λ n. bit_xor (entry table x) (entry table n)) second

-- the halves of a sum are the sums of the halves
low_xor : (a b : ℕ) → a < 256 → b < 256 → low_of (bit_xor a b) ≡ bit_xor (low_of a) (low_of b)
low_xor a b la lb =
    agree_at low_of (λ x. x % 16) 256 (bit_xor a b) low_agrees (xor_lt 8 a b la lb) ∙ xor_mod a b 4
    ∙ sym (ap (λ x. bit_xor x (low_of b)) (agree_at low_of (λ x. x % 16) 256 a low_agrees la)
    ∙ ap (bit_xor (a % 16)) (agree_at low_of (λ x. x % 16) 256 b low_agrees lb))

low_lt : (a : ℕ) → a < 256 → low_of a < 16
low_lt a la = let same : low_of a ≡ a % 16 = agree_at low_of (λ x. x % 16) 256 a low_agrees la in omega arith

-- the coordinates of a sum
pub coordinates_xor : (a b : ℕ) → a < 256 → b < 256 → coordinates (bit_xor a b) ≡ bit_xor (coordinates a) (coordinates b)
coordinates_xor a b la lb =
    let high : high_of (bit_xor a b) ≡ bit_xor (high_of a) (high_of b) = xor_shr a b 4 in
    ap (λ x. bit_xor (entry COORDINATES_LOW x) (entry COORDINATES_HIGH (high_of (bit_xor a b)))) (low_xor a b la lb)
    ∙ ap (λ x. bit_xor (entry COORDINATES_LOW (bit_xor (low_of a) (low_of b))) (entry COORDINATES_HIGH x)) high
    ∙ ap (λ x. bit_xor x (entry COORDINATES_HIGH (bit_xor (high_of a) (high_of b)))) (additive COORDINATES_LOW (low_of a) (low_of b) (low_lt a la) (low_lt b lb) LOW_agrees)
    ∙ ap (bit_xor (bit_xor (entry COORDINATES_LOW (low_of a)) (entry COORDINATES_LOW (low_of b)))) (additive COORDINATES_HIGH (high_of a) (high_of b) (omega arith) (omega arith) HIGH_agrees)
    ∙ medial (entry COORDINATES_LOW (low_of a)) (entry COORDINATES_LOW (low_of b)) (entry COORDINATES_HIGH (high_of a)) (entry COORDINATES_HIGH (high_of b))

-- ---- one lane of a round

-- a term that is added on both sides goes
pub cancelled : (m k u : ℕ) → bit_xor (bit_xor m u) (bit_xor k u) ≡ bit_xor m k
cancelled m k u = medial m u k u ∙ ap (bit_xor (bit_xor m k)) (xor_self u) ∙ xor_zero_r (bit_xor m k)

-- the order in which the lanes are added
regrouped : (p q r s t : ℕ) → bit_xor (bit_xor p q) (bit_xor (bit_xor r s) t) ≡ bit_xor (bit_xor (bit_xor p (bit_xor r t)) q) s
regrouped p q r s t =
    ap (bit_xor (bit_xor p q)) (xor_assoc r s t ∙ ap (bit_xor r) (xor_comm s t) ∙ sym (xor_assoc r t s))
    ∙ medial p q (bit_xor r t) s ∙ sym (xor_assoc (bit_xor p (bit_xor r t)) q s)

-- the coordinates of six bytes that are added in this order
gathered : (p q r s t k : ℕ) → p < 256 → q < 256 → r < 256 → s < 256 → t < 256 → k < 256
    → bit_xor (bit_xor (bit_xor (coordinates p) (coordinates q)) (bit_xor (bit_xor (coordinates r) (coordinates s)) (coordinates t))) (coordinates k)
    ≡ coordinates (bit_xor (bit_xor (bit_xor p q) (bit_xor (bit_xor r s) t)) k)
gathered p q r s t k lp lq lr ls lt lk =
    let pq : bit_xor p q < 256 = xor_lt 8 p q lp lq in
    let rs : bit_xor r s < 256 = xor_lt 8 r s lr ls in
    let rst : bit_xor (bit_xor r s) t < 256 = xor_lt 8 (bit_xor r s) t rs lt in
    let all : bit_xor (bit_xor p q) (bit_xor (bit_xor r s) t) < 256 = xor_lt 8 (bit_xor p q) (bit_xor (bit_xor r s) t) pq rst in
    sym (coordinates_xor (bit_xor (bit_xor p q) (bit_xor (bit_xor r s) t)) k all lk
    ∙ ap (λ x. bit_xor x (coordinates k))
    (coordinates_xor (bit_xor p q) (bit_xor (bit_xor r s) t) pq rst
    ∙ ap (λ x. bit_xor x (coordinates (bit_xor (bit_xor r s) t))) (coordinates_xor p q lp lq)
    ∙ ap (bit_xor (bit_xor (coordinates p) (coordinates q)))
    (coordinates_xor (bit_xor r s) t rs lt ∙ ap (λ x. bit_xor x (coordinates t)) (coordinates_xor r s lr ls))))

three_agrees : agree (λ x. bit_xor (product 2 x) x) (product 3) 256 ≡ true
unfolding product product_by xtimes
three_agrees = refl

-- a column of bytes to each of which the same byte is added
mixed_with : (a b c d u : ℕ) → a < 256 → b < 256 → c < 256 → d < 256 → u < 256
    → mixed (bit_xor a u) (bit_xor b u) (bit_xor c u) (bit_xor d u) ≡ bit_xor (mixed a b c d) (mixed u u u u)
unfolding mixed
mixed_with a b c d u la lb lc ld lu =
    ap (λ x. bit_xor (bit_xor (bit_xor x (product 3 (bit_xor b u))) (bit_xor c u)) (bit_xor d u)) ((product_linear 2).adds a u la lu)
    ∙ ap (λ x. bit_xor (bit_xor (bit_xor (bit_xor (product 2 a) (product 2 u)) x) (bit_xor c u)) (bit_xor d u)) ((product_linear 3).adds b u lb lu)
    ∙ sym (sum4_add (product 2 a) (product 3 b) c d (product 2 u) (product 3 u) u u)

constant_mixed : mixed 99 99 99 99 ≡ 99
unfolding mixed product product_by xtimes
constant_mixed = refl

-- a mixed byte, by its equation
as_mixed : (a b c d : ℕ) → bit_xor (bit_xor (bit_xor (product 2 a) (product 3 b)) c) d ≡ mixed a b c d
unfolding mixed
as_mixed a b c d = refl

-- what the lanes add up to, on bytes
on_bytes : (a b c d k : ℕ) → a < 256 → b < 256 → c < 256 → d < 256
    → bit_xor (bit_xor (bit_xor (product 2 (bit_xor a 99)) (bit_xor c 99)) (bit_xor (bit_xor (product 2 (bit_xor b 99)) (bit_xor d 99)) (bit_xor b 99))) (bit_xor k 99)
    ≡ bit_xor (mixed a b c d) k
on_bytes a b c d k la lb lc ld =
    ap (λ x. bit_xor x (bit_xor k 99))
    (regrouped (product 2 (bit_xor a 99)) (bit_xor c 99) (product 2 (bit_xor b 99)) (bit_xor d 99) (bit_xor b 99)
    ∙ ap (λ x. bit_xor (bit_xor (bit_xor (product 2 (bit_xor a 99)) x) (bit_xor c 99)) (bit_xor d 99))
    (agree_at (λ x. bit_xor (product 2 x) x) (product 3) 256 (bit_xor b 99) three_agrees (xor_lt 8 b 99 lb (omega arith)))
    ∙ as_mixed (bit_xor a 99) (bit_xor b 99) (bit_xor c 99) (bit_xor d 99)
    ∙ mixed_with a b c d 99 la lb lc ld (omega arith) ∙ ap (bit_xor (mixed a b c d)) constant_mixed)
    ∙ cancelled (mixed a b c d) k 99

-- a lane of a round
pub lane_is : (a b c d k : ℕ) → a < 256 → b < 256 → c < 256 → d < 256 → k < 256
    → bit_xor (bit_xor (bit_xor (doubled (coordinates a)) (substituted (coordinates c))) (bit_xor (bit_xor (doubled (coordinates b)) (substituted (coordinates d))) (substituted (coordinates b)))) (key_coordinates k)
    ≡ coordinates (bit_xor (mixed (sub_byte a) (sub_byte b) (sub_byte c) (sub_byte d)) k)
lane_is a b c d k la lb lc ld lk =
    let sa : sub_byte a < 256 = sub_byte_lt a la in
    let sb : sub_byte b < 256 = sub_byte_lt b lb in
    let sc : sub_byte c < 256 = sub_byte_lt c lc in
    let sd : sub_byte d < 256 = sub_byte_lt d ld in
    let pa : plain a < 256 = xor_lt 8 (sub_byte a) 99 sa (omega arith) in
    let pb : plain b < 256 = xor_lt 8 (sub_byte b) 99 sb (omega arith) in
    let pc : plain c < 256 = xor_lt 8 (sub_byte c) 99 sc (omega arith) in
    let pd : plain d < 256 = xor_lt 8 (sub_byte d) 99 sd (omega arith) in
    ap (λ x. bit_xor (bit_xor (bit_xor x (substituted (coordinates c))) (bit_xor (bit_xor (doubled (coordinates b)) (substituted (coordinates d))) (substituted (coordinates b)))) (key_coordinates k)) (doubled_is a la)
    ∙ ap (λ x. bit_xor (bit_xor (bit_xor (coordinates (product 2 (plain a))) x) (bit_xor (bit_xor (doubled (coordinates b)) (substituted (coordinates d))) (substituted (coordinates b)))) (key_coordinates k)) (substituted_is c lc)
    ∙ ap (λ x. bit_xor (bit_xor (bit_xor (coordinates (product 2 (plain a))) (coordinates (plain c))) (bit_xor (bit_xor x (substituted (coordinates d))) (substituted (coordinates b)))) (key_coordinates k)) (doubled_is b lb)
    ∙ ap (λ x. bit_xor (bit_xor (bit_xor (coordinates (product 2 (plain a))) (coordinates (plain c))) (bit_xor (bit_xor (coordinates (product 2 (plain b))) x) (substituted (coordinates b)))) (key_coordinates k)) (substituted_is d ld)
    ∙ ap (λ x. bit_xor (bit_xor (bit_xor (coordinates (product 2 (plain a))) (coordinates (plain c))) (bit_xor (bit_xor (coordinates (product 2 (plain b))) (coordinates (plain d))) x)) (key_coordinates k)) (substituted_is b lb)
    ∙ gathered (product 2 (plain a)) (plain c) (product 2 (plain b)) (plain d) (plain b) (bit_xor k 99)
    ((product_linear 2).byte (plain a) pa) pc ((product_linear 2).byte (plain b) pb) pd pb (xor_lt 8 k 99 lk (omega arith))
    ∙ ap coordinates (on_bytes (sub_byte a) (sub_byte b) (sub_byte c) (sub_byte d) k sa sb sc sd)

-- a lane of the last round
pub last_lane_is : (a k : ℕ) → a < 256 → bit_xor (substituted_byte (coordinates a)) (bit_xor k 99) ≡ bit_xor (sub_byte a) k
last_lane_is a k la = ap (λ x. bit_xor x (bit_xor k 99)) (substituted_byte_is a la) ∙ cancelled (sub_byte a) k 99
