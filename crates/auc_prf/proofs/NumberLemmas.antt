-- On numbers as strings of bytes, the most significant first.
use Rattle.std.proofs.Common.{ℕ, zero, suc, ◌≡◌, ◌<◌, ◌≤◌, ◌+◌, ◌*◌, ◌/◌, ◌%◌, ◌^◌, List, [], ◌∷◌, length, get_or, arith, refl, sym, ap, ◌∙◌, lit<}
use Rattle.std.specs.Int.{byte_at, bytes_high_first}
use Rattle.std.proofs.lemmas.Nat.{div-mul-add, mod-mul-add, mul-le}
use Rattle.std.proofs.Math.Nat.{one-le-pow, pow-suc, pow-succ', add-mul, mul_assoc, mul_comm}
use Rattle.std.proofs.Math.Arith.{mod-mul}
use Rattle.auc_prf.specs.Generator.{number_of, bytes_of}

-- the elements of a list are bytes
abbrev pub AreBytes : List ℕ → Type 0
AreBytes bytes = (i : ℕ) → get_or bytes i 0 < 256

-- a power of 256 isn't zero
pub power_pos : (k : ℕ) → 0 < 256 ^ k
power_pos k = one-le-pow k 256 (lit< tt)

-- byte k of a number, byte 0 too
byte_at_is : (k n : ℕ) → byte_at k n ≡ n / 256 ^ k % 256
byte_at_is zero n = omega arith
byte_at_is (suc k) n = refl

-- one more byte in front keeps a number below the next power
below_step : (byte number power : ℕ) → byte < 256 → number < power → byte * power + number < power * 256
below_step byte number power is_byte below =
    let most : byte * power ≤ 255 * power = mul-le byte power 255 power (omega arith) (omega arith) in
    omega arith

-- what bytes spell is below a power of 256
pub number_of_below : (bytes : List ℕ) → AreBytes bytes → number_of bytes < 256 ^ length bytes
number_of_below [] are = lit< tt
number_of_below (byte ∷ rest) are =
    rw pow-suc (below_step byte (number_of rest) (256 ^ length rest) (are 0) (number_of_below rest (λ i. are (suc i))))

-- a number in front of which more stands, regrouped for one byte fewer
regrouped : (more byte number power : ℕ) → more * (power * 256) + (byte * power + number) ≡ (more * 256 + byte) * power + number
regrouped more byte number power =
    let spread : (more * 256 + byte) * power ≡ more * (power * 256) + byte * power =
    rw (add-mul (more * 256) byte power, mul_assoc more 256 power, mul_comm 256 power) refl in
    rw spread (omega arith)

-- bytes are found again in the number that they spell, whatever stands in front of it
pub high_first-number_of : (bytes : List ℕ) (more : ℕ) → AreBytes bytes → bytes_high_first (length bytes) (more * 256 ^ length bytes + number_of bytes) ≡ bytes
high_first-number_of [] more are = refl
high_first-number_of (byte ∷ rest) more are =
    let power : ℕ = 256 ^ length rest in
    let below : number_of rest < power = number_of_below rest (λ i. are (suc i)) in
    let is_byte : byte < 256 = are 0 in
    let same : more * 256 ^ suc (length rest) + (byte * power + number_of rest) ≡ (more * 256 + byte) * power + number_of rest =
    rw pow-suc (regrouped more byte (number_of rest) power) in
    let tail : bytes_high_first (length rest) ((more * 256 + byte) * power + number_of rest) ≡ rest = high_first-number_of rest (more * 256 + byte) (λ i. are (suc i)) in
    rw (same, byte_at_is, div-mul-add (more * 256 + byte) power (number_of rest) below, mod-mul-add more 256 byte is_byte, tail) refl

-- as many bytes as were asked for
length-high_first : (k n : ℕ) → length (bytes_high_first k n) ≡ k
length-high_first zero n = refl
length-high_first (suc k) n = ap suc (length-high_first k n)

-- the last k bytes of a number spell its remainder
pub number_of-high_first : (k n : ℕ) → number_of (bytes_high_first k n) ≡ n % 256 ^ k
number_of-high_first zero n = omega arith
number_of-high_first (suc k) n =
    rw (byte_at_is, length-high_first k n, number_of-high_first k n, pow-succ' 256 k)
    (sym (mod-mul n {m = 256} {c = 256 ^ k} (lit< tt) (power_pos k)))

-- 20 bytes are those of the number that they spell
pub bytes_of-number_of : (bytes : List ℕ) → length bytes ≡ 20 → AreBytes bytes → bytes_of (number_of bytes) ≡ bytes
unfolding bytes_of
bytes_of-number_of bytes size are =
    let alone : 0 * 256 ^ length bytes + number_of bytes ≡ number_of bytes = omega arith in
    let found : bytes_high_first (length bytes) (number_of bytes) ≡ bytes = rw alone at (high_first-number_of bytes 0 are) in
    rw size at found

-- a number below 2 ^ 160 is the one that its 20 bytes spell
pub number_of-bytes_of : (n : ℕ) → number_of (bytes_of (n % 2 ^ 160)) ≡ n % 2 ^ 160
unfolding bytes_of
number_of-bytes_of n = number_of-high_first 20 (n % 2 ^ 160) ∙ omega arith

-- one byte of a sum: the carry that comes out of it stands for 256 times as much as what came in
pub carry_step : (power sum x w carry byte next xs ws : ℕ) → byte + 256 * next ≡ x + w + carry → sum + carry * power ≡ 1 + xs + ws
    → (byte * power + sum) + next * (power * 256) ≡ 1 + (x * power + xs) + (w * power + ws)
carry_step power sum x w carry byte next xs ws total before =
    let out : (byte + 256 * next) * power ≡ byte * power + next * (power * 256) =
    rw (add-mul byte (256 * next) power, mul_comm 256 next, mul_assoc next 256 power, mul_comm 256 power) refl in
    let ins : (x + w + carry) * power ≡ x * power + w * power + carry * power =
    rw (add-mul (x + w) carry power, add-mul x w power) refl in
    let same : (byte + 256 * next) * power ≡ (x + w + carry) * power = ap (λ (t : ℕ). t * power) total in
    omega (arith, out, ins, same)
