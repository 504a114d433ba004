-- For the sum of two strings of 20 bytes with its carry.
use Rattle.std.proofs.Common.{ℕ, zero, suc, [], replicate, lit<, ◌≡◌, ◌<◌, ◌≤◌, ◌+◌, ◌-◌, ◌*◌, ◌/◌, ◌%◌, ◌^◌, List, ◌∷◌, length, get_or, slice_set, drop, arith, refl, sym, add-one}
use Rattle.std.proofs.lemmas.List.{drop-set, length-drop}
use Rattle.std.proofs.Math.Seq.{drop-cons}
use Rattle.std.proofs.Math.Nat.{pow-suc}
use Rattle.auc_prf.specs.Generator.{number_of, bytes_of}
use Rattle.auc_prf.proofs.NumberLemmas.{AreBytes, carry_step, number_of_below, bytes_of-number_of}

-- the number that a string spells from byte j on, by that byte and those behind it
number_of-drop : (bytes : List ℕ) (j : ℕ) → length bytes ≡ 20 → j < 20
    → number_of (drop j bytes) ≡ get_or bytes j 0 * 256 ^ (20 - (j + 1)) + number_of (drop (j + 1) bytes)
number_of-drop bytes j size below =
    let within : j < length bytes = omega arith in
    let left : length (drop (j + 1) bytes) ≡ 20 - (j + 1) = rw size at (length-drop (j + 1) bytes) in
    let cut : drop j bytes ≡ get_or bytes j 0 ∷ drop (j + 1) bytes = rw add-one (drop-cons bytes j 0 within) in
    rw (cut, left) refl

-- the sum after one more byte
pub added_next : (xkey word sum : List ℕ) (i carry total : ℕ) → length xkey ≡ 20 → length word ≡ 20 → length sum ≡ 20 → 0 < i → i ≤ 20
    → total ≡ get_or xkey (i - 1) 0 + get_or word (i - 1) 0 + carry
    → number_of (drop i sum) + carry * 256 ^ (20 - i) ≡ 1 + number_of (drop i xkey) + number_of (drop i word)
    → number_of (drop (i - 1) (slice_set sum (i - 1) (total % 256))) + total / 256 * 256 ^ (20 - (i - 1)) ≡ 1 + number_of (drop (i - 1) xkey) + number_of (drop (i - 1) word)
added_next xkey word sum i carry total xkey_size word_size sum_size pos most is before =
    let j : ℕ = i - 1 in
    let below : j < 20 = omega arith in
    let within : j < length sum = omega arith in
    let place : i ≡ j + 1 = omega arith in
    let earlier : number_of (drop (j + 1) sum) + carry * 256 ^ (20 - (j + 1)) ≡ 1 + number_of (drop (j + 1) xkey) + number_of (drop (j + 1) word) = rw place at before in
    let left : length (drop (j + 1) sum) ≡ 20 - (j + 1) = rw sum_size at (length-drop (j + 1) sum) in
    let more : 20 - j ≡ suc (20 - (j + 1)) = omega arith in
    rw (drop-set sum j (total % 256) within, number_of-drop xkey j xkey_size below, number_of-drop word j word_size below, more, pow-suc, left)
    (carry_step (256 ^ (20 - (j + 1))) (number_of (drop (j + 1) sum)) (get_or xkey j 0) (get_or word j 0) carry (total % 256) (total / 256) (number_of (drop (j + 1) xkey)) (number_of (drop (j + 1) word)) (omega arith) earlier)

-- zeros are bytes
pub AreBytes-zeros : (n : ℕ) → AreBytes (replicate n 0)
AreBytes-zeros zero i = lit< tt
AreBytes-zeros (suc n) zero = lit< tt
AreBytes-zeros (suc n) (suc i) = AreBytes-zeros n i

-- bytes stay bytes where another is put among them
pub AreBytes-set : (bytes : List ℕ) (j byte : ℕ) → AreBytes bytes → byte < 256 → AreBytes (slice_set bytes j byte)
AreBytes-set [] j byte are is i = are i
AreBytes-set (first ∷ rest) zero byte are is zero = is
AreBytes-set (first ∷ rest) zero byte are is (suc i) = are (suc i)
AreBytes-set (first ∷ rest) (suc j) byte are is zero = are 0
AreBytes-set (first ∷ rest) (suc j) byte are is (suc i) = AreBytes-set rest j byte (λ k. are (suc k)) is i

-- the whole sum, whose last carry is dropped
pub sum_is : (sum : List ℕ) (carry total : ℕ) → length sum ≡ 20 → AreBytes sum → number_of sum + carry * 2 ^ 160 ≡ total → sum ≡ bytes_of (total % 2 ^ 160)
sum_is sum carry total size are is =
    let below : number_of sum < 2 ^ 160 = rw size at (number_of_below sum are) in
    let rest : total % 2 ^ 160 ≡ number_of sum = omega arith in
    rw rest (sym (bytes_of-number_of sum size are))
