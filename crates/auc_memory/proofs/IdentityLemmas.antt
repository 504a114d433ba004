-- For identities: what their digits are, and that each is read back from its text.
use Rattle.std.proofs.Common.{◌≡◌, ℕ, zero, suc, ◌+◌, ◌-◌, ◌*◌, ◌/◌, ◌%◌, ◌^◌, ◌<◌, ◌≤◌, ◌&&◌, Bool, true, false, leb, List, [], ◌∷◌, ◌++◌, length, take, get_or, Some, None, refl, sym, ◌∙◌, ap, subst, if◌then◌else◌, arith, length-append}
use Rattle.std.specs.List.{list_all}
use Rattle.std.specs.Char.{is_ascii_digit}
use Rattle.std.proofs.lemmas.Bool.{leb-true, le-leb}
use Rattle.std.proofs.lemmas.List.Folds.{list_all-append}
use Rattle.std.proofs.Math.Seq.{take-suc, take-length}
use Rattle.std.proofs.Math.Nat.{pow-le-pow_right, pow-suc, mul_assoc}
use Rattle.auc_memory.specs.Identity.{Identity, IsIdentity, is_identity, number_of, identity_of, last_digits, digits_of}

-- ten times a product with a power is the product with the next power
ten_times : (digit power number last : ℕ) → digit * (power * 10) + (10 * number + last) ≡ 10 * (digit * power + number) + last
ten_times digit power number last =
    let moved : digit * (power * 10) ≡ digit * power * 10 = sym (mul_assoc digit power 10) in
    omega (arith, moved)

-- a digit after the last makes ten times the number, and the digit
pub number_of_push : (text : List ℕ) (digit : ℕ) → number_of (text ++ digit ∷ []) ≡ 10 * number_of text + (digit - 48)
number_of_push [] digit = omega arith
number_of_push (first ∷ rest) digit =
    let size : length (rest ++ digit ∷ []) ≡ suc (length rest) = omega (arith, length-append rest (digit ∷ [])) in
    rw (size, pow-suc, number_of_push rest digit) (ten_times (first - 48) (10 ^ length rest) (number_of rest) (digit - 48))

-- the number of one digit more of a text, for loops over the digits
pub number_of_more : (text : List ℕ) (i number digit : ℕ) → number ≡ number_of (take i text) → digit ≡ get_or text i 0 - 48 → i < length text
    → 10 * number + digit ≡ number_of (take (i + 1) text)
number_of_more text i number digit front is within =
    let one : i + 1 ≡ suc i = omega arith in
    let more : number_of (take (suc i) text) ≡ 10 * number_of (take i text) + (get_or text i 0 - 48) =
    ap number_of (take-suc text i 0 within) ∙ number_of_push (take i text) (get_or text i 0) in
    rw one (omega (arith, more, front, is))

-- and the number stays below the next power of ten
pub below_more : (number digit i : ℕ) → number < 10 ^ i → digit ≤ 9 → 10 * number + digit < 10 ^ (i + 1)
below_more number digit i below last = let one : i + 1 ≡ suc i = omega arith in rw one (omega (arith, below, last, pow-suc 10 i))

-- both tests of a pair hold
both : (a b : Bool) → (a && b) ≡ true → (a ≡ true) × (b ≡ true)
both true b e = (refl, e)
both false b e = absurd (cc)

-- a digit's code is 48 to 57
digit_range : (code : ℕ) → is_ascii_digit code ≡ true → (48 ≤ code) × (code ≤ 57)
digit_range code e = let two = both (leb 48 code) (leb code 57) e in (leb-true 48 code two.0, leb-true code 57 two.1)

-- what a digit's code spells is at most 9
pub digit_most : (code : ℕ) → is_ascii_digit code ≡ true → code - 48 ≤ 9
digit_most code e = let range = digit_range code e in omega (arith, range.1)

-- each byte of a text of digits is a digit
pub digit_at : (text : List ℕ) (i : ℕ) → list_all is_ascii_digit text ≡ true → i < length text → (48 ≤ get_or text i 0) × (get_or text i 0 ≤ 57)
digit_at [] i e h = absurd (omega arith)
digit_at (code ∷ codes) zero e h = digit_range code (both (is_ascii_digit code) (list_all is_ascii_digit codes) e).0
digit_at (code ∷ codes) (suc i) e h = digit_at codes i (both (is_ascii_digit code) (list_all is_ascii_digit codes) e).1 (omega arith)

-- a number of at most 14 digits is below 10 ^ 14
pub below_limit : (number count : ℕ) → number < 10 ^ count → count ≤ 14 → number < 10 ^ 14
below_limit number count h small = let p : 10 ^ count ≤ 10 ^ 14 = pow-le-pow_right (omega arith) small in omega (arith, p)

-- there are as many last digits as were asked for
pub length-last_digits : (count number : ℕ) → length (last_digits count number) ≡ count
length-last_digits zero number = refl
length-last_digits (suc count) number = omega (arith, length-append (last_digits count (number / 10)) ((48 + number % 10) ∷ []), length-last_digits count (number / 10))

-- the code of a digit is one
is_digit_code : (digit : ℕ) → digit < 10 → is_ascii_digit (48 + digit) ≡ true
is_digit_code digit h = rw (le-leb 48 (48 + digit) (omega arith), le-leb (48 + digit) 57 (omega arith)) refl

-- last digits are digits
all-last_digits : (count number : ℕ) → list_all is_ascii_digit (last_digits count number) ≡ true
all-last_digits zero number = refl
all-last_digits (suc count) number =
    list_all-append is_ascii_digit (last_digits count (number / 10)) ((48 + number % 10) ∷ [])
    ∙ (λ i. all-last_digits count (number / 10) i && (is_digit_code (number % 10) (omega arith) i && true))

-- a tenth of a number has a digit less
tenth_below : (count number : ℕ) → number < 10 ^ suc count → number / 10 < 10 ^ count
tenth_below count number h = omega (arith, pow-suc 10 count)

-- the number of the last digits is the number
number_of-last_digits : (count number : ℕ) → number < 10 ^ count → number_of (last_digits count number) ≡ number
number_of-last_digits zero number h = omega arith
number_of-last_digits (suc count) number h =
    number_of_push (last_digits count (number / 10)) (48 + number % 10)
    ∙ omega (arith, number_of-last_digits count (number / 10) (tenth_below count number h))

-- a text of a right length, all of digits, is an identity's
read : (text : List ℕ) (count number : ℕ) → 6 ≤ count → count ≤ 15 → length text ≡ count → list_all is_ascii_digit text ≡ true → number_of text ≡ number → identity_of text ≡ Some (record { digits = count; number = number })
read text count number least most size digits value =
    let six : leb 6 (length text) ≡ true = le-leb 6 (length text) (omega arith) in
    let fifteen : leb (length text) 15 ≡ true = le-leb (length text) 15 (omega arith) in
    let is : is_identity text ≡ true = rw (six, fifteen, digits) refl in
    ap (λ (test : Bool). if test then Some (record { digits = length text; number = number_of text }) else None) is
    ∙ (λ i. Some (record { digits = size i; number = value i }))

-- each identity is read back from its text
pub identity_of-digits_of : (identity : Identity) → IsIdentity identity.digits identity.number → identity_of (digits_of identity) ≡ Some identity
identity_of-digits_of identity is =
    read (digits_of identity) identity.digits identity.number is.least is.most (length-last_digits identity.digits identity.number) (all-last_digits identity.digits identity.number) (number_of-last_digits identity.digits identity.number is.fits)

-- different identities have different texts
pub digits_of_injective : (first second : Identity) → IsIdentity first.digits first.number → IsIdentity second.digits second.number → digits_of first ≡ digits_of second → first ≡ second
digits_of_injective first second one two same =
    let read : Some first ≡ Some second = sym (identity_of-digits_of first one) ∙ ap identity_of same ∙ identity_of-digits_of second two in
    cc

-- a front of a text of digits is the last digits of its number
front_is : (text : List ℕ) (i : ℕ) → list_all is_ascii_digit text ≡ true → i ≤ length text → last_digits i (number_of (take i text)) ≡ take i text
front_is text zero digits h = refl
front_is text (suc i) digits h =
    let digit = digit_at text i digits (omega arith) in
    let code : ℕ = get_or text i 0 in
    let front : ℕ = number_of (take i text) in
    let all : number_of (take (suc i) text) ≡ 10 * front + (code - 48) = ap number_of (take-suc text i 0 (omega arith)) ∙ number_of_push (take i text) code in
    let tenth : number_of (take (suc i) text) / 10 ≡ front = omega (arith, digit.0, digit.1) in
    let last : 48 + number_of (take (suc i) text) % 10 ≡ code = omega (arith, digit.0, digit.1) in
    (λ k. last_digits i (tenth k) ++ last k ∷ [])
    ∙ ap (λ (some : List ℕ). some ++ code ∷ []) (front_is text i digits (omega arith))
    ∙ sym (take-suc text i 0 (omega arith))

-- a text of digits is the last digits of its number
text_is : (text : List ℕ) → list_all is_ascii_digit text ≡ true → last_digits (length text) (number_of text) ≡ text
text_is text digits =
    ap (λ (all : List ℕ). last_digits (length text) (number_of all)) (sym (take-length text))
    ∙ front_is text (length text) digits (omega arith) ∙ take-length text

-- the number of a front of a text of digits has no more digits than that
front_below : (text : List ℕ) (i : ℕ) → list_all is_ascii_digit text ≡ true → i ≤ length text → number_of (take i text) < 10 ^ i
front_below text zero digits h = omega arith
front_below text (suc i) digits h =
    let digit = digit_at text i digits (omega arith) in
    let all : number_of (take (suc i) text) ≡ 10 * number_of (take i text) + (get_or text i 0 - 48) = ap number_of (take-suc text i 0 (omega arith)) ∙ number_of_push (take i text) (get_or text i 0) in
    omega (arith, all, digit.1, front_below text i digits (omega arith), pow-suc 10 i)

-- the number of a text of digits has no more digits than the text
number_below : (text : List ℕ) → list_all is_ascii_digit text ≡ true → number_of text < 10 ^ length text
number_below text digits = omega (arith, front_below text (length text) digits (omega arith), ap number_of (take-length text))

-- what the tests of an identity's text say
pub record IsDigits (text : List ℕ) : Type 0 where
  pub least : 6 ≤ length text
  pub most : length text ≤ 15
  pub digits : list_all is_ascii_digit text ≡ true

-- the text of an identity is 6 to 15 digits, and the identity is their number
pub record IsTextOf (text : List ℕ) (identity : Identity) : Type 0 where
  pub shape : IsDigits text
  pub identity_is : record { digits = length text; number = number_of text } ≡ identity

-- what was read is the identity of 6 to 15 digits
IsTextOf-identity_of : (text : List ℕ) (identity : Identity) → identity_of text ≡ Some identity → IsTextOf text identity
IsTextOf-identity_of text identity was = by_test (is_identity text) refl
  where
    by_test : (test : Bool) → is_identity text ≡ test → IsTextOf text identity
    by_test true is =
        let same : Some (record { digits = length text; number = number_of text }) ≡ Some identity = ap (λ (test : Bool). if test then Some (record { digits = length text; number = number_of text }) else None) (sym is) ∙ was in
        let tests = both (leb 6 (length text) && leb (length text) 15) (list_all is_ascii_digit text) is in
        let sizes = both (leb 6 (length text)) (leb (length text) 15) tests.0 in
        record { shape = record { least = leb-true 6 (length text) sizes.0; most = leb-true (length text) 15 sizes.1; digits = tests.1 }; identity_is = cc }
    by_test false is =
        let none : None ≡ Some identity = ap (λ (test : Bool). if test then Some (record { digits = length text; number = number_of text }) else None) (sym is) ∙ was in
        absurd (cc)

-- each text of an identity is written back
pub digits_of-identity_of : (text : List ℕ) (identity : Identity) → identity_of text ≡ Some identity → digits_of identity ≡ text
digits_of-identity_of text identity was =
    let t = IsTextOf-identity_of text identity was in
    ap digits_of (sym t.identity_is) ∙ text_is text t.shape.digits

-- what was read is an identity
pub IsIdentity-identity_of : (text : List ℕ) (identity : Identity) → identity_of text ≡ Some identity → IsIdentity identity.digits identity.number
IsIdentity-identity_of text identity was =
    let t = IsTextOf-identity_of text identity was in
    let family : Identity → Type 0 = λ i. IsIdentity i.digits i.number in
    subst family t.identity_is (record { least = t.shape.least; most = t.shape.most; fits = number_below text t.shape.digits })
