-- The value that is read in a body is the one that the grammar gives it, and the other way round.
use Rattle.std.proofs.Common.{◌≡◌, ℕ, ◌+◌, ◌*◌, ◌/◌, ◌%◌, ◌^◌, ◌<◌, ◌≤◌, ◌⊎◌, Bool, true, false, cond, not, ◌&&◌, ◌||◌, ltb, leb, eqb, List, [], ◌∷◌, ◌++◌, length, get_or, take, drop, Ok, Err, refl, sym, ap, ◌∙◌, subst, arith, inl, inr, length-append, eq-eqb}
use Rattle.std.specs.List.{list_all}
use Rattle.std.specs.Int.{w16, to_be_bytes, from_be_bytes}
use Rattle.std.proofs.lemmas.Bool.{eqb-true}
use Rattle.std.proofs.lemmas.Bool.Decides.{nat_tests}
use Rattle.std.proofs.lemmas.List.{length-take, length-drop, take-append-drop, take_at, drop_at}
use Rattle.std.proofs.lemmas.Nat.{be_bytes_2, from_be_bytes-to_be_bytes_2}
use Rattle.auc_attr.specs.declared.refusal.AttrRefusal.TheVariants as refusal
use Rattle.auc_attr.specs.declared.table.Shape.{Shape}
use Rattle.auc_attr.specs.declared.table.Shape.TheVariants as shape
use Rattle.auc_attr.specs.InnerFront.{value_if, zeros_if, counted, counted_value, value_at}
use Rattle.auc_attr.specs.Grammar.{IsAfterReserved, IsCounted, IsBody}
use Rattle.auc_attr.specs.Spelling.{is_zero, fill, fits}
use Rattle.auc_attr.proofs.Tools.{IsBytes, IsBytes-take, held, ok_is, and_parts, and_from, passed, not-false}

-- what follows two bytes
after_reserved : (body value : List ℕ) → 2 ≤ length body → drop 2 body ≡ value → IsAfterReserved body value
after_reserved body value long e = record {
  free = take 2 body;
  two = omega (arith, length-take 2 body);
  parts = sym (take-append-drop 2 body) ∙ ap (λ (v : List ℕ). take 2 body ++ v) e;
}

-- a number of two bytes looks at no others
front_number : (body : List ℕ) → from_be_bytes w16 (take 2 body) ≡ from_be_bytes w16 body
front_number [] = refl
front_number (a ∷ []) = refl
front_number (a ∷ b ∷ body) = refl

-- the two bytes of a number are those that it was read from
pub number_front : (body : List ℕ) → 2 ≤ length body → IsBytes body → to_be_bytes w16 (from_be_bytes w16 body) ≡ take 2 body
number_front body long fits =
    be_bytes_2 (take 2 body) (from_be_bytes w16 body) (omega (arith, length-take 2 body)) (IsBytes-take 2 body fits) (sym (front_number body))

-- what the test of a value after its length says
record Tested (unit least most count size long : ℕ) : Type 0 where
  whole : unit * size ≡ count
  at_least : least ≤ size
  at_most : size ≤ most
  exact : long ≡ 2 + size + fill size

-- a number without remainder is a multiple
whole_is : (unit count : ℕ) → 0 < unit → count % unit ≡ 0 → unit * (count / unit) ≡ count
whole_is unit count some e = omega arith

-- the test of a value after its length says so
tested : (unit least most : ℕ) (body : List ℕ) → 0 < unit → counted unit least most body ≡ true
    → Tested unit least most (from_be_bytes w16 body) (from_be_bytes w16 body / unit) (length body)
tested unit least most body some e =
    let count = from_be_bytes w16 body in
    let size = count / unit in
    let p = and_parts ((eqb (count % unit) 0 && leb least size) && leb size most) (eqb (length body) (2 + size + fill size)) e in
    let q = and_parts (eqb (count % unit) 0 && leb least size) (leb size most) p.0 in
    let r = and_parts (eqb (count % unit) 0) (leb least size) q.0 in
    record {
      whole = whole_is unit count some (eqb-is (count % unit) 0 r.0);
      at_least = leb-is least size r.1;
      at_most = leb-is size most q.1;
      exact = eqb-is (length body) (2 + size + fill size) p.1;
    }
  where
    eqb-is : (a b : ℕ) → eqb a b ≡ true → a ≡ b
    eqb-is a b h = grind (arith, nat_tests)

    leb-is : (a b : ℕ) → leb a b ≡ true → a ≤ b
    leb-is a b h = grind (arith, nat_tests)

-- a value after its length that is read stands there
counted_sound : (unit least most : ℕ) (body value : List ℕ) → 0 < unit → 2 ≤ length body → IsBytes body
    → counted unit least most body ≡ true → counted_value unit body ≡ value → IsCounted unit least most body value
counted_sound unit least most body value some long fits test e =
    let t = tested unit least most body some test in
    let size = from_be_bytes w16 body / unit in
    let rest = drop 2 body in
    let len : length value ≡ size = sym (ap length e) ∙ omega (arith, length-take size rest, length-drop 2 body, t.exact) in
    record {
      at_least = omega (arith, t.at_least, len);
      at_most = omega (arith, t.at_most, len);
      filling = drop size rest;
      short = omega (arith, length-drop size rest, length-drop 2 body, t.exact);
      parts =
          sym (take-append-drop 2 body)
          ∙ ap (λ (f : List ℕ). f ++ rest) (sym (number_front body long fits))
          ∙ ap (λ (n : ℕ). to_be_bytes w16 n ++ rest) (sym t.whole ∙ ap (λ (n : ℕ). unit * n) (sym len))
          ∙ ap (λ (r : List ℕ). to_be_bytes w16 (unit * length value) ++ r) (sym (take-append-drop size rest) ∙ ap (λ (v : List ℕ). v ++ drop size rest) e);
    }

-- one of three tests of a number held
three_sizes : (n a b c : ℕ) → (eqb n a || eqb n b || eqb n c) ≡ true → (n ≡ a) ⊎ ((n ≡ b) ⊎ (n ≡ c))
three_sizes n a b c e = grind (arith, nat_tests)

-- a body of 2, 22 or 34 bytes has a hash of 0, 20 or 32
hash_sizes : (n m : ℕ) → n ≡ 2 + m → (n ≡ 2) ⊎ ((n ≡ 22) ⊎ (n ≡ 34)) → (m ≡ 0) ⊎ ((m ≡ 20) ⊎ (m ≡ 32))
hash_sizes n m e (inl h) = inl (omega arith)
hash_sizes n m e (inr (inl h)) = inr (inl (omega arith))
hash_sizes n m e (inr (inr h)) = inr (inr (omega arith))

-- one of two tests of a number held
two_sizes : (n a b : ℕ) → (eqb n a || eqb n b) ≡ true → (n ≡ a) ⊎ (n ≡ b)
two_sizes n a b e = grind (arith, nat_tests)

-- a body of 34 or 50 bytes has two or three times 16
several_sizes : (n m : ℕ) → n ≡ 2 + m → (n ≡ 34) ⊎ (n ≡ 50) → (m ≡ 32) ⊎ (m ≡ 48)
several_sizes n m e (inl h) = inl (omega arith)
several_sizes n m e (inr h) = inr (omega arith)

-- a value has as many bytes as its count says
even_size : (body value : List ℕ) → IsCounted 1 2 1016 body value → from_be_bytes w16 body ≡ length value
even_size body value p =
    ap (λ (b : List ℕ). from_be_bytes w16 b) p.parts ∙ from_be_bytes-to_be_bytes_2 (1 * length value) (omega (arith, p.at_most)) ∙ omega arith

-- two bytes are the first and the second
two_cells : (body : List ℕ) → length body ≡ 2 → body ≡ get_or body 0 0 ∷ get_or body 1 0 ∷ []
two_cells [] e = absurd (omega arith)
two_cells (a ∷ []) e = absurd (omega arith)
two_cells (a ∷ b ∷ []) e = refl
two_cells (a ∷ b ∷ c ∷ body) e = absurd (omega arith)

-- a body is two bytes longer than what follows two
long_by : (body value : List ℕ) → 2 ≤ length body → drop 2 body ≡ value → length body ≡ 2 + length value
long_by body value long e = omega (arith, length-drop 2 body, ap length e)

-- a value that is read in a body is the body's
pub body_sound : (s : Shape) (kind : ℕ) (body value : List ℕ) → 2 ≤ length body → IsBytes body → value_at s kind body ≡ Ok value → IsBody s body value
unfolding value_at
body_sound (shape.Fixed n) kind body value long fits e =
    let h = held (eqb (length body) n) (refusal.BadLength kind) body value e in
    (sym (ap length h.1) ∙ eqb-true (length body) n h.0, h.1)
body_sound (shape.AfterReserved n) kind body value long fits e =
    let h = held (eqb (length body) (2 + n)) (refusal.BadLength kind) (drop 2 body) value e in
    (omega (arith, eqb-true (length body) (2 + n) h.0, long_by body value long h.1), after_reserved body value long h.1)
body_sound shape.BitCounted kind body value long fits e =
    let h = held (counted 8 4 16 body) (refusal.BadLength kind) (counted_value 8 body) value e in
    counted_sound 8 4 16 body value (omega arith) long fits h.0 h.1
body_sound shape.ByteCounted kind body value long fits e =
    let h = held (counted 1 0 1016 body) (refusal.BadLength kind) (counted_value 1 body) value e in
    counted_sound 1 0 1016 body value (omega arith) long fits h.0 h.1
body_sound shape.Several kind body value long fits e =
    let h = held (eqb (length body) 34 || eqb (length body) 50) (refusal.BadLength kind) (drop 2 body) value e in
    (several_sizes (length body) (length value) (long_by body value long h.1) (two_sizes (length body) 34 50 h.0), after_reserved body value long h.1)
body_sound shape.Versions kind body value long fits e =
    let count = from_be_bytes w16 body in
    let h = held (eqb (count % 2) 0 && counted 1 2 1016 body) (refusal.BadLength kind) (counted_value 1 body) value e in
    let both = and_parts (eqb (count % 2) 0) (counted 1 2 1016 body) h.0 in
    let there = counted_sound 1 2 1016 body value (omega arith) long fits both.1 h.1 in
    (ap (λ (n : ℕ). n % 2) (sym (even_size body value there)) ∙ eqb-true (count % 2) 0 both.0, there)
body_sound shape.Ciphertext kind body value long fits e = after_reserved body value long (ok_is (drop 2 body) value e)
body_sound shape.Hash kind body value long fits e =
    let h = held (eqb (length body) 2 || eqb (length body) 22 || eqb (length body) 34) (refusal.BadLength kind) (drop 2 body) value e in
    (hash_sizes (length body) (length value) (long_by body value long h.1) (three_sizes (length body) 2 22 34 h.0), after_reserved body value long h.1)
body_sound shape.Zeros kind body value long fits e =
    let test = eqb (length body) 2 || eqb (length body) 6 || eqb (length body) 10 in
    let h = passed (not test) (refusal.BadLength kind) (cond (list_all is_zero body) (Ok body) (Err refusal.BadPadding)) value e in
    let k = held (list_all is_zero body) refusal.BadPadding body value h.1 in
    let sizes = three_sizes (length body) 2 6 10 (not-false test h.0) in
    (subst (λ (v : List ℕ). (length v ≡ 2) ⊎ ((length v ≡ 6) ⊎ (length v ≡ 10))) k.1 sizes, sym (ap (λ v. list_all is_zero v) k.1) ∙ k.0, k.1)
body_sound shape.Flag kind body value long fits e =
    let h = held (eqb (length body) 2) (refusal.BadLength kind) (cond (ltb (get_or body 0 0) 128) 0 1 ∷ []) value e in
    record { first = get_or body 0 0; second = get_or body 1 0; parts = two_cells body (eqb-true (length body) 2 h.0); top = sym h.1 }
body_sound shape.Skipped kind body value long fits e = ok_is body value e

-- an order passes its test
le-leb : (a b : ℕ) → a ≤ b → leb a b ≡ true
le-leb a b h = grind (arith, nat_tests)

-- a value after its length passes the test
test_is : (unit least most count n long : ℕ) → count ≡ unit * n → (unit * n) / unit ≡ n → (unit * n) % unit ≡ 0 → least ≤ n → n ≤ most → long ≡ 2 + n + fill n
    → (((eqb (count % unit) 0 && leb least (count / unit)) && leb (count / unit) most) && eqb long (2 + count / unit + fill (count / unit))) ≡ true
test_is unit least most count n long e d m lo hi size =
    rw (e, d, m) (and_from (leb least n && leb n most) (eqb long (2 + n + fill n)) (and_from (leb least n) (leb n most) (le-leb least n lo) (le-leb n most hi)) (eq-eqb long (2 + n + fill n) size))

-- fewer than four bytes that fill whole units are the least fill
pub filled : (n filling long units : ℕ) → filling < 4 → long ≡ 2 + (n + filling) → long + 2 ≡ 4 * units → long ≡ 2 + n + fill n
filled n filling long units short e f = omega arith

-- a value after its length is read
counted_again : (unit least most : ℕ) (body value : List ℕ) (units : ℕ) → ((n : ℕ) → (unit * n) / unit ≡ n) → ((n : ℕ) → (unit * n) % unit ≡ 0)
    → ((n : ℕ) → n ≤ most → unit * n < 2 ^ 16) → length body + 2 ≡ 4 * units → IsCounted unit least most body value
    → (counted unit least most body ≡ true) × (counted_value unit body ≡ value)
counted_again unit least most body value units d m small size p =
    let n = length value in
    let number : from_be_bytes w16 body ≡ unit * n = ap (λ (b : List ℕ). from_be_bytes w16 b) p.parts ∙ from_be_bytes-to_be_bytes_2 (unit * n) (small n p.at_most) in
    let long : length body ≡ 2 + (n + length p.filling) = ap length p.parts ∙ omega (arith, length-append value p.filling) in
    let rest : drop 2 body ≡ value ++ p.filling = ap (λ (b : List ℕ). drop 2 b) p.parts in (
      test_is unit least most (from_be_bytes w16 body) n (length body) number (d n) (m n) p.at_least p.at_most (filled n (length p.filling) (length body) units p.short long size),
      ap (λ (k : ℕ). take (k / unit) (drop 2 body)) number ∙ ap (λ (k : ℕ). take k (drop 2 body)) (d n) ∙ ap (λ (b : List ℕ). take n b) rest ∙ take_at value p.filling n refl,
    )

-- a value whose test holds is read
value_if_true : (b : Bool) (kind : ℕ) (v w : List ℕ) → b ≡ true → v ≡ w → value_if b kind v ≡ Ok w
value_if_true b kind v w e f = rw e (ap (λ x. Ok x) f)

-- zero bytes of a right length are read
zeros_if_true : (b : Bool) (kind : ℕ) (body value : List ℕ) → b ≡ true → list_all is_zero body ≡ true → body ≡ value → zeros_if b kind body ≡ Ok value
zeros_if_true b kind body value e z f = rw (e, z) (ap (λ x. Ok x) f)

-- what follows two reserved bytes is read there
after_two : (body value : List ℕ) → IsAfterReserved body value → (length body ≡ 2 + length value) × (drop 2 body ≡ value)
after_two body value p =
    (ap length p.parts ∙ omega (arith, length-append p.free value, p.two), ap (λ (b : List ℕ). drop 2 b) p.parts ∙ drop_at p.free value 2 p.two)

-- a number that is one of three passes their test
three_tests : (n a b c : ℕ) → (n ≡ a) ⊎ ((n ≡ b) ⊎ (n ≡ c)) → (eqb n a || eqb n b || eqb n c) ≡ true
three_tests n a b c e = grind (arith, nat_tests)

-- a hash of 0, 20 or 32 bytes has a body of 2, 22 or 34
hash_tests : (n m : ℕ) → n ≡ 2 + m → (m ≡ 0) ⊎ ((m ≡ 20) ⊎ (m ≡ 32)) → (n ≡ 2) ⊎ ((n ≡ 22) ⊎ (n ≡ 34))
hash_tests n m e (inl h) = inl (omega arith)
hash_tests n m e (inr (inl h)) = inr (inl (omega arith))
hash_tests n m e (inr (inr h)) = inr (inr (omega arith))

-- a number that is one of two passes their test
two_tests : (n a b : ℕ) → (n ≡ a) ⊎ (n ≡ b) → (eqb n a || eqb n b) ≡ true
two_tests n a b e = grind (arith, nat_tests)

-- two or three times 16 bytes have a body of 34 or 50
several_tests : (n m : ℕ) → n ≡ 2 + m → (m ≡ 32) ⊎ (m ≡ 48) → (n ≡ 34) ⊎ (n ≡ 50)
several_tests n m e (inl h) = inl (omega arith)
several_tests n m e (inr h) = inr (omega arith)

-- the value of a body is read in it
pub body_again : (s : Shape) (kind : ℕ) (body value : List ℕ) (units : ℕ) → length body + 2 ≡ 4 * units → IsBody s body value → value_at s kind body ≡ Ok value
unfolding value_at
body_again (shape.Fixed n) kind body value units size p = value_if_true _ kind body value (eq-eqb (length body) n (ap length p.1 ∙ p.0)) p.1
body_again (shape.AfterReserved n) kind body value units size p =
    let b = after_two body value p.1 in value_if_true _ kind (drop 2 body) value (eq-eqb (length body) (2 + n) (omega (arith, b.0, p.0))) b.1
body_again shape.BitCounted kind body value units size p =
    let c = counted_again 8 4 16 body value units (λ n. omega arith) (λ n. omega arith) (λ n h. omega arith) size p in value_if_true _ kind (counted_value 8 body) value c.0 c.1
body_again shape.ByteCounted kind body value units size p =
    let c = counted_again 1 0 1016 body value units (λ n. omega arith) (λ n. omega arith) (λ n h. omega arith) size p in value_if_true _ kind (counted_value 1 body) value c.0 c.1
body_again shape.Several kind body value units size p =
    let b = after_two body value p.1 in
    value_if_true _ kind (drop 2 body) value (two_tests (length body) 34 50 (several_tests (length body) (length value) b.0 p.0)) b.1
body_again shape.Versions kind body value units size p =
    let c = counted_again 1 2 1016 body value units (λ n. omega arith) (λ n. omega arith) (λ n h. omega arith) size p.1 in
    let even : eqb (from_be_bytes w16 body % 2) 0 ≡ true = eq-eqb (from_be_bytes w16 body % 2) 0 (ap (λ (n : ℕ). n % 2) (even_size body value p.1) ∙ p.0) in
    value_if_true _ kind (counted_value 1 body) value (and_from _ (counted 1 2 1016 body) even c.0) c.1
body_again shape.Ciphertext kind body value units size p = ap (λ x. Ok x) (after_two body value p).1
body_again shape.Hash kind body value units size p =
    let b = after_two body value p.1 in
    value_if_true _ kind (drop 2 body) value (three_tests (length body) 2 22 34 (hash_tests (length body) (length value) b.0 p.0)) b.1
body_again shape.Zeros kind body value units size p =
    zeros_if_true _ kind body value
    (three_tests (length body) 2 6 10 (subst (λ (v : List ℕ). (length v ≡ 2) ⊎ ((length v ≡ 6) ⊎ (length v ≡ 10))) (sym p.2) p.0))
    (ap (λ v. list_all is_zero v) p.2 ∙ p.1) p.2
body_again shape.Flag kind body value units size p =
    value_if_true _ kind _ value (eq-eqb (length body) 2 (ap length p.parts))
    (ap (λ (b : List ℕ). cond (ltb (get_or b 0 0) 128) 0 1 ∷ []) p.parts ∙ sym p.top)
body_again shape.Skipped kind body value units size p = ap (λ x. Ok x) p

-- a bit has a spelling
flag_fits : (b : Bool) (value : List ℕ) → value ≡ cond b 0 1 ∷ [] → fits shape.Flag value ≡ true
unfolding fits
flag_fits true value e = rw e refl
flag_fits false value e = rw e refl

-- the value of a body has a spelling
pub body_fits : (s : Shape) (body value : List ℕ) (units : ℕ) → 0 < units → units < 256 → length body + 2 ≡ 4 * units → IsBody s body value → fits s value ≡ true
unfolding fits
body_fits (shape.Fixed n) body value units some small size p = eq-eqb (length value) n p.0
body_fits (shape.AfterReserved n) body value units some small size p = eq-eqb (length value) n p.0
body_fits shape.BitCounted body value units some small size p = and_from _ _ (le-leb 4 (length value) p.at_least) (le-leb (length value) 16 p.at_most)
body_fits shape.ByteCounted body value units some small size p = le-leb (length value) 1016 p.at_most
body_fits shape.Several body value units some small size p = two_tests (length value) 32 48 p.0
body_fits shape.Versions body value units some small size p =
    and_from _ _ (and_from _ _ (eq-eqb (length value % 2) 0 p.0) (le-leb 2 (length value) p.1.at_least)) (le-leb (length value) 1016 p.1.at_most)
body_fits shape.Ciphertext body value units some small size p =
    let b = after_two body value p in
    and_from _ _ (le-leb (length value) 1016 (omega (arith, b.0))) (eq-eqb (length value % 4) 0 (omega (arith, b.0)))
body_fits shape.Hash body value units some small size p = three_tests (length value) 0 20 32 p.0
body_fits shape.Zeros body value units some small size p = and_from _ _ (three_tests (length value) 2 6 10 p.0) p.1
body_fits shape.Flag body value units some small size p = flag_fits (ltb p.first 128) value p.top
body_fits shape.Skipped body value units some small size p =
    let n : length value ≡ length body = ap length (sym p) in
    and_from _ _ (and_from _ _ (le-leb 2 (length value) (omega arith)) (le-leb (length value) 1018 (omega arith))) (eq-eqb (length value % 4) 2 (omega arith))
