-- Lemmas on strings of bytes, for the functions on blocks and for the laws.
use Rattle.std.proofs.Common.{◌≡◌, ℕ, zero, suc, ◌/◌, ◌%◌, ◌^◌, ◌<◌, List, [], ◌∷◌, length, get_or, bit_xor, map, refl, sym, ap, ◌∙◌, arith}
use Rattle.std.specs.Int.{w32, to_be_bytes}
use Rattle.std.proofs.lemmas.Nat.{xor_shr, xor_mod, xor_comm}
use Rattle.std.specs.Int.Bits.{xor_assoc}
use Rattle.auc_aes.specs.Bytes.{xor}

-- a list whose element at each place is the exclusive or of those of two lists is their exclusive or
pub xor_by_index : (xs ys zs : List ℕ) → length xs ≡ length ys → length zs ≡ length ys
    → ((k : ℕ) → k < length ys → get_or zs k 0 ≡ bit_xor (get_or xs k 0) (get_or ys k 0)) → zs ≡ xor xs ys
xor_by_index [] [] [] e f h = refl
xor_by_index [] [] (z ∷ zs) e f h = absurd (omega arith)
xor_by_index [] (y ∷ ys) zs e f h = absurd (omega arith)
xor_by_index (x ∷ xs) [] zs e f h = absurd (omega arith)
xor_by_index (x ∷ xs) (y ∷ ys) [] e f h = absurd (omega arith)
xor_by_index (x ∷ xs) (y ∷ ys) (z ∷ zs) e f h =
    let first : z ≡ bit_xor x y = h 0 (omega arith) in
    let rest : zs ≡ xor xs ys = xor_by_index xs ys zs (omega arith) (omega arith) (λ k l. h (suc k) (omega arith)) in
    ap (λ a. a ∷ zs) first ∙ ap (λ as'. bit_xor x y ∷ as') rest

-- a list whose element at each place is f of another list's is that list under f
pub map_by_index : (f : ℕ → ℕ) (xs zs : List ℕ) → length zs ≡ length xs
    → ((k : ℕ) → k < length xs → get_or zs k 0 ≡ f (get_or xs k 0)) → zs ≡ map f xs
map_by_index f [] [] e h = refl
map_by_index f [] (z ∷ zs) e h = absurd (omega arith)
map_by_index f (x ∷ xs) [] e h = absurd (omega arith)
map_by_index f (x ∷ xs) (z ∷ zs) e h =
    let first : z ≡ f x = h 0 (omega arith) in
    let rest : zs ≡ map f xs = map_by_index f xs zs (omega arith) (λ k l. h (suc k) (omega arith)) in
    ap (λ a. a ∷ zs) first ∙ ap (λ as'. f x ∷ as') rest

-- the list of f 0, f 1, .., of n elements
abbrev pub tabulate : ℕ → (ℕ → ℕ) → List ℕ
tabulate zero f = []
tabulate (suc n) f = f 0 ∷ tabulate n (λ k. f (suc k))

-- a list is the list of its elements
pub tabulate-get_or : (xs : List ℕ) → tabulate (length xs) (λ k. get_or xs k 0) ≡ xs
tabulate-get_or [] = refl
tabulate-get_or (x ∷ xs) = ap (λ rest. x ∷ rest) (tabulate-get_or xs)

-- a list of n elements is the list of its n elements
pub listed : (n : ℕ) (xs : List ℕ) → length xs ≡ n → tabulate n (λ k. get_or xs k 0) ≡ xs
listed n xs e = ap (λ m. tabulate m (λ k. get_or xs k 0)) (sym e) ∙ tabulate-get_or xs

-- byte k of an exclusive or
pub byte_xor : (m n k : ℕ) → bit_xor m n / 2 ^ k % 2 ^ 8 ≡ bit_xor (m / 2 ^ k % 2 ^ 8) (n / 2 ^ k % 2 ^ 8)
byte_xor m n k = ap (λ x. x % 2 ^ 8) (xor_shr m n k) ∙ xor_mod (m / 2 ^ k) (n / 2 ^ k) 8

-- the bytes of the exclusive or of two words
pub to_be_bytes-xor : (m n : ℕ) → to_be_bytes w32 (bit_xor m n) ≡ xor (to_be_bytes w32 m) (to_be_bytes w32 n)
to_be_bytes-xor m n =
    let a : bit_xor m n / 16777216 % 256 ≡ bit_xor (m / 16777216 % 256) (n / 16777216 % 256) = byte_xor m n 24 in
    let b : bit_xor m n / 65536 % 256 ≡ bit_xor (m / 65536 % 256) (n / 65536 % 256) = byte_xor m n 16 in
    let c : bit_xor m n / 256 % 256 ≡ bit_xor (m / 256 % 256) (n / 256 % 256) = byte_xor m n 8 in
    let d : bit_xor m n % 256 ≡ bit_xor (m % 256) (n % 256) = xor_mod m n 8 in
    rw (a, b, c, d) refl

-- the first of four numbers that are added by exclusive or may come last
pub xor_turn : (w x y z : ℕ) → bit_xor (bit_xor (bit_xor w x) y) z ≡ bit_xor (bit_xor (bit_xor x y) z) w
xor_turn w x y z =
    ap (λ n. bit_xor n z) (xor_assoc w x y) ∙ xor_assoc w (bit_xor x y) z ∙ xor_comm w (bit_xor (bit_xor x y) z)
