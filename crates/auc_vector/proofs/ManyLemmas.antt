-- Vectors of consecutive numbers, and blocks of which four belong to each.
use Rattle.std.proofs.Common.{◌≡◌, ℕ, zero, suc, ◌+◌, ◌*◌, ◌<◌, ◌≤◌, List, [], ◌∷◌, ◌++◌, length, map, take, drop, get_or, set, bit_xor, refl, sym, ap, ◌∙◌, arith}
use Rattle.std.proofs.lemmas.List.{get_or-set_same, get_or-set_other, length-set, length-map, get_or-map, get_or-take, get_or_append_left, ext_get_or}
use Rattle.std.proofs.lemmas.List.{length-take-le, length-drop, drop-take, take-append-drop}
use Rattle.std.proofs.lemmas.Slice.{take-put_mid}
use borrow.Author.Count.{below_more}
use borrow.Rule.Slice.PartMut.{put_mid, same_len_mid}
use lib.Lanes.{zip2}
use Rattle.auc_aes.specs.Bytes.{xor}
use Rattle.auc_aes.specs.Cipher.{aes}
use Rattle.auc_aes.proofs.Facts.{tabulate, listed}
use Rattle.auc_hmac.specs.declared.method.Method.{Method}
use Rattle.auc_hmac.specs.declared.method.Method.TheVariants.{Aka}
use Rattle.auc_milenage.specs.Lanes.{GiveOuts}
use Rattle.auc_milenage.specs.Milenage.{in1_of, f1, f2, f3, f4, f5}
use Rattle.auc_milenage.specs.declared.secret.Secret.{Secret}
use Rattle.auc_sqn.specs.Number.{sqn_bytes}
use Rattle.auc_vector.specs.Many.{AreCiphers, AreInputs, keyed_by, vectors_of}
use Rattle.auc_vector.specs.Vector.{vector_of, autn_of}
use Rattle.auc_vector.specs.declared.parts.Vector.{Vector}

-- a vector that stands where a list has none
pub none : Vector
none = record { n = 0; rand = []; autn = []; xres = []; ck = []; ik = [] }

-- ---- lists of vectors

pub length-vectors_of : (s : Secret) (m : Method) (amf name : List ℕ) (bits n : ℕ) (rands : List (List ℕ)) → length (vectors_of s m amf name bits n rands) ≡ length rands
length-vectors_of s m amf name bits n [] = refl
length-vectors_of s m amf name bits n (r ∷ rs) = ap suc (length-vectors_of s m amf name bits (n + 1) rs)

pub vectors_at : (s : Secret) (m : Method) (amf name : List ℕ) (bits n : ℕ) (rands : List (List ℕ)) (i : ℕ) → i < length rands
    → get_or (vectors_of s m amf name bits n rands) i none ≡ vector_of s m amf name bits (n + i) (get_or rands i [])
vectors_at s m amf name bits n [] i l = absurd (omega arith)
vectors_at s m amf name bits n (r ∷ rs) zero l = let same : n ≡ n + 0 = omega arith in ap (λ k. vector_of s m amf name bits k r) same
vectors_at s m amf name bits n (r ∷ rs) (suc i) l =
    let same : n + 1 + i ≡ n + suc i = omega arith in
    vectors_at s m amf name bits (n + 1) rs i (omega arith) ∙ ap (λ k. vector_of s m amf name bits k (get_or rs i [])) same

pub vectors-append : (s : Secret) (m : Method) (amf name : List ℕ) (bits n : ℕ) (xs ys : List (List ℕ))
    → vectors_of s m amf name bits n (xs ++ ys) ≡ vectors_of s m amf name bits n xs ++ vectors_of s m amf name bits (n + length xs) ys
vectors-append s m amf name bits n [] ys = let same : n ≡ n + 0 = omega arith in ap (λ k. vectors_of s m amf name bits k ys) same
vectors-append s m amf name bits n (x ∷ xs) ys =
    let same : n + 1 + length xs ≡ n + suc (length xs) = omega arith in
    ap (λ l. vector_of s m amf name bits n x ∷ l)
    (vectors-append s m amf name bits (n + 1) xs ys ∙ ap (λ k. vectors_of s m amf name bits (n + 1) xs ++ vectors_of s m amf name bits k ys) same)

-- CK and IK by the method, of all
pub all_keyed : (s : Secret) (m : Method) (amf name : List ℕ) (bits n : ℕ) (rands : List (List ℕ))
    → map (keyed_by m name) (vectors_of s Aka amf [] bits n rands) ≡ vectors_of s m amf name bits n rands
all_keyed s m amf name bits n [] = refl
all_keyed s m amf name bits n (r ∷ rs) = ap (λ l. vector_of s m amf name bits n r ∷ l) (all_keyed s m amf name bits (n + 1) rs)

-- a list whose element at each place is f of another list's
pub mapped : (f : Vector → Vector) (xs zs : List Vector) → length zs ≡ length xs
    → ((k : ℕ) → k < length xs → get_or zs k none ≡ f (get_or xs k none)) → zs ≡ map f xs
mapped f xs zs e h =
    ext_get_or none zs (map f xs) (e ∙ sym (length-map xs f)) (λ i under.
    h i (omega (arith, e)) ∙ sym (get_or-map f xs i none none (omega (arith, e))))

-- ---- four blocks of each number

abbrev pub with_four : List (List ℕ) → ℕ → List (List ℕ) → List (List ℕ)
with_four blocks p made = set (set (set (set blocks p (get_or made 0 [])) (p + 1) (get_or made 1 [])) (p + 2) (get_or made 2 [])) (p + 3) (get_or made 3 [])

other_place : (blocks : List (List ℕ)) (p q : ℕ) (made : List (List ℕ)) → q < p → get_or (with_four blocks p made) q [] ≡ get_or blocks q []
other_place blocks p q made l =
    get_or-set_other _ (p + 3) q _ [] (λ same. omega arith) ∙ get_or-set_other _ (p + 2) q _ [] (λ same. omega arith)
    ∙ get_or-set_other _ (p + 1) q _ [] (λ same. omega arith) ∙ get_or-set_other blocks p q _ [] (λ same. omega arith)

place_0 : (blocks : List (List ℕ)) (p : ℕ) (made : List (List ℕ)) → p + 4 ≤ length blocks → get_or (with_four blocks p made) p [] ≡ get_or made 0 []
place_0 blocks p made l =
    get_or-set_other _ (p + 3) p _ [] (λ same. omega arith) ∙ get_or-set_other _ (p + 2) p _ [] (λ same. omega arith)
    ∙ get_or-set_other _ (p + 1) p _ [] (λ same. omega arith) ∙ get_or-set_same blocks p (get_or made 0 []) [] (omega arith)

place_1 : (blocks : List (List ℕ)) (p : ℕ) (made : List (List ℕ)) → p + 4 ≤ length blocks → get_or (with_four blocks p made) (p + 1) [] ≡ get_or made 1 []
place_1 blocks p made l =
    let one = set blocks p (get_or made 0 []) in
    get_or-set_other _ (p + 3) (p + 1) _ [] (λ same. omega arith) ∙ get_or-set_other _ (p + 2) (p + 1) _ [] (λ same. omega arith)
    ∙ get_or-set_same one (p + 1) (get_or made 1 []) [] (omega (arith, length-set blocks p (get_or made 0 [])))

place_2 : (blocks : List (List ℕ)) (p : ℕ) (made : List (List ℕ)) → p + 4 ≤ length blocks → get_or (with_four blocks p made) (p + 2) [] ≡ get_or made 2 []
place_2 blocks p made l =
    let one = set blocks p (get_or made 0 []) in
    let two = set one (p + 1) (get_or made 1 []) in
    get_or-set_other _ (p + 3) (p + 2) _ [] (λ same. omega arith)
    ∙ get_or-set_same two (p + 2) (get_or made 2 []) [] (omega (arith, length-set blocks p (get_or made 0 []), length-set one (p + 1) (get_or made 1 [])))

place_3 : (blocks : List (List ℕ)) (p : ℕ) (made : List (List ℕ)) → p + 4 ≤ length blocks → get_or (with_four blocks p made) (p + 3) [] ≡ get_or made 3 []
place_3 blocks p made l =
    let one = set blocks p (get_or made 0 []) in
    let two = set one (p + 1) (get_or made 1 []) in
    let three = set two (p + 2) (get_or made 2 []) in
    get_or-set_same three (p + 3) (get_or made 3 [])
    [] (omega (arith, length-set blocks p (get_or made 0 []), length-set one (p + 1) (get_or made 1 []), length-set two (p + 2) (get_or made 2 [])))

pub with_four_size : (blocks : List (List ℕ)) (p : ℕ) (made : List (List ℕ)) → length (with_four blocks p made) ≡ length blocks
with_four_size blocks p made =
    length-set _ (p + 3) (get_or made 3 []) ∙ length-set _ (p + 2) (get_or made 2 []) ∙ length-set _ (p + 1) (get_or made 1 [])
    ∙ length-set blocks p (get_or made 0 [])

-- the blocks of one more number
pub inputs_next : (s : Secret) (amf : List ℕ) (bits first : ℕ) (rands blocks made : List (List ℕ)) (i : ℕ) → length blocks ≡ 64 → i < 16
    → ((j : ℕ) → j < i → AreInputs s amf bits first rands blocks j)
    → GiveOuts s (get_or rands i []) (sqn_bytes bits (first + i)) amf (aes s.k (get_or made 0 [])) (aes s.k (get_or made 1 [])) (aes s.k (get_or made 2 [])) (aes s.k (get_or made 3 []))
    → (j : ℕ) → j < i + 1 → AreInputs s amf bits first rands (with_four blocks (4 * i) made) j
inputs_next s amf bits first rands blocks made i size small before give =
    below_more (λ j. AreInputs s amf bits first rands (with_four blocks (4 * i) made) j) i
    (λ j under. rw (other_place blocks (4 * i) (4 * j) made (omega arith), other_place blocks (4 * i) (4 * j + 1) made (omega arith), other_place blocks (4 * i) (4 * j + 2) made (omega arith), other_place blocks (4 * i) (4 * j + 3) made (omega arith)) (before j under))
    (rw (place_0 blocks (4 * i) made (omega arith), place_1 blocks (4 * i) made (omega arith), place_2 blocks (4 * i) made (omega arith), place_3 blocks (4 * i) made (omega arith)) give)

-- the ciphers of the first blocks
pub ciphers_are : (s : Secret) (amf : List ℕ) (bits first count : ℕ) (rands blocks made rest : List (List ℕ)) (j : ℕ) → 4 * count ≤ length blocks
    → made ≡ map (aes s.k) (take (4 * count) blocks) → j < count → AreInputs s amf bits first rands blocks j → AreCiphers s amf bits first rands (made ++ rest) j
ciphers_are s amf bits first count rands blocks made rest j long em l given =
    rw (at (4 * j) (omega arith), at (4 * j + 1) (omega arith), at (4 * j + 2) (omega arith), at (4 * j + 3) (omega arith)) given
  where
    size : length (take (4 * count) blocks) ≡ 4 * count
    size = length-take-le (4 * count) blocks long

    at : (q : ℕ) → q < 4 * count → get_or (made ++ rest) q [] ≡ aes s.k (get_or blocks q [])
    at q under =
        get_or_append_left made rest [] q (omega (arith, ap length em, length-map (take (4 * count) blocks) (aes s.k), size))
        ∙ ap (λ l. get_or l q []) em ∙ get_or-map (aes s.k) (take (4 * count) blocks) q [] [] (omega (arith, size))
        ∙ ap (aes s.k) (get_or-take (4 * count) blocks q [] under)

-- ---- groups of numbers

take_front : (n m : ℕ) (xs : List (List ℕ)) → n ≤ m → take n (take m xs) ≡ take n xs
take_front zero m xs l = refl
take_front (suc n) zero xs l = absurd (omega arith)
take_front (suc n) (suc m) [] l = refl
take_front (suc n) (suc m) (x ∷ xs) l = ap (λ rest. x ∷ rest) (take_front n m xs (omega arith))

take_more : (at k : ℕ) (xs : List (List ℕ)) → take at xs ++ take k (drop at xs) ≡ take (at + k) xs
take_more at k xs =
    ap (λ l. l ++ take k (drop at xs)) (sym (take_front at (at + k) xs (omega arith))) ∙ ap (λ l. take at (take (at + k) xs) ++ l) (sym (drop-take at k xs))
    ∙ take-append-drop at (take (at + k) xs)

-- the vectors of one more group
pub fill_next : (s : Secret) (amf : List ℕ) (bits first at count k : ℕ) (rands : List (List ℕ)) (out made : List Vector) → at + count ≤ length rands
    → length out ≡ length rands → k ≡ count → take at out ≡ vectors_of s Aka amf [] bits first (take at rands)
    → made ≡ vectors_of s Aka amf [] bits (first + at) (take k (drop at rands))
    → (take (at + count) (put_mid at k out made) ≡ vectors_of s Aka amf [] bits first (take (at + count) rands)) × (length (put_mid at k out made) ≡ length rands)
fill_next s amf bits first at count k rands out made long same ek before em =
    let group = take k (drop at rands) in
    let left : k ≤ length (drop at rands) = omega (arith, length-drop at rands) in
    let size : length made ≡ k = ap length em ∙ length-vectors_of s Aka amf [] bits (first + at) group ∙ length-take-le k (drop at rands) left in
    let front : length (take at rands) ≡ at = length-take-le at rands (omega arith) in
    let mid : length made ≡ length (take k (drop at out)) = size ∙ sym (length-take-le k (drop at out) (omega (arith, length-drop at out))) in
    let both : vectors_of s Aka amf [] bits first (take at rands) ++ vectors_of s Aka amf [] bits (first + at) group ≡ vectors_of s Aka amf [] bits first (take at rands ++ group) =
    ap (λ m. vectors_of s Aka amf [] bits first (take at rands) ++ vectors_of s Aka amf [] bits (first + m) group) (sym front)
    ∙ sym (vectors-append s Aka amf [] bits first (take at rands) group) in (
      take-put_mid at k out made (at + count) (omega (arith, size)) (omega arith) ∙ ap (λ l. l ++ made) before
          ∙ ap (λ l. vectors_of s Aka amf [] bits first (take at rands) ++ l) em ∙ both
          ∙ ap (vectors_of s Aka amf [] bits first) (take_more at k rands ∙ ap (λ m. take (at + m) rands) ek),
      same_len_mid at k out made mid ∙ same,
    )

-- ---- AUTN

abbrev front_places : List ℕ
front_places = 0 ∷ 1 ∷ 2 ∷ 3 ∷ 4 ∷ 5 ∷ 22 ∷ 23 ∷ 8 ∷ 9 ∷ 10 ∷ 11 ∷ 12 ∷ 13 ∷ 14 ∷ 15 ∷ []

abbrev autn_places : List ℕ
autn_places = 0 ∷ 1 ∷ 2 ∷ 3 ∷ 4 ∷ 5 ∷ 6 ∷ 7 ∷ 16 ∷ 17 ∷ 18 ∷ 19 ∷ 20 ∷ 21 ∷ 22 ∷ 23 ∷ []

abbrev pub joined : List ℕ → List ℕ → List ℕ → List ℕ
joined in1 out1 out2 = map (λ k. get_or (map (λ k. get_or (zip2 bit_xor in1 out2 ++ in1) k 0) front_places ++ out1) k 0) autn_places

abbrev parts : List ℕ → List ℕ → List ℕ → List ℕ → List ℕ
parts sqn amf out1 out2 = xor sqn (take 6 out2) ++ amf ++ take 8 out1

abbrev six : List ℕ → List ℕ
six l = tabulate 6 (λ k. get_or l k 0)

abbrev two : List ℕ → List ℕ
two l = tabulate 2 (λ k. get_or l k 0)

abbrev all : List ℕ → List ℕ
all l = tabulate 16 (λ k. get_or l k 0)

autn_listed : (sqn amf out1 out2 : List ℕ) → joined (in1_of (six sqn) (two amf)) (all out1) (all out2) ≡ parts (six sqn) (two amf) (all out1) (all out2)
unfolding in1_of
autn_listed sqn amf out1 out2 = refl

pub autn_is : (in1 out1 out2 sqn amf : List ℕ) → length out1 ≡ 16 → length out2 ≡ 16 → length sqn ≡ 6 → length amf ≡ 2 → in1 ≡ in1_of sqn amf
    → joined in1 out1 out2 ≡ xor sqn (take 6 out2) ++ amf ++ take 8 out1
autn_is in1 out1 out2 sqn amf l1 l2 ls la ei =
    let es : six sqn ≡ sqn = listed 6 sqn ls in
    let ea : two amf ≡ amf = listed 2 amf la in
    let e1 : all out1 ≡ out1 = listed 16 out1 l1 in
    let e2 : all out2 ≡ out2 = listed 16 out2 l2 in
    ap (λ i. joined i out1 out2) (ei ∙ sym (ap (in1_of (six sqn)) ea ∙ ap (λ q. in1_of q amf) es))
    ∙ sym (ap (λ o. joined (in1_of (six sqn) (two amf)) o (all out2)) e1 ∙ ap (joined (in1_of (six sqn) (two amf)) out1) e2)
    ∙ autn_listed sqn amf out1 out2
    ∙ ap (λ q. parts q (two amf) (all out1) (all out2)) es ∙ ap (λ a. parts sqn a (all out1) (all out2)) ea
    ∙ ap (λ o. parts sqn amf o (all out2)) e1 ∙ ap (parts sqn amf out1) e2

-- the vector of a number, from its four ciphers
pub made_is : (s : Secret) (amf rand a b c d autn xres ck ik : List ℕ) (bits n : ℕ) → GiveOuts s rand (sqn_bytes bits n) amf a b c d
    → autn ≡ xor (sqn_bytes bits n) (take 6 (xor b s.opc)) ++ amf ++ take 8 (xor a s.opc) → xres ≡ drop 8 (xor b s.opc) → ck ≡ xor c s.opc → ik ≡ xor d s.opc
    → record { n = n; rand = rand; autn = autn; xres = xres; ck = ck; ik = ik } ≡ vector_of s Aka amf [] bits n rand
unfolding autn_of f1 f2 f3 f4 f5
made_is s amf rand a b c d autn xres ck ik bits n give ea ex ec ed = rw (ea, ex, ec, ed, give.first, give.second, give.third, give.fourth) refl
